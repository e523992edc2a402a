-- A step brings an operation closer to its end, and a call of the disk costs a step.
use Rattle.std.proofs.Common.{◌≡◌, ◌≢◌, ◌⊎◌, ◌<◌, ◌≤◌, ◌+◌, inl, inr, ℕ, Bool, true, false, cond, refl, ap, arith}
use Rattle.std.proofs.Math.Nat.{min-le_left}
use Rattle.std.proofs.lemmas.Bool.{false≢true}
use Rattle.definitions.specs.Disk as disk
use Rattle.plain_machine.specs.declared.event.Actor.TheVariants as actor
use Rattle.plain_machine.specs.declared.event.Event.TheVariants as event
use Rattle.plain_machine.specs.declared.event.IdentCheck.{IdentCheck}
use Rattle.plain_machine.specs.declared.event.Loader.{Loader}
use Rattle.plain_machine.specs.declared.reply.Reply.{Reply}
use Rattle.plain_machine.specs.declared.reply.Reply.TheVariants as reply
use Rattle.protocol_laws.specs.Rows.{is_idle}
use Rattle.world_core.specs.Row.{CallsAtMostOnce}
use Rattle.world_core.specs.StepsLeft.{ComesCloser, Ends, steps_left}
use Rattle.world_core.specs.World.{World}
use Rattle.command_core.specs.Runs.{goes_on}

idle_or_not : (r : Reply) → (r ≡ reply.Idle) ⊎ (r ≢ reply.Idle)
idle_or_not reply.Idle = inl refl
idle_or_not _ = inr (λ e. false≢true (ap is_idle e))

-- what a loop over the steps has left to do
abbrev pub work_left : World → Reply → ℕ
work_left w last = steps_left w + cond (goes_on last) 1 0

one_at_most : (b : Bool) → cond b 1 0 ≤ 1
one_at_most true = omega arith
one_at_most false = omega arith

none_left : (a b x y : ℕ) → a ≡ 0 → x ≡ 0 → y ≡ 1 → a + x < b + y
none_left a b x y none stops goes = omega arith

some_left : (a b x y : ℕ) → a < b → x ≤ 1 → y ≡ 1 → a + x < b + y
some_left a b x y fewer most goes = omega arith

pub work_less : (old new : World) (last r : Reply) → goes_on last ≡ true → ComesCloser old r new → work_left new r < work_left old last
work_less old new last r goes closer = elim (idle_or_not r) [
  | inl idle ↦ none_left (steps_left new) (steps_left old) (cond (goes_on r) 1 0) (cond (goes_on last) 1 0) (closer.idle idle) (ap (λ (x : Reply). cond (goes_on x) 1 0) idle) (ap (λ (b : Bool). cond b 1 0) goes)
  | inr works ↦ some_left (steps_left new) (steps_left old) (cond (goes_on r) 1 0) (cond (goes_on last) 1 0) (closer.fewer works) (one_at_most (goes_on r)) (ap (λ (b : Bool). cond b 1 0) goes)
]

pub calls_cost : (old new : World) (r : Reply) (before now : ℕ) → ComesCloser old r new → CallsAtMostOnce (event.Step actor.Core) r before now → now + steps_left new ≤ before + steps_left old
calls_cost old new r before now closer (inl same) = elim (idle_or_not r) [
  | inl idle ↦ (let none = closer.idle idle in omega arith)
  | inr works ↦ (let fewer = closer.fewer works in omega arith)
]
calls_cost old new r before now closer (inr (step, works, called)) =
    let fewer = closer.fewer works in
    omega (arith, min-le_left (before + 1) disk.last_count)

-- at the end
pub calls_of_all : (old new : World) (begun : Reply) (before now : ℕ) → now + steps_left new ≤ before + steps_left old → (goes_on begun ≡ false → now ≡ before) → now ≤ before + cond (goes_on begun) (steps_left old) 0
calls_of_all old new begun before now cost none = by_begun (goes_on begun) refl where
  by_begun : (b : Bool) → goes_on begun ≡ b → now ≤ before + cond (goes_on begun) (steps_left old) 0
  by_begun true is = let all : cond (goes_on begun) (steps_left old) 0 ≡ steps_left old = ap (λ (x : Bool). cond x (steps_left old) 0) is in omega arith
  by_begun false is =
      let all : cond (goes_on begun) (steps_left old) 0 ≡ 0 = ap (λ (x : Bool). cond x (steps_left old) 0) is in
      let same = none is in
      omega arith

-- a resume, which calls no disk when it begins
pub few_of_resume : (loader : Loader) (check : IdentCheck) (old begun : World) (r : Reply) (before between now : ℕ) → CallsAtMostOnce (event.Resume loader check) r before between → Ends (event.Resume loader check) old r begun → now ≤ between + cond (goes_on r) (steps_left begun) 0 → now ≤ before + 65800
few_of_resume loader check old begun r before between now (inr called) ends few = absurd called.0
few_of_resume loader check old begun r before between now (inl same) (inl going) few =
    let all : cond (goes_on r) (steps_left begun) 0 ≡ steps_left begun = ap (λ (x : Reply). cond (goes_on x) (steps_left begun) 0) going.0 in
    let most = going.1 in
    omega arith
few_of_resume loader check old begun r before between now (inl same) (inr (inl on)) few =
    let all : cond (goes_on r) (steps_left begun) 0 ≡ 0 = ap (λ (x : Reply). cond (goes_on x) (steps_left begun) 0) on in
    omega arith
few_of_resume loader check old begun r before between now (inl same) (inr (inr bare)) few =
    let all : cond (goes_on r) (steps_left begun) 0 ≡ 0 = ap (λ (x : Reply). cond (goes_on x) (steps_left begun) 0) bare in
    omega arith
