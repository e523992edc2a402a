-- A shrink drops the fewest page frames that meet what is wanted.
use Rattle.std.proofs.Common.{◌≡◌, ◌<◌, ◌≤◌, ◌-◌, ◌⊎◌, inl, inr, ℕ, length, Option, Some, None, ap, arith}
use Rattle.std.specs.Prelude.{⊤}
use Rattle.std.specs.List.{AllByRecursion}
use Rattle.std.proofs.lemmas.Bool.{cases_lt}
use Rattle.std.proofs.lemmas.List.{length-take-le, take_all}
use Rattle.std.proofs.lemmas.List.Elements.{All-from_recursion, All-contains}
use Rattle.definitions.specs.Disk as disk
use Rattle.plain_machine.specs.Machine.{Hardware, Memory, saveable}
use Rattle.plain_machine.specs.Refusals.{busy_reply, busy_task, refusal}
use Rattle.plain_machine.specs.State.{on, Running}
use Rattle.plain_machine.specs.Step.{accepted, droppable, dropped_by, outcomes, refused_or}
use Rattle.plain_machine.specs.declared.event.Event.TheVariants as event
use Rattle.plain_machine.specs.declared.reply.Reply.{Reply}
use Rattle.plain_machine.specs.declared.reply.Reply.TheVariants as reply
use Rattle.theorem_laws.specs.Shrinks.{MeetsWant, ShrinksLeast}

-- as many are dropped as are saveable beyond those that are wanted, or else all that may be
count_dropped : (h : Hardware) (m : Memory) (want : ℕ) → let n = length (saveable h m) in let c = length (droppable h m) in let d = length (dropped_by h m want) in
    ((n - want ≤ c) × (d ≡ n - want)) ⊎ ((c < n - want) × (d ≡ c))
count_dropped h m want = elim (cases_lt (length (droppable h m)) (length (saveable h m) - want)) [
  | inl few ↦ inr (few, ap length (take_all (length (saveable h m) - want) (droppable h m) (omega arith)))
  | inr enough ↦ inl (enough, length-take-le (length (saveable h m) - want) (droppable h m) enough)
]

least : (h : Hardware) (m : Memory) (want : ℕ) → MeetsWant h m want (length (dropped_by h m want)) (length (saveable h m) - length (dropped_by h m want))
least h m want = elim (count_dropped h m want) [
  | inl (enough, all) ↦ record { counted = omega arith; fewest = λ fewer lt. omega arith; met = (λ le. enough, λ le. omega arith) }
  | inr (few, all) ↦ record { counted = omega arith; fewest = λ fewer lt. omega arith; met = (λ le. absurd (omega arith), λ le. absurd (omega arith)) }
]

abbrev TellsLeast : Hardware → Memory → ℕ → Reply → Type 0
TellsLeast h m want (reply.Shrunk dropped left) = MeetsWant h m want dropped left
TellsLeast h m want _ = ⊤

all_least : (h : Hardware) (v : disk.DiskImage) (a : Running) (want : ℕ) → AllByRecursion (λ o. TellsLeast h a.memory want o.0) (outcomes h v (on a) (event.Shrink want))
unfolding outcomes refusal
all_least h v a want = by_task (busy_task a) where
  by_task : (t : Option ℕ) → AllByRecursion (λ o. TellsLeast h a.memory want o.0) (refused_or (on a) (busy_reply t) (accepted h v (on a) (event.Shrink want)))
  by_task None = (least h a.memory want, tt)
  by_task (Some t) = (tt, tt)

pub shrinks_least : ShrinksLeast
shrinks_least h v a want dropped left b step =
    let os = outcomes h v (on a) (event.Shrink want) in
    All-contains (λ o. TellsLeast h a.memory want o.0) os (reply.Shrunk dropped left, b) (All-from_recursion (λ o. TellsLeast h a.memory want o.0) os (all_least h v a want)) step
