use Rattle.std.proofs.Common.{◌≡◌, ℕ, arith, subst, inl, inr}
use Rattle.std.proofs.lemmas.Bool.{cases_lt}
use Rattle.std.specs.List.{Contains}
use Rattle.definitions.specs.Zones.{numbers}
use Rattle.swap_slots.proofs.runs.FreeRuns.next_free.Goals as goal

pub loop-slot-preserved : goal.loop-slot-preserved
loop-slot-preserved c s from lt in' =
    elim (cases_lt s c.loop-slot.slot) [
      | inl below ↦ c.loop-slot.invariant s from below in'
      | inr ge ↦
          let here : s ≡ c.loop-slot.slot = omega arith in
          let yes = c.has.ensures.1 (subst (λ (x : ℕ). Contains (numbers c.args.self.now.runs) x) here in') in
          let no = c.if-has.false in
          cc
    ]

pub returns-clause-before : goal.returns-clause-before
returns-clause-before c s from lt in' = let past = c.loop-slot-test.false in c.loop-slot.invariant s from (omega arith) in'
