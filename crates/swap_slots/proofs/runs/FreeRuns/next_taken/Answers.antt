use Rattle.std.proofs.Common.{◌≡◌, ℕ, arith, subst, sym, List, inl, inr}
use Rattle.std.proofs.lemmas.Bool.{cases_lt}
use Rattle.std.specs.List.{Contains}
use Rattle.definitions.specs.Zones.{numbers}
use Rattle.swap_slots.proofs.Changes.{members_seen}
use Rattle.swap_slots.proofs.FreeBits.{member}
use Rattle.swap_slots.proofs.runs.FreeRuns.next_taken.Goals as goal

pub loop-slot-preserved : goal.loop-slot-preserved
loop-slot-preserved c s from lt =
    elim (cases_lt s c.loop-slot.slot) [
      | inl below ↦ c.loop-slot.invariant s from below
      | inr ge ↦
          let here : c.loop-slot.slot ≡ s = omega arith in
          subst (λ (x : ℕ). Contains (numbers c.args.self.now.runs) x) here (c.has.ensures.0 c.if-not-has.false)
    ]

pub returns-clause-here : goal.returns-clause-here
returns-clause-here c in' =
    let members = members_seen c.self.inside c.args.self.now c.self.view_is in
    let low = member c.self.inside.room c.self.inside.bits.items c.self.inside.room (subst (λ (xs : List ℕ). Contains xs c.self.inside.room) (sym members) in') in
    omega arith
