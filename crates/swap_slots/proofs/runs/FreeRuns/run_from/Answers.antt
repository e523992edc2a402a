use Rattle.std.proofs.Common.{◌≡◌, ℕ, ◌<◌, arith, subst, sym, ap, List, inl, inr}
use Rattle.std.proofs.lemmas.Bool.{cases_lt}
use Rattle.std.specs.List.{Contains}
use Rattle.std.specs.List.Sorted.{IsStrictlyIncreasing}
use Rattle.definitions.specs.Zones.{numbers}
use Rattle.swap_slots.specs.Runs.{SlotRuns}
use Rattle.swap_slots.proofs.Changes.{members_seen}
use Rattle.swap_slots.proofs.FreeBits.{member, IsStrictlyIncreasing-members_of}
use Rattle.swap_slots.proofs.FirstRun.{from_slot-none, is_first_run}
use Rattle.swap_slots.proofs.runs.FreeRuns.run_from.Goals as goal

pub returns-then-start-self : goal.returns-then-start-self
returns-then-start-self c =
    let r = c.self.inside in
    let members = members_seen r c.args.self.now c.self.view_is in
    let up = subst IsStrictlyIncreasing members (IsStrictlyIncreasing-members_of r.room r.bits.items) in
    from_slot-none c.args.from (numbers c.args.self.now.runs) up
    (λ s from in'.
    let low = (member r.room r.bits.items s (subst (λ (xs : List ℕ). Contains xs s) (sym members) in')).0 in
    c.next_free-start.ensures.before s from (omega arith) in')

pub returns : goal.returns
returns c =
    let r = c.self.inside in
    let members = members_seen r c.args.self.now c.self.view_is in
    let room : r.room ≡ c.args.self.now.room = ap (λ (s : SlotRuns). s.room) c.self.view_is in
    let up = subst IsStrictlyIncreasing members (IsStrictlyIncreasing-members_of r.room r.bits.items) in
    let start = c.next_free-start.result in
    let end = c.next_taken.result in
    let first = c.next_free-start.ensures in
    let last = c.next_taken.ensures in
    let below : start < c.args.self.now.room = omega arith in
    let some : start < end = elim (cases_lt start end) [
      | inl lt ↦ lt
      | inr ge ↦
          let same : start ≡ end = omega arith in
          absurd (last.here (subst (λ (x : ℕ). Contains (numbers c.args.self.now.runs) x) same (first.here below)))
    ] in
    is_first_run (numbers c.args.self.now.runs) c.args.from c.args.self.now.room start end (record {
      up = up;
      at_or_after = first.within.0;
      some = some;
      none_before = first.before;
      within = last.before;
      none_here = last.here;
    }) last.within.1
