use Rattle.std.proofs.Common.{ℕ, ◌∙◌, ap, arith, List, []}
use Rattle.definitions.proofs.SlotRuns.{runs_of-nil}
use Rattle.definitions.specs.FreeRuns.{runs_of}
use Rattle.swap_slots.specs.Runs.{SlotRuns}
use Rattle.swap_slots.specs.Kept.{members_of}
use Rattle.swap_slots.proofs.Keeping.{kept_zeros, members_of-zeros}
use Rattle.swap_slots.proofs.runs.FreeRuns.clear.Goals as goal

pub invariant_of-self : goal.invariant_of-self
invariant_of-self c =
    let kept = c.self.invariant in
    let bits = c.fill.ensures.items (λ y e. e) in
    let summary = c.fill-2.ensures.items (λ y e. e) in
    rw (bits, summary)
    (kept_zeros c.self.inside.room _ _ kept.size (omega (arith, kept.slots)) (omega (arith, kept.words)) (omega (arith, kept.few)))

pub returns : goal.returns
returns c =
    let room = c.self.inside.room in
    let bits = c.fill.ensures.items (λ y e. e) in
    let runs : List ℕ → SlotRuns = λ words. record { room = room; runs = runs_of (members_of room words) } in
    let empty : List ℕ → SlotRuns = λ slots. record { room = room; runs = runs_of slots } in
    ap runs bits ∙ ap empty (members_of-zeros room _) ∙ rw runs_of-nil (ap (λ r. let kept : SlotRuns = record { room = r.room; runs = [] } in kept) c.self.view_is)
