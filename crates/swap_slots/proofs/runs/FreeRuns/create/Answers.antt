use Rattle.std.proofs.Common.{ℕ, ◌∙◌, ap, arith, List, refl}
use Rattle.definitions.proofs.SlotRuns.{runs_of-nil}
use Rattle.definitions.specs.FreeRuns.{runs_of}
use Rattle.swap_slots.specs.Runs.{SlotRuns}
use Rattle.swap_slots.specs.Kept.{members_of}
use Rattle.swap_slots.proofs.Keeping.{kept_zeros, members_of-zeros}
use Rattle.swap_slots.proofs.runs.FreeRuns.create.Goals as goal

pub invariant_of-result : goal.invariant_of-result
invariant_of-result c =
    rw (c.in_ok-zeros.ensures, c.in_ok-zeros-2.ensures)
    (kept_zeros c.args.slots c.div_ceil-words.result c.div_ceil.result (omega arith) (omega arith) (omega arith) (omega arith))

pub returns : goal.returns
returns c =
    let runs : List ℕ → SlotRuns = λ bits. record { room = c.args.slots; runs = runs_of (members_of c.args.slots bits) } in
    let empty : List ℕ → SlotRuns = λ slots. record { room = c.args.slots; runs = runs_of slots } in
    let none = runs_of-nil in
    ap runs c.in_ok-zeros.ensures ∙ ap empty (members_of-zeros c.args.slots c.div_ceil-words.result) ∙ rw none refl
