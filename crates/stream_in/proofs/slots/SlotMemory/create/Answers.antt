use Rattle.std.proofs.Common.{ap, ◌∙◌, arith}
use Rattle.stream_in.proofs.Opened.{no_runs}
use Rattle.stream_in.proofs.slots.SlotMemory.create.Goals as goal

pub invariant_of-result-clause-lies : goal.invariant_of-result-clause-lies
invariant_of-result-clause-lies c = omega arith

pub invariant_of-result-clause-matches : goal.invariant_of-result-clause-matches
invariant_of-result-clause-matches c =
    let made = c.in_ok-create-2.ensures in
    let room = ap (λ r. r.room) made in
    record { room = omega arith; runs = ap (λ r. r.runs) made ∙ no_runs c.in_ok-create.field-0 }
