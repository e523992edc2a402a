use Rattle.std.proofs.Common.{Option, Some, None}
use Rattle.std.specs.Option.{IfNone}
use Rattle.image_show.proofs.Names.{not_over}
use Rattle.image_show.proofs.facts.reading.Reading.next.Goals as goal

on_none : {A : Type 0} {P : Type 0} (o : Option A) → P → IfNone o P
on_none None p = p
on_none (Some x) p = tt

pub returns-in_err-visit-clause-end : goal.returns-in_err-visit-clause-end
returns-in_err-visit-clause-end g c =
    on_none c.from_residual.result (λ first h reads. absurd (not_over h reads.told (c.in_err-visit.ensures.end first h reads.follows)))
