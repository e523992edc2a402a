use Rattle.std.proofs.Common.{◌∙◌, sym, ap, length}
use Rattle.definitions.proofs.SlotRuns.{numbers-runs_of}
use Rattle.definitions.specs.Zones.{numbers}
use Rattle.swap_slots.specs.Kept.{kept_slots}
use Rattle.swap_slots.proofs.runs.FreeRuns.count.Goals as goal

pub returns : goal.returns
returns c =
    c.self.invariant.counted ∙ ap length (sym (numbers-runs_of (kept_slots c.self.inside)))
    ∙ ap (λ r. length (numbers r.runs)) c.self.view_is
