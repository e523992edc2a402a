use Rattle.std.proofs.Common.{◌∙◌, ap, length}
use Rattle.swap_slots.proofs.Matching.{free_numbers}
use Rattle.swap_slots.proofs.table.SlotTable.free_count.Goals as goal

pub returns : goal.returns
returns c = c.count.ensures ∙ ap length (free_numbers c.args.frames.now c.args.self.now c.args.runs.now c.requires.matches)
