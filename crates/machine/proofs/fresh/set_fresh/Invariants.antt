use Rattle.std.proofs.Common.{◌≡◌, take, replicate}
use Rattle.definitions.specs.Bytes.{zero_page}
use Rattle.definitions.specs.Zones.{numbers, top}
use Rattle.plain_machine.specs.FreshMemory.{with_each_entry, fresh_entry}
use Rattle.machine.proofs.fresh.set_fresh.Given as goal

abbrev pub invariant-loop-start : goal.invariant-loop-start
invariant-loop-start l = l.frames ≡ with_each_entry (fresh_entry l.hw) (numbers (take l.start-index l.hw.zones)) l.hw.frame_table (replicate (top l.hw.zones) zero_page)
