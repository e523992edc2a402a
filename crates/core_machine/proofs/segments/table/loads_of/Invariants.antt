use Rattle.std.proofs.Common.{◌≡◌, filter, map, take}
use Rattle.core_machine.specs.Heads.{is_load, segment_in}
use Rattle.core_machine.proofs.segments.table.loads_of.Given as goal

abbrev pub invariant-loop-entry : goal.invariant-loop-entry
invariant-loop-entry l = record {
  loads : l.loads.items ≡ map segment_in (filter is_load (take l.entry-index l.table));
}
