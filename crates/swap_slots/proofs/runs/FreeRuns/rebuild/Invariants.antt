use Rattle.std.proofs.Common.{◌≡◌}
use Rattle.definitions.specs.FreeRuns.{free_runs}
use Rattle.swap_slots.proofs.runs.FreeRuns.rebuild.Given as goal

-- the free slots below `slot`
abbrev pub invariant-loop-slot : goal.invariant-loop-slot
invariant-loop-slot l = record {
  runs : l.self.runs ≡ free_runs l.slot l.table.first l.frames;
  room : l.self.room ≡ l.initial.self.room;
}
