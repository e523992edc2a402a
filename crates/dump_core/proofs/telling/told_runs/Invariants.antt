use Rattle.std.proofs.Common.{◌≡◌, take, filter}
use Rattle.definitions.specs.FreeRuns.{runs_of}
use Rattle.definitions.specs.Zones.{numbers}
use Rattle.dump_core.specs.Cores.{is_told}
use Rattle.dump_core.proofs.telling.told_runs.Given as goal

abbrev pub invariant-loop-zone : goal.invariant-loop-zone
invariant-loop-zone l = l.runs.items ≡ runs_of (filter (is_told l.dump.hw l.dump.frames) (numbers (take l.zone-index l.dump.hw.zones)))
