use Rattle.machine.proofs.ZoneRuns.{Reaches}
use Rattle.machine.proofs.parts.has_run.Given as goal

abbrev pub invariant-loop-zone : goal.invariant-loop-zone
invariant-loop-zone l = Reaches l.zones l.first l.end l.zone-index
