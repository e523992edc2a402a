use Rattle.std.proofs.Common.{◌≡◌, ◌≤◌, ◌+◌, ◌-◌, max}
use Rattle.resume_core.proofs.Clearing.{without_run}
use Rattle.resume_core.proofs.begin.clear_between.Given as goal

abbrev pub invariant-loop-p : goal.invariant-loop-p
invariant-loop-p l = record {
  zones : l.set.zones ≡ l.fn.set.zones;
  above : l.first ≤ l.from;
  within : l.from ≤ max l.first (l.last + 1);
  members : l.set.members ≡ without_run l.first l.from l.fn.set.members;
}

abbrev pub decreases-loop-p : goal.decreases-loop-p
decreases-loop-p l = l.last + 1 - l.from
