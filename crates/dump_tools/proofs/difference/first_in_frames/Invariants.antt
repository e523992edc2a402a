use Rattle.std.proofs.Common.{◌-◌, ◌≤◌}
use Rattle.definitions.specs.Zones.{top}
use Rattle.dump_tools.specs.Differences.{AgreeBelow}
use Rattle.dump_tools.proofs.difference.first_in_frames.Given as goal

abbrev pub invariant-loop-p : goal.invariant-loop-p
invariant-loop-p l = record {
  within : l.from ≤ top l.first.hw.zones;
  below : AgreeBelow l.first l.second l.from;
}

abbrev pub decreases-loop-p : goal.decreases-loop-p
decreases-loop-p l = top l.first.hw.zones - l.from
