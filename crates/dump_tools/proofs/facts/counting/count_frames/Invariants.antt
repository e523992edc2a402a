use Rattle.std.proofs.Common.{◌≡◌, length, take, filter}
use Rattle.definitions.specs.Zones.{numbers}
use Rattle.dump_tools.specs.Counts.{is_of}
use Rattle.dump_tools.proofs.facts.counting.count_frames.Given as goal

abbrev pub invariant-loop-zone : goal.invariant-loop-zone
invariant-loop-zone l = l.total ≡ length (filter (is_of l.dump.hw l.dump.frames l.kind) (numbers (take l.zone-index l.dump.hw.zones)))
