use Rattle.std.proofs.Common.{◌≡◌, length, take}
use Rattle.definitions.specs.Zones.{numbers}
use Rattle.dump_file.specs.Written.{nonzero}
use Rattle.dump_file.proofs.write.count_records.Given as goal

abbrev pub invariant-loop-start : goal.invariant-loop-start
invariant-loop-start l = l.total ≡ length (nonzero l.frames (numbers (take l.start-index l.zones)))
