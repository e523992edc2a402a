use Rattle.std.proofs.Common.{◌≡◌, ◌≤◌, length}
use Rattle.std.specs.List.{range_with_len}
use Rattle.dump_file.specs.Written.{nonzero}
use Rattle.dump_file.proofs.write.count_records_of_zone.Given as goal

abbrev pub invariant-loop-i : goal.invariant-loop-i
invariant-loop-i l = record {
  counted : l.total ≡ length (nonzero l.frames (range_with_len l.start l.i));
  few : l.total ≤ l.i;
}
