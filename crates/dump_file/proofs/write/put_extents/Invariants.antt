use Rattle.std.proofs.Common.{◌≡◌, ◌+◌, ◌*◌, ◌++◌, length, take}
use Rattle.std.specs.List.{flat_map}
use Rattle.dump_file.specs.Written.{extent_bytes}
use Rattle.dump_file.proofs.write.put_extents.Given as goal

abbrev pub invariant-loop-start : goal.invariant-loop-start
invariant-loop-start l = record {
  bytes : l.head ≡ l.fn.head ++ flat_map extent_bytes (take l.start-index l.extents);
  len : length l.head ≡ length l.fn.head + 12 * l.start-index;
}
