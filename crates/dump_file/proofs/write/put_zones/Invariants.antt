use Rattle.std.proofs.Common.{◌≡◌, ◌+◌, ◌*◌, ◌++◌, length, take}
use Rattle.std.specs.List.{flat_map}
use Rattle.dump_file.specs.Written.{zone_bytes}
use Rattle.dump_file.proofs.write.put_zones.Given as goal

abbrev pub invariant-loop-start : goal.invariant-loop-start
invariant-loop-start l = record {
  bytes : l.head ≡ l.fn.head ++ flat_map zone_bytes (take l.start-index l.zones);
  len : length l.head ≡ 424 + 8 * l.start-index;
}
