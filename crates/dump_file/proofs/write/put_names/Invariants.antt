use Rattle.std.proofs.Common.{◌≡◌, ◌+◌, ◌*◌, ◌++◌, length, take}
use Rattle.std.specs.List.{concat}
use Rattle.dump_file.proofs.write.put_names.Given as goal

abbrev pub invariant-loop-name : goal.invariant-loop-name
invariant-loop-name l = record {
  bytes : l.head ≡ l.fn.head ++ concat (take l.name-index l.names);
  len : length l.head ≡ length l.fn.head + 65 * l.name-index;
}
