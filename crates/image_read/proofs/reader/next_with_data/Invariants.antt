use Rattle.std.proofs.Common.{◌≡◌, ◌++◌, slice_get}
use Rattle.definitions.specs.Zones.{first_from}
use Rattle.frame_sets.specs.Left.{left_in, members_from}
use Rattle.image_read.specs.Taking.{with_data}
use Rattle.image_read.proofs.reader.next_with_data.Given as goal

abbrev pub invariant-loop-p : goal.invariant-loop-p
invariant-loop-p l = record {
  left : l.yielded ++ left_in l.p-iterator ≡ members_from l.from l.origs.members;
  first : slice_get (with_data (left_in l.p-iterator) l.zeros.members) 0 ≡ first_from (with_data l.origs.members l.zeros.members) l.from;
}
