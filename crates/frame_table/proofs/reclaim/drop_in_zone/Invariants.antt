use Rattle.std.proofs.Common.{◌≡◌, ◌-◌, length, filter, take, All}
use Rattle.std.specs.List.{range_with_len}
use Rattle.definitions.specs.Bytes.{IsPage}
use Rattle.definitions.specs.Tables.{with_entries}
use Rattle.frame_table.specs.Drop.{may_drop}
use Rattle.frame_table.proofs.reclaim.drop_in_zone.Given as goal

abbrev pub invariant-loop-p : goal.invariant-loop-p
invariant-loop-p l = record {
  pages : All IsPage l.fn.frames;
  frames : l.frames ≡ with_entries l.fn.frames l.table (take l.most (filter (may_drop l.keep l.table l.fn.frames) (range_with_len l.start (l.p - l.start)))) 1;
  dropped : l.dropped ≡ length (take l.most (filter (may_drop l.keep l.table l.fn.frames) (range_with_len l.start (l.p - l.start))));
  len : length l.frames ≡ length l.fn.frames;
}
