use Rattle.std.proofs.Common.{◌≡◌, length, take, filter, All}
use Rattle.definitions.specs.Bytes.{IsPage}
use Rattle.definitions.specs.Tables.{with_entries}
use Rattle.definitions.specs.Zones.{numbers}
use Rattle.frame_table.specs.Drop.{may_drop}
use Rattle.frame_table.proofs.reclaim.shrink.Given as goal

abbrev pub invariant-loop-zone : goal.invariant-loop-zone
invariant-loop-zone l = record {
  pages : All IsPage l.fn.frames;
  frames : l.frames ≡ with_entries l.fn.frames l.table (take l.most (filter (may_drop l.keep l.table l.fn.frames) (numbers (take l.zone-index l.zones)))) 1;
  dropped : l.dropped ≡ length (take l.most (filter (may_drop l.keep l.table l.fn.frames) (numbers (take l.zone-index l.zones))));
  len : length l.frames ≡ length l.fn.frames;
}
