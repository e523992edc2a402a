-- What the writes of a marked header block leave.
use Rattle.std.specs.Prelude.{◌≡◌, ◌<◌, ℕ, List, length, None}
use Rattle.definitions.specs.Disk.{Content, as_it_reads, block, settled, SameOutside}
use Rattle.definitions.specs.SwapHeader.{marked, taken_back}
use Rattle.image_format.specs.AreaKind.{area_kind}
use Rattle.plain_machine.specs.UsableArea.{kind_fault}
use Rattle.plain_machine.specs.declared.reply.Left.{Left}
use Rattle.plain_machine.specs.declared.reply.Left.TheVariants.{Same, Gone, Unsure}
use Rattle.stream_in.specs.declared.stop.InStop.{InStop}
use Rattle.stream_in.specs.declared.stop.InStop.TheVariants as stop

-- The disk has one image, whose block 0 is this page and whose other blocks are as the disk read before.
pub record HasHeader (page : List ℕ) (old new : Content) : Type 0 where
  pub one_image : new ≡ settled (as_it_reads new)
  pub header : block (as_it_reads new) 0 ≡ page
  pub others : (b : ℕ) → 0 < b → block (as_it_reads new) b ≡ block (as_it_reads old) b
  pub size : length new ≡ length old

-- The disk has one image, which is marked: block 0, which was that of an area without an image, now says that the first
-- map lies at block `first`.
pub record Marks (first : ℕ) (old new : Content) : Type 0 where
  pub area : kind_fault (area_kind (block (as_it_reads old) 0)) ≡ None
  pub marked : HasHeader (marked (block (as_it_reads old) 0) first 2 0) old new

-- What a failed write or sync of the marked block leaves: the block taken back, or the other blocks as they were.
abbrev pub LeavesOver : List ℕ → Left → Content → Content → Type 0
LeavesOver page Same old new = ⊥
LeavesOver page Gone old new = HasHeader (taken_back page) old new
LeavesOver page Unsure old new = SameOutside 0 old new

abbrev pub FailsToMark : List ℕ → InStop → Content → Content → Type 0
FailsToMark page (stop.WriteFault left) old new = LeavesOver page left old new
FailsToMark page (stop.SyncFault left) old new = LeavesOver page left old new
FailsToMark page (stop.ReadFault left) old new = ⊥
FailsToMark page (stop.NoSwap why) old new = ⊥
FailsToMark page stop.NoMemory old new = ⊥
FailsToMark page (stop.NoSlots free need) old new = ⊥
FailsToMark page (stop.Stream fault) old new = ⊥
