-- What marking an image does to the disk: the syncs, and the writes of block 0 (mark_swapfiles, kernel/power/swap.c).
use Rattle.std.specs.Prelude.{◌≡◌, ◌⊎◌, ◌<◌, ℕ}
use Rattle.definitions.specs.Disk.{Content, as_it_reads, block, settled, SameOutside}
use Rattle.definitions.specs.SwapHeader.{IsMarked}
use Rattle.plain_machine.specs.declared.reply.Left.{Left}
use Rattle.plain_machine.specs.declared.reply.Left.TheVariants.{Same, Gone, Unsure}
use Rattle.stream_in.specs.declared.stop.InStop.{InStop}
use Rattle.stream_in.specs.declared.stop.InStop.TheVariants as stop

-- Block 0 isn't written: the disk is as before, or synced.
abbrev pub Keeps : Content → Content → Type 0
Keeps old new = (new ≡ old) ⊎ (new ≡ settled (as_it_reads old))

-- Only block 0 may have been written: in each image of the disk the other blocks are as the disk read before.
abbrev pub KeepsOthers : Content → Content → Type 0
KeepsOthers old new = SameOutside 0 (settled (as_it_reads old)) new

-- The disk has one image, which isn't marked.
pub record Unmarks (old new : Content) : Type 0 where
  pub one_image : new ≡ settled (as_it_reads new)
  pub unmarked : IsMarked (block (as_it_reads new) 0) → ⊥
  pub others : (b : ℕ) → 0 < b → block (as_it_reads new) b ≡ block (as_it_reads old) b

-- What a fault leaves, by what it reports of the image.
abbrev pub Leaves : Left → Content → Content → Type 0
Leaves Same old new = Keeps old new
Leaves Gone old new = Unmarks old new
Leaves Unsure old new = KeepsOthers old new

-- what a stop leaves: if a disk call failed, what the stop reports; else block 0 isn't written
abbrev pub LeavesAt : InStop → Content → Content → Type 0
LeavesAt (stop.ReadFault left) old new = Leaves left old new
LeavesAt (stop.WriteFault left) old new = Leaves left old new
LeavesAt (stop.SyncFault left) old new = Leaves left old new
LeavesAt (stop.NoSwap why) old new = Keeps old new
LeavesAt stop.NoMemory old new = Keeps old new
LeavesAt (stop.NoSlots free need) old new = Keeps old new
LeavesAt (stop.Stream fault) old new = Keeps old new
