-- What a crash inside a command leaves: the disk from before the command, or the one after it. In Linux: mark_swapfiles
-- and swsusp_unmark, kernel/power/swap.c, each of which writes one block between two syncs.
use Rattle.std.specs.Prelude.{◌≡◌, ℕ, List, Option, Some, Ok}
use Rattle.page_core.specs.declared.format.Format.{Format}
use Rattle.definitions.specs.Disk as disk
use Rattle.dump_file.specs.Dump.{DumpValue, dump_of}
use Rattle.plain_machine.specs.Chain.{Marked}
use Rattle.plain_machine.specs.Stands.{IsSameOrTakenBack}
use Rattle.plain_machine.specs.UsableArea.{HasOriginal}
use Rattle.command_core.specs.Hibernations.{IsUnmarkedOrHolds, image_to_save, machine_to_save}

-- Over a disk that had one image, which wasn't marked, a crash since a hibernation began leaves a disk that isn't
-- marked, or that holds the image of the dump that was read. `left` is the rest of the input, `told` what the disk
-- held, and `since` what a crash may leave.
pub record SavesInside (f : Format) (size : Option ℕ) (left : Option (List ℕ)) (told : Option disk.Content)
    (since : disk.DiskImage → Type 0) : Type 0 where
  pub leaves : (bytes : List ℕ) (dump : DumpValue) (v w : disk.DiskImage) → left ≡ Some bytes →
      dump_of bytes ≡ Ok dump → told ≡ Some (disk.settled v) → (Marked dump.hw v → ⊥) →
      since w → IsUnmarkedOrHolds dump.hw (image_to_save dump.hw (machine_to_save dump.hw dump.memory size v) f) w

-- A crash since a resume began leaves the disk as it was, except that block(0) may have its mark taken back.
pub record LoadsInside (left : Option (List ℕ)) (told : Option disk.Content)
    (since : disk.DiskImage → Type 0) : Type 0 where
  pub leaves : (bytes : List ℕ) (dump : DumpValue) (v w : disk.DiskImage) → left ≡ Some bytes →
      dump_of bytes ≡ Ok dump → told ≡ Some (disk.settled v) → (Marked dump.hw v → HasOriginal dump.hw v) →
      since w → IsSameOrTakenBack dump.hw v w
