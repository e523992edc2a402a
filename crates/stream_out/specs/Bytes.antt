-- An image as bytes.
-- In Linux: snapshot_read, kernel/power/user.c.
use Rattle.std.specs.Prelude.{ℕ, List, ◌≤◌, ◌<◌}
use Rattle.std.specs.List.{concat}
use Rattle.page_core.specs.declared.format.Format.TheVariants.{Plain}
use Rattle.plain_machine.specs.Image.{Image, image_of_memory, stream_of}
use Rattle.plain_machine.specs.Machine.{Hardware, Memory, raw_slot_entry}
use Rattle.plain_machine.specs.Step.{no_slots}

-- Bytes(i): the pages of an image's stream, one after another, and nothing else
abbrev pub bytes_of : Image → List ℕ
bytes_of i = concat (stream_of i)

-- the image of a memory in which no task has a slot, with a data page for each saved page
abbrev pub plain_image : Hardware → Memory → Image
plain_image h m = image_of_memory h m no_slots Plain

-- The slots of tasks, whose pages are only on the disk.

-- a slot table's entry is a task's number, from 1 to 64
pub record IsTaskEntry (entry : ℕ) : Type 0 where
  pub some : 1 ≤ entry
  pub few : entry ≤ 64

-- slot s is a task's
pub record IsTaskSlot (h : Hardware) (m : Memory) (s : ℕ) : Type 0 where
  pub within : s < h.slots
  pub entry : IsTaskEntry (raw_slot_entry h m s)

-- no slot is a task's
abbrev pub HasNoTaskSlot : Hardware → Memory → Type 0
HasNoTaskSlot h m = (s : ℕ) → IsTaskSlot h m s → ⊥

-- slot s is the lowest that is a task's
pub record IsFirstTaskSlot (h : Hardware) (m : Memory) (s : ℕ) : Type 0 where
  pub task : IsTaskSlot h m s
  pub first : (r : ℕ) → r < s → IsTaskSlot h m r → ⊥
