-- Slots that a hibernation takes for its image, in the slot table, and the sets of page frames that it writes from.
use Rattle.std.specs.Prelude.{◌≡◌, ◌<◌, ℕ, List, All, Contains, map}
use Rattle.definitions.specs.Bytes.{IsPage}
use Rattle.definitions.specs.Tables.{frame, with_entries, HasTable}
use Rattle.plain_machine.specs.Machine.{Hardware, Memory, raw_slot_entry, image_slot}
use Rattle.plain_machine.specs.Image.{Image, numbers_of, without_data}

-- page frames of 4096 bytes, the slot table among them
pub record IsMemoryOf (h : Hardware) (m : Memory) : Type 0 where
  pub pages : All IsPage m
  pub table : HasTable m h.slot_table h.slots

-- slots that are free according to the slot table
abbrev pub AreFree : Hardware → Memory → List ℕ → Type 0
AreFree h m slots = (s : ℕ) → Contains slots s → (s < h.slots) × (raw_slot_entry h m s ≡ 0)

-- memory with these slots taken for the image
abbrev pub taken : Hardware → Memory → List ℕ → Memory
taken h m slots = with_entries m h.slot_table slots image_slot

-- The originals are the image's page frames, `empty` has those without data, and the copies have their pages.
pub record HasSets (i : Image) (m : Memory) (originals copied empty : List ℕ) : Type 0 where
  pub origs : originals ≡ numbers_of i
  pub zeros : empty ≡ without_data i
  pub copies : map (frame m) copied ≡ map (λ saved. saved.1) i.frames
