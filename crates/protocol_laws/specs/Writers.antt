-- A writer at work for a hibernation: its next write is the hibernation's next write, and what the world shows stays
-- the same.
use Rattle.std.specs.Prelude.{◌≡◌, ℕ, List, Contains}
use Rattle.definitions.specs.Tables.{with_entries}
use Rattle.image_laws.specs.Decoding.{IsSayable}
use Rattle.image_write.specs.Writing.{Writing, IsWriting, stream_of_sets, page_next, write_next, slots_of_write}
use Rattle.plain_machine.specs.Machine.{Hardware, Memory, IsHardware, IsOfTable, unused_slots, image_slot}
use Rattle.plain_machine.specs.Image.{Image, info_of_image}
use Rattle.plain_machine.specs.Shows.{WorldView}
use Rattle.plain_machine.specs.Stands.{IsAccepted}
use Rattle.plain_machine.specs.State.{Running}
use Rattle.protocol_laws.specs.Steps.{ShowsCopies}
use Rattle.protocol_laws.specs.Rows.{write_of_step}
use Rattle.protocol_laws.specs.Slots.{IsMemoryOf, HasSets}

-- The writer of a hibernation's image, after k writes.
pub record IsWriterOf (h : Hardware) (a : Running) (i : Image) (k : ℕ) (frames : Memory) (w : Writing) : Type 0 where
  pub info : w.info ≡ info_of_image i
  pub extents : w.extents ≡ h.extents
  pub table : w.table ≡ record { first = h.slot_table; slots = h.slots }
  pub made : w.written ≡ k
  pub writing : IsWriting (unused_slots h a.memory) frames w

-- the writer's next write is that of step k + 1
abbrev pub WritesNext : Type 0
WritesNext =
    (h : Hardware) (a : Running) (i : Image) (k : ℕ) (frames : Memory) (w : Writing) (origs copies zeros : List ℕ) →
    IsWriterOf h a i k frames w → IsSayable i → HasSets i frames origs copies zeros →
    write_next (unused_slots h a.memory) w (page_next (stream_of_sets w.info frames origs copies zeros) w) ≡
    write_of_step h a i k

-- the new world shows what the old one does, with the slots of write k taken
pub record TakesSlots (h : Hardware) (a : Running) (w : Writing) (k : ℕ) (old new : WorldView) : Type 0 where
  pub held : new.held ≡ old.held
  pub unusable : new.unusable ≡ old.unusable
  pub flights : (t : ℕ) → new.flights t ≡ old.flights t
  pub copies : new.copies ≡ old.copies
  pub frames : new.frames ≡ with_entries old.frames h.slot_table (slots_of_write w.info (unused_slots h a.memory) k)
      image_slot

-- the new world still shows the running state, its copies, and no slot of another image
abbrev pub ShowsStill : Type 0
ShowsStill =
    (h : Hardware) (a : Running) (i : Image) (k : ℕ) (w : Writing) (old new : WorldView) → IsHardware h →
    IsAccepted h a i → IsWriterOf h a i k old.frames w → IsMemoryOf h old.frames →
    ((p : ℕ) → Contains old.copies p → IsOfTable h.slot_table h.slots p → ⊥) → TakesSlots h a w k old new →
    ShowsCopies h old a i → ShowsCopies h new a i
