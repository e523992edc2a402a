-- What a hibernation does to memory: the slots that it takes are seen as free, and are free once given back. The sets
-- that it makes from the page frames are those of the memory that the page frames show (swsusp_save and
-- alloc_swapdev_block, kernel/power/snapshot.c and swap.c).
use Rattle.std.specs.Prelude.{◌≡◌, ◌≢◌, ◌<◌, ℕ, List, Contains, Option}
use Rattle.definitions.specs.Tables.{free_slots}
use Rattle.definitions.specs.Tables.{frame}
use Rattle.plain_machine.specs.Machine.{Hardware, Memory, IsHardware, IsSameMemory, IsOfTable, Fits, saveable, unused}
use Rattle.plain_machine.specs.Machine.{unused_slots, raw_slot_entry, block_of_slot, image_slot}
use Rattle.plain_machine.specs.Image.{Image, info_of_image, stream_of}
use Rattle.plain_machine.specs.Shows.{RunsAs, seen_frames}
use Rattle.plain_machine.specs.State.{Running, Flight}
use Rattle.plain_machine.specs.declared.held.Held.{Held}
use Rattle.plain_machine.specs.declared.no_swap.NoSwap.{NoSwap}
use Rattle.image_laws.specs.Decoding.{IsSayable}
use Rattle.image_write.specs.Writing.{stream_of_sets, AreOfImage}
use Rattle.protocol_laws.specs.Slots.{IsMemoryOf, AreFree, taken, HasSets}

-- When the image takes free slots, what is seen of memory stays the same, and so do page frames outside the slot table.
-- A slot that is the image's was so before, or is one of those taken.
abbrev pub SeenTaken : Type 0
SeenTaken =
    (h : Hardware) (m : Memory) (slots : List ℕ) → IsMemoryOf h m → AreFree h m slots →
    seen_frames h (taken h m slots) ≡ seen_frames h m

abbrev pub FrameTaken : Type 0
FrameTaken =
    (h : Hardware) (m : Memory) (slots : List ℕ) (p : ℕ) → AreFree h m slots → (IsOfTable h.slot_table h.slots p → ⊥) →
    frame (taken h m slots) p ≡ frame m p

abbrev pub NamesTaken : Type 0
NamesTaken =
    (h : Hardware) (m : Memory) (slots blocks : List ℕ) → IsMemoryOf h m → AreFree h m slots →
    ((k : ℕ) → k < h.slots → raw_slot_entry h m k ≡ image_slot → Contains blocks (block_of_slot h k)) →
    ((k : ℕ) → Contains slots k → Contains blocks (block_of_slot h k)) →
    (k : ℕ) → k < h.slots → raw_slot_entry h (taken h m slots) k ≡ image_slot → Contains blocks (block_of_slot h k)

-- After the slots are given back, none is the image's.
abbrev pub NoneLeft : Type 0
NoneLeft = (h : Hardware) (m : Memory) (k : ℕ) → IsMemoryOf h m → k < h.slots →
    raw_slot_entry h (seen_frames h m) k ≢ image_slot

-- Page frames that show a running state still show it with slots taken, and with all of them given back.
abbrev pub RunsTaken : Type 0
RunsTaken =
    (h : Hardware) (flag : Held) (why : Option NoSwap) (operations : ℕ →
    Option Flight) (m : Memory) (slots : List ℕ) (a : Running) → IsMemoryOf h m → AreFree h m slots →
    RunsAs h flag why operations m a → RunsAs h flag why operations (taken h m slots) a

abbrev pub RunsGivenBack : Type 0
RunsGivenBack =
    (h : Hardware) (flag : Held) (why : Option NoSwap) (operations : ℕ → Option Flight) (m : Memory) (a : Running) →
    IsMemoryOf h m →
    RunsAs h flag why operations m a → RunsAs h flag why operations (seen_frames h m) a

-- Saveable and free page frames are those of the memory that is shown. So are the free slots, if no slot is the
-- image's.
abbrev pub ShownLists : Type 0
ShownLists =
    (h : Hardware) (m frames : Memory) → IsHardware h → Fits h m → IsSameMemory h m (seen_frames h frames) →
    (saveable h frames ≡ saveable h m) × (unused h frames ≡ unused h m)

abbrev pub ShownSlots : Type 0
ShownSlots =
    (h : Hardware) (m frames : Memory) → IsHardware h → Fits h m → IsSameMemory h m (seen_frames h frames) →
    ((s : ℕ) → s < h.slots → raw_slot_entry h frames s ≢ image_slot) →
    free_slots h.slots h.slot_table frames ≡ unused_slots h m

-- What a writer writes from the sets of an image is the image's stream.
abbrev pub WritesStream : Type 0
WritesStream =
    (i : Image) (m : Memory) (origs copies zeros : List ℕ) → IsSayable i → HasSets i m origs copies zeros →
    (stream_of_sets (info_of_image i) m origs copies zeros ≡ stream_of i)
    × AreOfImage (info_of_image i) origs copies zeros
