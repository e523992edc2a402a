-- What a hibernation takes when it begins: the saveable page frames, whose pages are copied into free ones
-- (swsusp_save, kernel/power/snapshot.c).
use Rattle.std.specs.Prelude.{◌≡◌, ◌≢◌, ◌<◌, ℕ, ◌-◌, List, [], length, map, filter, Contains, Option}
use Rattle.page_core.specs.declared.format.Format.{Format}
use Rattle.page_core.specs.declared.format.Format.TheVariants.{Plain, SkipZeros}
use Rattle.definitions.specs.Tables.{frame}
use Rattle.plain_machine.specs.Machine.{Hardware, Memory, IsHardware, IsSameMemory, Fits, saveable, unused}
use Rattle.plain_machine.specs.Machine.{raw_slot_entry, image_slot}
use Rattle.plain_machine.specs.Image.{Image, SlotPages, is_zeros, n_of, d_of, numbers_of, without_data, image_of_memory}
use Rattle.plain_machine.specs.Shows.{RunsAs, seen_frames}
use Rattle.plain_machine.specs.State.{Running, Flight}
use Rattle.plain_machine.specs.declared.held.Held.{Held}
use Rattle.plain_machine.specs.declared.no_swap.NoSwap.{NoSwap}

-- no slot is the image's
abbrev pub NamesNone : Hardware → Memory → Type 0
NamesNone h m = (s : ℕ) → s < h.slots → raw_slot_entry h m s ≢ image_slot

-- the page frames without a data page in an image of this format
abbrev pub zeros_of : Format → Memory → List ℕ → List ℕ
zeros_of Plain m ps = []
zeros_of SkipZeros m ps = filter (λ p. is_zeros (frame m p)) ps

-- The image saves the saveable page frames of this memory, and its counts are theirs.
pub record IsTakenFrom (h : Hardware) (m : Memory) (i : Image) : Type 0 where
  pub origs : saveable h m ≡ numbers_of i
  pub zeros : zeros_of i.format m (saveable h m) ≡ without_data i
  pub pages : map (frame m) (saveable h m) ≡ map (λ saved. saved.1) i.frames
  pub saved : length (saveable h m) ≡ n_of i
  pub counted : length (saveable h m) - length (zeros_of i.format m (saveable h m)) ≡ d_of i

abbrev pub TakesImage : Type 0
TakesImage =
    (h : Hardware) (m frames : Memory) (slots : SlotPages) (f : Format) → IsHardware h → Fits h m →
    IsSameMemory h m (seen_frames h frames) → NamesNone h frames → IsTakenFrom h frames (image_of_memory h m slots f)

-- If only free page frames change, the same state runs, and each slot has its entry.
abbrev pub RunsOverCopies : Type 0
RunsOverCopies =
    (h : Hardware) (flag : Held) (why : Option NoSwap) (operations : ℕ → Option Flight) (m n : Memory) (a : Running) →
    IsHardware h → RunsAs h flag why operations m a → NamesNone h m →
    ((p : ℕ) → (Contains (unused h m) p → ⊥) → frame n p ≡ frame m p) → RunsAs h flag why operations n a

abbrev pub SlotsOverCopies : Type 0
SlotsOverCopies =
    (h : Hardware) (m n k : Memory) → IsHardware h → Fits h m → IsSameMemory h m (seen_frames h n) → NamesNone h n →
    ((p : ℕ) → (Contains (unused h n) p → ⊥) → frame k p ≡ frame n p) → NamesNone h k
