-- The writes of a hibernation, one by one.
use Rattle.std.proofs.Common.{◌≡◌, ℕ, ◌+◌, ◌<◌, ◌≤◌, zero-add, List, [], length, get_or, map, take, min, sym, ap, ap₂, ◌∙◌, subst, arith, All}
use Rattle.std.proofs.lemmas.List.{length-map, get_or-take, length-take}
use Rattle.std.proofs.Math.Nat.{min-le_left}
use Rattle.std.proofs.lemmas.List.FromFn.{length-map-range_with_len, get_or-map-range_with_len}
use Rattle.std.proofs.lemmas.List.Elements.{All-map, All-filter, Contains-get_or}
use Rattle.definitions.specs.Bytes.{IsPage}
use Rattle.definitions.specs.Disk.{DiskImage}
use Rattle.definitions.specs.InfoPage.{IsInfo}
use Rattle.definitions.specs.NumberPages.{meta_of, marked_numbers}
use Rattle.definitions.specs.Tables.{saveable_frames}
use Rattle.definitions.specs.Tables.{frame, entry_at, page_flags, is_saveable}
use Rattle.definitions.specs.Zones.{numbers}
use Rattle.definitions.proofs.FrameSets.{Contains-from_filter}
use Rattle.definitions.proofs.ZoneNumbers.{below_top}
use Rattle.plain_machine.specs.Machine.{Hardware, Memory, IsHardware, Fits, block_of_slot, saveable, unused_slots}
use Rattle.plain_machine.specs.Image.{Image, info_of_image, n_of, d_of, pages_of, maps_of, numbers_of, without_data, with_data, has_data, stream_of, hibernate_steps}
use Rattle.plain_machine.specs.Image.{laid, page_of_write}
use Rattle.plain_machine.specs.Stands.{IsAccepted, Reads, laid_writes}
use Rattle.plain_machine.specs.State.{Running}
use Rattle.image_write.proofs.Done.{AreSlots, AreDone, write_at, place_of, block_of_write, place_below}
use Rattle.image_write.proofs.Heads.{length-stream_pages, IsPage-stream_pages}
use Rattle.frame_sets.proofs.Filling.{length-marked}
use Rattle.protocol_laws.specs.Rows.{write_of_step}
use Rattle.protocol_laws.proofs.Places.{IsFree, free_place, unused_slots-ascend}

-- The stream.

pub length-stream_of : (i : Image) → length (stream_of i) ≡ pages_of i
length-stream_of i =
    let first : ℕ × List ℕ → ℕ = λ saved. saved.0 in
    let second : ℕ × List ℕ → List ℕ = λ saved. saved.1 in
    let whole = length-stream_pages (info_of_image i) (marked_numbers (numbers_of i) (without_data i)) (map (λ saved. saved.1) (with_data i)) in
    let numbers : length (marked_numbers (numbers_of i) (without_data i)) ≡ n_of i = length-marked (numbers_of i) (without_data i) ∙ length-map i.frames first in
    let datas : length (map (λ (saved : ℕ × List ℕ). saved.1) (with_data i)) ≡ d_of i = length-map (with_data i) second in
    let meta = ap meta_of numbers in
    whole ∙ ap₂ (λ (d m : ℕ). d + m + 1) datas meta

pub saveable_page : (h : Hardware) (m : Memory) (k d : ℕ) → IsHardware h → Fits h m → k < length (saveable h m) → IsPage (frame m (get_or (saveable h m) k d))
unfolding saveable_frames
saveable_page h m k d hw fits lt =
    let p = get_or (saveable h m) k d in
    let in' = Contains-from_filter (λ q. is_saveable (page_flags (entry_at m h.frame_table q))) (numbers h.zones) p (Contains-get_or (saveable h m) k d lt) in
    let below = below_top h.zones p hw.zones.apart in'.0 in
    let size = fits.size in
    fits.pages p [] (omega arith)

pub pages_are : (h : Hardware) (a : Running) (i : Image) → IsHardware h → Fits h a.memory → IsAccepted h a i → IsInfo (info_of_image i) → All IsPage (stream_of i)
pages_are h a i hw fits accepted info =
    let second : ℕ × List ℕ → List ℕ = λ saved. saved.1 in
    let frames : i.frames ≡ map (λ p. (p, frame a.memory p)) (saveable h a.memory) = ap (λ (x : Image). x.frames) accepted.image in
    let whole : All (λ (saved : ℕ × List ℕ). IsPage saved.1) i.frames =
    subst (λ (xs : List (ℕ × List ℕ)). All (λ saved. IsPage saved.1) xs) (sym frames)
    (All-map (λ (saved : ℕ × List ℕ). IsPage saved.1) (λ p. (p, frame a.memory p)) (saveable h a.memory) (λ k d lt. saveable_page h a.memory k d hw fits lt)) in
    IsPage-stream_pages (info_of_image i) (marked_numbers (numbers_of i) (without_data i)) (map second (with_data i)) info
    (All-map IsPage second (with_data i) (All-filter (has_data i.format) (λ (saved : ℕ × List ℕ). IsPage saved.1) i.frames whole))

-- The writes of the stream.

abbrev pub count_of : Image → ℕ
count_of i = length (stream_of i) + maps_of (length (stream_of i))

pub count_is : (i : Image) → count_of i + 4 ≡ hibernate_steps i
count_is i = let size = length-stream_of i in let maps = ap maps_of size in omega arith

pub are_slots : (h : Hardware) (a : Running) (i : Image) → IsHardware h → IsAccepted h a i → AreSlots h.extents (unused_slots h a.memory) (count_of i)
are_slots h a i hw accepted =
    let size = length-stream_of i in
    let maps = ap maps_of size in
    let room = accepted.room in
    record {
      file_map = (h.slots, hw.map, λ place lt. (free_place h a.memory place (omega arith)).within);
      ascending = unused_slots-ascend h a.memory;
      enough = omega arith;
    }

pub write_is : (h : Hardware) (a : Running) (i : Image) (k : ℕ) → k < count_of i → write_of_step h a i k ≡ write_at h.extents (unused_slots h a.memory) (stream_of i) k
unfolding laid
write_is h a i k lt = get_or-map-range_with_len (write_at h.extents (unused_slots h a.memory) (stream_of i)) 0 (count_of i) k k (0, []) lt (zero-add k)

-- the slot of its block
pub record HasSlot (h : Hardware) (a : Running) (x : ℕ) : Type 0 where
  pub slot : ℕ
  pub free : IsFree h a.memory slot
  pub is : x ≡ block_of_slot h slot

pub slot_of_write : (h : Hardware) (a : Running) (i : Image) (k : ℕ) → IsAccepted h a i → k < count_of i → HasSlot h a (write_at h.extents (unused_slots h a.memory) (stream_of i) k).0
slot_of_write h a i k accepted lt =
    let free = unused_slots h a.memory in
    let stream = stream_of i in
    let size = length-stream_of i in
    let maps = ap maps_of size in
    let room = accepted.room in
    let place = place_of (length stream) k in
    let below = place_below (length stream) k lt in
    record {
      slot = get_or free place 0;
      free = free_place h a.memory place (omega arith);
      is = block_of_write h.extents free (length stream) k (get_or stream (page_of_write k) []);
    }

-- the first k writes, as a list and one by one
pub done_of_take : (h : Hardware) (a : Running) (i : Image) (v : DiskImage) (k : ℕ) → k ≤ count_of i → All (Reads v) (take k (laid_writes h a i)) → AreDone h.extents (unused_slots h a.memory) (stream_of i) v k
unfolding laid
done_of_take h a i v k within all j lt =
    let write : ℕ → ℕ × List ℕ = write_at h.extents (unused_slots h a.memory) (stream_of i) in
    let size = length-map-range_with_len write 0 (count_of i) in
    let taken = length-take k (laid_writes h a i) in
    subst (Reads v) (get_or-take k (laid_writes h a i) j (0, []) lt ∙ get_or-map-range_with_len write 0 (count_of i) j j (0, []) (omega arith) (zero-add j))
    (all j (0, []) (let least : j < min k (length (laid_writes h a i)) = both j k (length (laid_writes h a i)) lt (omega arith) in omega arith)) where
      both : (j k n : ℕ) → j < k → j < n → j < min k n
      both j k n a b = omega arith

pub take_of_done : (h : Hardware) (a : Running) (i : Image) (v : DiskImage) (k : ℕ) → k ≤ count_of i → AreDone h.extents (unused_slots h a.memory) (stream_of i) v k → All (Reads v) (take k (laid_writes h a i))
unfolding laid
take_of_done h a i v k within done j d lt =
    let write : ℕ → ℕ × List ℕ = write_at h.extents (unused_slots h a.memory) (stream_of i) in
    let size = length-map-range_with_len write 0 (count_of i) in
    let taken = length-take k (laid_writes h a i) in
    let left = min-le_left k (length (laid_writes h a i)) in
    let here : j < k = omega arith in
    subst (Reads v) (sym (get_or-take k (laid_writes h a i) j d here ∙ get_or-map-range_with_len write 0 (count_of i) j j d (omega arith) (zero-add j))) (done j here)
