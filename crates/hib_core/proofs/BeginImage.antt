-- The image at the begin of a hibernation: what is counted from the page frames is that of their image, and of a running state's.
use Rattle.std.proofs.Common.{◌≡◌, ℕ, ◌+◌, ◌-◌, ◌<◌, ◌/◌, Bool, true, false, cond, not, List, [], ◌∷◌, length, get_or, map, filter, refl, sym, ap, ap₂, ◌∙◌, arith, subst, zero-add, Contains}
use Rattle.std.proofs.lemmas.Bool.{cond-true}
use Rattle.std.proofs.lemmas.List.{length-map, get_or-map}
use Rattle.std.proofs.lemmas.List.Elements.{Contains-get_or}
use Rattle.std.proofs.lemmas.List.Filters.{length-filter_both}
use Rattle.std.proofs.lemmas.List.FromFn.{length-map-range_with_len, get_or-map-range_with_len}
use Rattle.page_core.specs.declared.format.Format.{Format}
use Rattle.page_core.specs.declared.format.Format.TheVariants.{Plain, SkipZeros}
use Rattle.definitions.specs.NumberPages.{meta_of}
use Rattle.definitions.specs.Tables.{frame}
use Rattle.definitions.specs.declared.info.Info.{Info}
use Rattle.plain_machine.specs.Machine.{Hardware, Memory, saveable, unused_slots, valid_count}
use Rattle.plain_machine.specs.Image.{Image, SlotPages, is_zeros, n_of, d_of, pages_of, has_data, numbers_of, without_data, image_of_memory, info_of_image, stream_of}
use Rattle.plain_machine.specs.Image.{laid, laid_block, is_map_write, page_of_write, page_place, map_place}
use Rattle.plain_machine.specs.Stands.{laid_writes, laid_blocks}
use Rattle.plain_machine.specs.State.{Running}
use Rattle.plain_machine.proofs.LaidChain.{map_has_write}
use Rattle.image_write.proofs.Done.{write_at, block_of_write}
use Rattle.snapshot.specs.Taken.{zero_frames}
use Rattle.snapshot.specs.declared.Counts.{Counts}
use Rattle.protocol_laws.specs.Snapshots.{IsTakenFrom, zeros_of}
use Rattle.protocol_laws.proofs.Laid.{count_of}
use Rattle.machine.specs.declared.machine.Machine.{Machine}
use Rattle.hib_core.specs.Begin.{IsCounted, info_of}
use Rattle.hib_core.specs.Begin as begin
use Rattle.hib_core.specs.declared.hib.Hib.{Hib}

-- The image of the page frames themselves.

abbrev Saved : Type 0
Saved = ℕ × List ℕ

firsts : (page : ℕ → List ℕ) (xs : List ℕ) → map (λ (saved : Saved). saved.0) (map (λ p. (p, page p)) xs) ≡ xs
firsts page [] = refl
firsts page (x ∷ xs) = ap (λ (ys : List ℕ). x ∷ ys) (firsts page xs)

seconds : (page : ℕ → List ℕ) (xs : List ℕ) → map (λ (saved : Saved). saved.1) (map (λ p. (p, page p)) xs) ≡ map page xs
seconds page [] = refl
seconds page (x ∷ xs) = ap (λ (ys : List (List ℕ)). page x ∷ ys) (seconds page xs)

none_kept : (page : ℕ → List ℕ) (xs : List ℕ) → map (λ (saved : Saved). saved.0) (filter (λ saved. not (has_data Plain saved)) (map (λ p. (p, page p)) xs)) ≡ []
none_kept page [] = refl
none_kept page (x ∷ xs) = none_kept page xs

zeros_kept : (m : Memory) (xs : List ℕ) → filter (λ p. is_zeros (frame m p)) xs ≡ map (λ (saved : Saved). saved.0) (filter (λ saved. not (has_data SkipZeros saved)) (map (λ p. (p, frame m p)) xs))
zeros_kept m [] = refl
zeros_kept m (x ∷ xs) = one_more (is_zeros (frame m x)) (zeros_kept m xs) where
  one_more : (b : Bool) → filter (λ p. is_zeros (frame m p)) xs ≡ map (λ (saved : Saved). saved.0) (filter (λ saved. not (has_data SkipZeros saved)) (map (λ p. (p, frame m p)) xs)) →
      cond b (x ∷ filter (λ p. is_zeros (frame m p)) xs) (filter (λ p. is_zeros (frame m p)) xs)
      ≡ map (λ (saved : Saved). saved.0) (cond (not (not b)) ((x, frame m x) ∷ filter (λ saved. not (has_data SkipZeros saved)) (map (λ p. (p, frame m p)) xs)) (filter (λ saved. not (has_data SkipZeros saved)) (map (λ p. (p, frame m p)) xs)))
  one_more true e = ap (λ (ys : List ℕ). x ∷ ys) e
  one_more false e = e

zeros_are : (f : Format) (m : Memory) (xs : List ℕ) → zeros_of f m xs ≡ map (λ (saved : Saved). saved.0) (filter (λ saved. not (has_data f saved)) (map (λ p. (p, frame m p)) xs))
zeros_are Plain m xs = sym (none_kept (frame m) xs)
zeros_are SkipZeros m xs = zeros_kept m xs

pub taken_from_frames : (h : Hardware) (m : Memory) (slots : SlotPages) (f : Format) → IsTakenFrom h m (image_of_memory h m slots f)
taken_from_frames h m slots f =
    let i = image_of_memory h m slots f in
    let zeros : zeros_of f m (saveable h m) ≡ without_data i = zeros_are f m (saveable h m) in
    let saved : length (saveable h m) ≡ n_of i = sym (length-map (saveable h m) (λ (p : ℕ). let s : Saved = (p, frame m p) in s)) in
    let parts : length (filter (has_data f) i.frames) + length (filter (λ (saved : Saved). not (has_data f saved)) i.frames) ≡ length i.frames = length-filter_both (has_data f) (λ (s : Saved). not (has_data f s)) (λ s. refl) i.frames in
    let left : length (without_data i) ≡ length (filter (λ (saved : Saved). not (has_data f saved)) i.frames) = length-map (filter (λ (saved : Saved). not (has_data f saved)) i.frames) (λ (saved : Saved). saved.0) in
    record {
      origs = sym (firsts (frame m) (saveable h m));
      zeros = zeros;
      pages = sym (seconds (frame m) (saveable h m));
      saved = saved;
      counted = counts (length (saveable h m)) (length (zeros_of f m (saveable h m))) (d_of i) (n_of i) (length (without_data i)) saved (ap length zeros) (ap (λ (k : ℕ). d_of i + k) left ∙ parts);
    } where
      counts : (n z d m k : ℕ) → n ≡ m → z ≡ k → d + k ≡ m → n - z ≡ d
      counts n z d m k a b c = omega arith

-- What is counted is the image's.

zero_frames_are : (f : Format) (m : Memory) (xs : List ℕ) → zero_frames f m xs ≡ zeros_of f m xs
zero_frames_are Plain m xs = refl
zero_frames_are SkipZeros m xs = refl

-- The counts and sets of a hibernation are an image's.
pub record IsCountOf (hib : Hib) (counts : Counts) (i : Image) : Type 0 where
  pub saved : counts.n ≡ n_of i
  pub with_pages : counts.d ≡ d_of i
  pub pages : begin.pages_of counts ≡ pages_of i
  pub origs : hib.snapshot.origs ≡ numbers_of i
  pub zeros : hib.snapshot.zeros ≡ without_data i

pub counts_of : (h : Hardware) (frames : Memory) (hib : Hib) (counts : Counts) (i : Image) → hib.snapshot.origs ≡ saveable h frames → hib.snapshot.zeros ≡ zero_frames hib.snapshot.format frames (saveable h frames) → counts.n ≡ length (saveable h frames) →
    counts.d ≡ length (saveable h frames) - length hib.snapshot.zeros → i.format ≡ hib.snapshot.format → IsTakenFrom h frames i → IsCountOf hib counts i
counts_of h frames hib counts i origs none saved with_pages format from =
    let zeros : hib.snapshot.zeros ≡ zeros_of i.format frames (saveable h frames) =
    none ∙ zero_frames_are hib.snapshot.format frames (saveable h frames) ∙ ap (λ (f : Format). zeros_of f frames (saveable h frames)) (sym format) in
    let n : counts.n ≡ n_of i = saved ∙ from.saved in
    let d : counts.d ≡ d_of i = with_pages ∙ ap (λ (zs : List ℕ). length (saveable h frames) - length zs) zeros ∙ from.counted in
    record {
      saved = n;
      with_pages = d;
      pages = ap₂ (λ (x y : ℕ). x + meta_of y + 1) d n;
      origs = origs ∙ from.origs;
      zeros = zeros ∙ from.zeros;
    }

pub counts_are : (machine : Machine) (frames : Memory) (hib : Hib) (counts : Counts) (i : Image) → IsCounted machine frames hib counts → i.format ≡ hib.snapshot.format → IsTakenFrom machine.hw frames i → IsCountOf hib counts i
counts_are machine frames hib counts i counted format from = counts_of machine.hw frames hib counts i counted.origs counted.zeros counted.saved counted.with_pages format from

-- the first page of the image says its counts
pub info_is : (h : Hardware) (hib : Hib) (counts : Counts) (m : Memory) (slots : SlotPages) (f : Format) → IsCountOf hib counts (image_of_memory h m slots f) → info_of h counts ≡ info_of_image (image_of_memory h m slots f)
info_is h hib counts m slots f is = ap₂ (λ (n p : ℕ). let info : Info = record { ident = h.ident; physpages = valid_count h; image_pages = n; pages = p } in info) is.saved is.pages

-- The block of the first map is one of the hibernation's.
pub first_in_laid : (h : Hardware) (a : Running) (i : Image) → Contains (laid_blocks h a i) (laid_block h.extents (unused_slots h a.memory) 0)
unfolding laid
first_in_laid h a i =
    let free = unused_slots h a.memory in
    let map_of = map_has_write (length (stream_of i)) 0 (omega arith) in
    let k = map_of.0 in
    let lt : k < count_of i = map_of.1.within in
    let write : ℕ → ℕ × List ℕ = write_at h.extents free (stream_of i) in
    let first : ℕ × List ℕ → ℕ = λ written. written.0 in
    let size = length-map-range_with_len write 0 (count_of i) in
    let all = length-map (laid_writes h a i) first in
    let place : map_place (k / 512) ≡ 0 = ap map_place map_of.1.map_is in
    let block : (write k).0 ≡ laid_block h.extents free 0 =
    block_of_write h.extents free (length (stream_of i)) k (get_or (stream_of i) (page_of_write k) [])
    ∙ ap (laid_block h.extents free) (cond-true (is_map_write (length (stream_of i)) k) (map_place (k / 512)) (page_place (page_of_write k)) map_of.1.is_map ∙ place) in
    subst (Contains (laid_blocks h a i)) (get_or-map first (laid_writes h a i) k (0, []) 0 (omega arith) ∙ ap first (get_or-map-range_with_len write 0 (count_of i) k k (0, []) lt (zero-add k)) ∙ block)
    (Contains-get_or (laid_blocks h a i) k 0 (omega arith))
