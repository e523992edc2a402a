-- The image that is taken when a hibernation begins, and what its copies leave.
use Rattle.std.proofs.Common.{◌≡◌, ◌≢◌, ℕ, ◌+◌, ◌-◌, ◌<◌, ◌/◌, inl, inr, suc, Bool, true, false, cond, not, List, [], ◌∷◌, length, map, filter, refl, sym, ap, ap₂, ◌∙◌, arith, subst, Contains}
use Rattle.std.proofs.lemmas.Bool.{false≢true}
use Rattle.std.proofs.lemmas.List.{length-map}
use Rattle.page_core.specs.declared.format.Format.{Format}
use Rattle.page_core.specs.declared.format.Format.TheVariants.{Plain, SkipZeros}
use Rattle.definitions.specs.Tables.{frame, page_flags, is_saveable}
use Rattle.definitions.proofs.ZoneLists.{Contains-from_free_frames, Contains-from_saveable_frames}
use Rattle.plain_machine.specs.Machine.{Hardware, Memory, IsHardware, IsSameMemory, IsTableFrame, Fits, saveable, unused, frame_entry, raw_slot_entry}
use Rattle.plain_machine.specs.Image.{is_zeros, n_of, d_of, has_data, without_data, image_of_memory}
use Rattle.plain_machine.specs.Shows.{seen_frames}
use Rattle.plain_machine.proofs.Fresh.{seen-plain}
use Rattle.plain_machine.proofs.SameMemory.{filter_agree_within, entry-same, of_frame_table, of_slot_table, same_by, same_entry, same_used, table_frame_used}
use Rattle.protocol_laws.specs.Snapshots.{NamesNone, zeros_of, RunsOverCopies, SlotsOverCopies, TakesImage}
use Rattle.protocol_laws.proofs.Sets.{shown_saveable, shown_unused}

-- Lists of pairs.

map_within : {A : Type 0} (f g : ℕ → A) (xs : List ℕ) → ((x : ℕ) → Contains xs x → f x ≡ g x) → map f xs ≡ map g xs
map_within f g [] each = refl
map_within {A} f g (x ∷ xs) each = ap₂ (λ (y : A) (ys : List A). y ∷ ys) (each x (0, omega arith, refl)) (map_within f g xs (λ y in'. each y (behind y in'))) where
  behind : (y : ℕ) → Contains xs y → Contains (x ∷ xs) y
  behind y (k, lt, e) = (suc k, omega arith, e)

abbrev Saved : Type 0
Saved = ℕ × List ℕ

abbrev pair : ℕ → List ℕ → Saved
pair p page = (p, page)

firsts : (page : ℕ → List ℕ) (xs : List ℕ) → map (λ (saved : Saved). saved.0) (map (λ p. (p, page p)) xs) ≡ xs
firsts page [] = refl
firsts page (x ∷ xs) = ap (λ (ys : List ℕ). x ∷ ys) (firsts page xs)

seconds : (page : ℕ → List ℕ) (xs : List ℕ) → map (λ (saved : Saved). saved.1) (map (λ p. (p, page p)) xs) ≡ map page xs
seconds page [] = refl
seconds page (x ∷ xs) = ap (λ (ys : List (List ℕ)). page x ∷ ys) (seconds page xs)

skip_one : (b : Bool) (x : ℕ) (page : List ℕ) (rest : List Saved) (kept : List ℕ) → map (λ (saved : Saved). saved.0) rest ≡ kept → map (λ (saved : Saved). saved.0) (cond b ((x, page) ∷ rest) rest) ≡ cond b (x ∷ kept) kept
skip_one true x page rest kept e = ap (λ (ys : List ℕ). x ∷ ys) e
skip_one false x page rest kept e = e

skipped : (page : ℕ → List ℕ) (f : Format) (xs : List ℕ) → map (λ (saved : Saved). saved.0) (filter (λ saved. not (has_data f saved)) (map (λ p. (p, page p)) xs)) ≡ filter (λ p. not (has_data f (p, page p))) xs
skipped page f [] = refl
skipped page f (x ∷ xs) = skip_one (not (has_data f (x, page x))) x (page x) (filter (λ saved. not (has_data f saved)) (map (λ p. (p, page p)) xs)) (filter (λ p. not (has_data f (p, page p))) xs) (skipped page f xs)

none_kept : (xs : List ℕ) → filter (λ p. false) xs ≡ []
none_kept [] = refl
none_kept (x ∷ xs) = none_kept xs

not_not : (b : Bool) → not (not b) ≡ b
not_not true = refl
not_not false = refl

-- the pages of these page frames without data
zeros_are : (f : Format) (m n : Memory) (xs : List ℕ) → ((x : ℕ) → Contains xs x → frame n x ≡ frame m x) → zeros_of f n xs ≡ filter (λ p. not (has_data f (p, frame m p))) xs
zeros_are Plain m n xs same = sym (none_kept xs)
zeros_are SkipZeros m n xs same =
    filter_agree_within (λ p. is_zeros (frame n p)) (λ p. not (not (is_zeros (frame m p)))) xs (λ x in'. ap is_zeros (same x in') ∙ sym (not_not (is_zeros (frame m x))))

part_one : {A : Type 0} (b : Bool) (x : A) (ys zs : List A) (n : ℕ) → length ys + length zs ≡ n → length (cond b (x ∷ ys) ys) + length (cond (not b) (x ∷ zs) zs) ≡ suc n
part_one true x ys zs n e = omega arith
part_one false x ys zs n e = omega arith

both_parts : {A : Type 0} (test : A → Bool) (xs : List A) → length (filter test xs) + length (filter (λ x. not (test x)) xs) ≡ length xs
both_parts test [] = refl
both_parts test (x ∷ xs) = part_one (test x) x (filter test xs) (filter (λ y. not (test y)) xs) (length xs) (both_parts test xs)

-- The image.

not_free : (entry : ℕ) → is_saveable (page_flags entry) ≡ true → entry ≢ 1
not_free entry save e = false≢true (sym (ap (λ (n : ℕ). is_saveable (page_flags n)) e) ∙ save)

pub takes_image : TakesImage
takes_image h m frames slots f hw fits same none =
    let i = image_of_memory h m slots f in
    let list : saveable h frames ≡ saveable h m = shown_saveable h m frames hw fits same in
    let plain : seen_frames h frames ≡ frames = seen-plain h frames none in
    let page : (p : ℕ) → Contains (saveable h m) p → frame frames p ≡ frame m p = λ p in'.
    let used = Contains-from_saveable_frames h.zones h.frame_table m p in' in
    ap (λ (n : Memory). frame n p) (sym plain) ∙ same_used h m (seen_frames h frames) p same used.0 (not_free (frame_entry h m p) used.1) in
    let zeros : zeros_of f frames (saveable h frames) ≡ without_data i =
    ap (zeros_of f frames) list ∙ zeros_are f m frames (saveable h m) page ∙ sym (skipped (frame m) f (saveable h m)) in
    let saved : length (saveable h frames) ≡ n_of i = ap length list ∙ sym (length-map (saveable h m) (λ (p : ℕ). pair p (frame m p))) in
    let parts = both_parts (has_data f) i.frames in
    let left = length-map (filter (λ (saved : Saved). not (has_data f saved)) i.frames) (λ (saved : Saved). saved.0) in
    let size = ap length zeros in
    record {
      origs = list ∙ sym (firsts (frame m) (saveable h m));
      zeros = zeros;
      pages = ap (map (frame frames)) list ∙ map_within (frame frames) (frame m) (saveable h m) page ∙ sym (seconds (frame m) (saveable h m));
      saved = saved;
      counted = counts (length (saveable h frames)) (length (zeros_of f frames (saveable h frames))) (d_of i) (n_of i) (length (without_data i)) saved size (ap (λ (k : ℕ). d_of i + k) left ∙ parts);
    } where
      counts : (n z d m k : ℕ) → n ≡ m → z ≡ k → d + k ≡ m → n - z ≡ d
      counts n z d m k a b c = omega arith

-- Free page frames alone change.

abbrev Others : Hardware → Memory → Memory → Type 0
Others h m n = (p : ℕ) → (Contains (unused h m) p → ⊥) → frame n p ≡ frame m p

-- page frames that show a memory that fits, with no slot of the image
record IsShown (h : Hardware) (m n : Memory) : Type 0 where
  hardware : IsHardware h
  fits : Fits h m
  same : IsSameMemory h m (seen_frames h n)
  names_none : NamesNone h n

used_kept : (h : Hardware) (m n k : Memory) (p : ℕ) → IsShown h m n → Others h n k → frame_entry h m p ≢ 1 → frame k p ≡ frame n p
used_kept h m n k p is others used =
    others p (λ in'. used (Contains-from_free_frames h.zones h.frame_table m p (subst (λ (xs : List ℕ). Contains xs p) (shown_unused h m n is.hardware is.fits is.same) in')).1)

table_kept : (h : Hardware) (m n k : Memory) (p : ℕ) → IsShown h m n → Others h n k → IsTableFrame h p → frame k p ≡ frame n p
table_kept h m n k p is others table = used_kept h m n k p is others (table_frame_used h m p is.fits table)

slots_kept : (h : Hardware) (m n k : Memory) (s : ℕ) → IsShown h m n → Others h n k → s < h.slots → raw_slot_entry h k s ≡ raw_slot_entry h n s
slots_kept h m n k s is others lt = entry-same n k h.slot_table s (table_kept h m n k (h.slot_table + s / 1024) is others (inr (of_slot_table h s lt)))

pub slots_over_copies : SlotsOverCopies
slots_over_copies h m n k hw fits same none others s lt e =
    none s lt (sym (slots_kept h m n k s (record { hardware = hw; fits = fits; same = same; names_none = none }) others lt) ∙ e)

same_over : (h : Hardware) (m n k : Memory) → IsShown h m n → Others h n k → IsSameMemory h m (seen_frames h k)
same_over h m n k is others =
    let plain : seen_frames h n ≡ n = seen-plain h n is.names_none in
    let after : seen_frames h k ≡ k = seen-plain h k (slots_over_copies h m n k is.hardware is.fits is.same is.names_none others) in
    let here : IsSameMemory h m n = subst (IsSameMemory h m) plain is.same in
    subst (IsSameMemory h m) (sym after)
    (same_by h m k
    (λ p in'. entry-same n k h.frame_table p (table_kept h m n k (h.frame_table + p / 1024) is others (inl (of_frame_table h p is.hardware in'))) ∙ same_entry h m n p is.hardware is.fits here in')
    (λ p in' used. used_kept h m n k p is others used ∙ same_used h m n p here in' used))

pub runs_over_copies : RunsOverCopies
runs_over_copies h flag why operations m n a hw runs none others = record {
  held = runs.held;
  unusable = runs.unusable;
  flights = runs.flights;
  same = same_over h a.memory m n (record { hardware = hw; fits = runs.fits; same = runs.same; names_none = none }) others;
  fits = runs.fits;
}
