-- Memory once all pages are back is the restored one.
use Rattle.std.proofs.Common.{◌≡◌, ℕ, ◌+◌, ◌<◌, ◌||◌, ◌&&◌, Bool, true, false, not, cond, eqb, List, [], ◌∷◌, length, map, filter, Option, Some, None, refl, sym, ap, ap₂, ◌∙◌, subst, inl, inr, arith, zero-add}
use Rattle.std.specs.List.{range_with_len, zip, list_any}
use Rattle.std.specs.List.Sorted.{IsStrictlyIncreasing}
use Rattle.std.proofs.lemmas.Bool.{cases_Bool, cond-true, cond-false, eqb-true, false≢true}
use Rattle.std.proofs.lemmas.List.{ext_get_or, length-map}
use Rattle.std.proofs.lemmas.List.FromFn.{get_or-map-range_with_len, length-map-range_with_len}
use Rattle.definitions.specs.Bytes.{zero_page}
use Rattle.definitions.specs.Disk as disk
use Rattle.definitions.specs.Tables.{frame}
use Rattle.definitions.specs.Zones.{top}
use Rattle.definitions.proofs.Ascending.{head_below, IsStrictlyIncreasing-tail}
use Rattle.frame_sets.proofs.PackedMembers.{list_any-member, member-list_any}
use Rattle.placement.specs.Waiting as waiting
use Rattle.plain_machine.specs.Machine.{Hardware, Memory, Fits, raw_slot_entry, image_slot, is_slot_entry, IsSameMemory}
use Rattle.plain_machine.specs.Loader.{left_free, loader_frame, has, saved_page, page_or, restored, restored_page}
use Rattle.plain_machine.specs.State.{nothing}
use Rattle.plain_machine.specs.declared.held.Held.{Held}
use Rattle.plain_machine.specs.Shows.{ShowsHeld, seen_frames}
use Rattle.plain_machine.specs.Trace.{info_in, format_in, meta_in, number_in, number_word, is_marked_by, stream_page, saved_from, image_in, restored_in, data_frames}
use Rattle.plain_machine.specs.declared.event.Loader.{Loader}
use Rattle.plain_machine.proofs.Fresh.{seen-plain}
use Rattle.plain_machine.proofs.Restoring.{frame-restored}
use Rattle.plain_machine.proofs.SameMemory.{same_refl}
use Rattle.image_read.specs.Stream.{frames_in}
use Rattle.restore_laws.specs.DataPages.{listed_frames}
use Rattle.restore_laws.specs.Restored.{AreAllRead, RestoredIn, RunsAsRestored, NamesNone}

-- What an image saved for page frame p, by the numbers of its places and by its data pages.

abbrev member : List ℕ → ℕ → Bool
member ps p = list_any (λ q. eqb q p) ps

abbrev or_zero : Bool → List ℕ → List ℕ
or_zero b other = cond b zero_page other

-- pages from page k of the stream on, one for each of these
abbrev pages_for : Hardware → disk.DiskImage → ℕ → List ℕ → List (List ℕ)
pages_for h v k js = map (stream_page h v) (range_with_len k (length js))

neither : (a b : Bool) → (a || b) ≡ false → (a ≡ false) × (b ≡ false)
neither true b e = absurd (false≢true (sym e))
neither false b e = (refl, e)

-- a page frame that no number names has no page
none_waits : (ps : List ℕ) (pages : List (List ℕ)) (p : ℕ) (other : List ℕ) → member ps p ≡ false → waiting.page_or (waiting.saved_page (zip ps pages) p) other ≡ other
none_waits [] pages p other out = refl
none_waits (q ∷ ps) [] p other out = refl
none_waits (q ∷ ps) (page ∷ pages) p other out =
    let apart = neither (eqb q p) (member ps p) out in
    ap (λ (o : Option (List ℕ)). waiting.page_or o other) (cond-false (eqb q p) (Some page) (waiting.saved_page (zip ps pages) p) apart.0)
    ∙ none_waits ps pages p other apart.1

kept_or_not : (f : ℕ → ℕ) (b : Bool) (j : ℕ) (js : List ℕ) (p : ℕ) → eqb (f j) p ≡ false → member (map f js) p ≡ false → member (map f (cond b (j ∷ js) js)) p ≡ false
kept_or_not f true j js p apart out = ap (λ (c : Bool). c || member (map f js) p) apart ∙ out
kept_or_not f false j js p apart out = out

not_kept : (f : ℕ → ℕ) (test : ℕ → Bool) (js : List ℕ) (p : ℕ) → member (map f js) p ≡ false → member (map f (filter test js)) p ≡ false
not_kept f test [] p out = refl
not_kept f test (j ∷ js) p out =
    let apart = neither (eqb (f j) p) (member (map f js) p) out in
    kept_or_not f (test j) j (filter test js) p apart.0 (not_kept f test js p apart.1)

-- of rising numbers a later one is another
not_behind : (q : ℕ) (ps : List ℕ) (p : ℕ) → IsStrictlyIncreasing (q ∷ ps) → eqb q p ≡ true → member ps p ≡ false
not_behind q ps p up here = elim (cases_Bool (member ps p)) [
  | inl found ↦ absurd (let lt = head_below q ps p up (member-list_any p ps found) in let same = eqb-true q p here in omega arith)
  | inr none ↦ none
]

module _ (h : Hardware) (v : disk.DiskImage) (p : ℕ) (other : List ℕ) where
  abbrev is_marked : ℕ → Bool
  is_marked j = is_marked_by (format_in h v) (number_word h v j)

  abbrev unmarked : List ℕ → List ℕ
  unmarked js = filter (λ j. not (is_marked j)) js

  abbrev numbers : List ℕ → List ℕ
  numbers js = map (number_in h v) js

  abbrev words : List ℕ → List ℕ
  words js = map (number_word h v) js

  abbrev saved : ℕ → List ℕ → List ℕ
  saved k js = page_or (saved_page (saved_from h v k (words js)) p) other

  abbrev waits : ℕ → List ℕ → List ℕ → List ℕ
  waits k js rest = waiting.page_or (waiting.saved_page (zip (numbers js) (pages_for h v k js)) p) rest

  -- the first place, by whether its number is p and whether it is marked
  first_place : (k j : ℕ) (js : List ℕ) (here marked : Bool) → eqb (number_in h v j) p ≡ here → (here ≡ true → member (numbers js) p ≡ false) →
      ((i : ℕ) → saved i js ≡ waits i (unmarked js) (or_zero (member (numbers js) p) other)) →
      page_or (saved_page (cond marked ((number_in h v j, zero_page) ∷ saved_from h v k (words js)) ((number_in h v j, stream_page h v k) ∷ saved_from h v (k + 1) (words js))) p) other
      ≡ waits k (cond (not marked) (j ∷ unmarked js) (unmarked js)) (or_zero (eqb (number_in h v j) p || member (numbers js) p) other)
  first_place k j js true true e once ih =
      let out = not_kept (number_in h v) (λ i. not (is_marked i)) js p (once refl) in
      ap (λ (o : Option (List ℕ)). page_or o other) (cond-true (eqb (number_in h v j) p) (Some zero_page) (saved_page (saved_from h v k (words js)) p) e)
      ∙ sym (ap (λ (b : Bool). waits k (unmarked js) (or_zero (b || member (numbers js) p) other)) e ∙ none_waits (numbers (unmarked js)) (pages_for h v k (unmarked js)) p zero_page out)
  first_place k j js true false e once ih =
      let rest = or_zero (eqb (number_in h v j) p || member (numbers js) p) other in
      ap (λ (o : Option (List ℕ)). page_or o other) (cond-true (eqb (number_in h v j) p) (Some (stream_page h v k)) (saved_page (saved_from h v (k + 1) (words js)) p) e)
      ∙ sym (ap (λ (o : Option (List ℕ)). waiting.page_or o rest) (cond-true (eqb (number_in h v j) p) (Some (stream_page h v k)) (waiting.saved_page (zip (numbers (unmarked js)) (pages_for h v (k + 1) (unmarked js))) p) e))
  first_place k j js false true e once ih =
      ap (λ (o : Option (List ℕ)). page_or o other) (cond-false (eqb (number_in h v j) p) (Some zero_page) (saved_page (saved_from h v k (words js)) p) e)
      ∙ ih k
      ∙ sym (ap (λ (b : Bool). waits k (unmarked js) (or_zero (b || member (numbers js) p) other)) e)
  first_place k j js false false e once ih =
      let rest : Bool → List ℕ = λ b. or_zero (b || member (numbers js) p) other in
      ap (λ (o : Option (List ℕ)). page_or o other) (cond-false (eqb (number_in h v j) p) (Some (stream_page h v k)) (saved_page (saved_from h v (k + 1) (words js)) p) e)
      ∙ ih (k + 1)
      ∙ sym (ap (λ (o : Option (List ℕ)). waiting.page_or o (rest (eqb (number_in h v j) p))) (cond-false (eqb (number_in h v j) p) (Some (stream_page h v k)) (waiting.saved_page (zip (numbers (unmarked js)) (pages_for h v (k + 1) (unmarked js))) p) e)
      ∙ ap (λ (b : Bool). waits (k + 1) (unmarked js) (rest b)) e)

  saved_waits : (js : List ℕ) → IsStrictlyIncreasing (numbers js) → (k : ℕ) → saved k js ≡ waits k (unmarked js) (or_zero (member (numbers js) p) other)
  saved_waits [] up k = refl
  saved_waits (j ∷ js) up k =
      first_place k j js (eqb (number_in h v j) p) (is_marked j) refl (not_behind (number_in h v j) (numbers js) p up)
      (saved_waits js (IsStrictlyIncreasing-tail (number_in h v j) (numbers js) up))

-- The page frames without a page that waited.

zero_or_kept : (a b : Bool) (x y : List ℕ) → (b ≡ false → x ≡ y) → or_zero a (cond b zero_page x) ≡ or_zero (a || b) y
zero_or_kept true b x y same = refl
zero_or_kept false true x y same = refl
zero_or_kept false false x y same = same refl

pages_same : (f : ℕ → List ℕ) (k n : ℕ) → map (λ m. f (k + m)) (range_with_len 0 n) ≡ map f (range_with_len k n)
pages_same f k n =
    let left = length-map-range_with_len (λ (m : ℕ). f (k + m)) 0 n in
    let right = length-map-range_with_len f k n in
    ext_get_or [] (map (λ m. f (k + m)) (range_with_len 0 n)) (map f (range_with_len k n)) (left ∙ sym right)
    (λ m lt.
    let within : m < n = omega arith in
    get_or-map-range_with_len (λ (m : ℕ). f (k + m)) 0 n m m [] within (zero-add m) ∙ sym (get_or-map-range_with_len f k n m (k + m) [] within refl))

module _ (h : Hardware) (dump : Memory) (v : disk.DiskImage) (loader : Loader) (w : waiting.Awaiting) (origs : List ℕ) (frames : Memory) (all : AreAllRead h dump v loader w origs frames) where
  abbrev places : List ℕ
  places = range_with_len 0 (info_in h v).image_pages

  abbrev of_loader : ℕ → List ℕ
  of_loader p = cond (has (left_free h dump loader) p) zero_page (loader_frame dump loader p)

  data_frames-are : data_frames h v ≡ map (number_in h v) (unmarked h v 0 [] places)
  unfolding data_frames
  data_frames-are = refl

  listed-are : listed_frames h v ≡ map (number_in h v) places
  unfolding frames_in
  listed-are = refl

  pages-are : waiting.waiting_pages frames w ≡ pages_for h v (1 + meta_in h v) (unmarked h v 0 [] places)
  pages-are =
      all.pages ∙ pages_same (stream_page h v) (1 + meta_in h v) (length (data_frames h v))
      ∙ ap (λ (n : ℕ). map (stream_page h v) (range_with_len (1 + meta_in h v) n)) (ap length data_frames-are ∙ length-map (unmarked h v 0 [] places) (number_in h v))

  rest-is : (p : ℕ) → p < top h.zones → or_zero (member origs p) (of_loader p) ≡ or_zero (member origs p || member w.free p) (frame frames p)
  rest-is p lt =
      zero_or_kept (member origs p) (member (left_free h dump loader) p) (loader_frame dump loader p) (frame frames p)
      (λ out. sym (all.kept p lt (λ in'. false≢true (sym out ∙ list_any-member p (left_free h dump loader) in'))))
      ∙ ap (λ (free : List ℕ). or_zero (member origs p || member free p) (frame frames p)) (sym all.free)

  restored-is : (p : ℕ) → p < top h.zones → restored_page h dump loader (image_in h v (λ s. None)) p ≡ waiting.restored_page frames w origs p
  unfolding waiting.restored_page
  restored-is p lt =
      let up : IsStrictlyIncreasing (map (number_in h v) places) = subst IsStrictlyIncreasing (all.listed ∙ listed-are) all.rising in
      saved_waits h v p (of_loader p) places up (1 + meta_in h v)
      ∙ ap₂ (λ (ps : List ℕ) (pages : List (List ℕ)). waiting.page_or (waiting.saved_page (zip ps pages) p) (or_zero (member (map (number_in h v) places) p) (of_loader p)))
      (sym (all.originals ∙ data_frames-are)) (sym pages-are)
      ∙ ap (λ (rest : List ℕ). waiting.page_or (waiting.saved_page (zip w.originals (waiting.waiting_pages frames w)) p) rest)
      (ap (λ (ps : List ℕ). or_zero (member ps p) (of_loader p)) (sym (all.listed ∙ listed-are)) ∙ rest-is p lt)

length-restored : (h : Hardware) (dump : Memory) (v : disk.DiskImage) (loader : Loader) → length (restored_in h dump v loader) ≡ top h.zones
unfolding restored
length-restored h dump v loader = length-map-range_with_len (restored_page h dump loader (image_in h v (λ s. None))) 0 (top h.zones)

pub are_restored : RestoredIn
are_restored h dump v loader w origs frames frames' all size back =
    ext_get_or [] frames' (restored_in h dump v loader) (size ∙ sym (length-restored h dump v loader))
    (λ p lt.
    let below : p < top h.zones = omega arith in
    back p below ∙ sym (restored-is h dump v loader w origs frames all p below) ∙ sym (frame-restored h dump loader (image_in h v (λ s. None)) p below))

-- The machine that runs.

pub no_image_slot : (h : Hardware) (m : Memory) → Fits h m → (s : ℕ) → s < h.slots → raw_slot_entry h m s ≡ image_slot → ⊥
no_image_slot h m fits s lt is = false≢true (sym (not_image (eqb s 0)) ∙ sym (ap (is_slot_entry s) is) ∙ fits.slots s lt) where
  not_image : (b : Bool) → (false || (not b && false)) ≡ false
  not_image true = refl
  not_image false = refl

pub names_none : NamesNone
names_none h shown fits s lt is = absurd (no_image_slot h shown.frames fits s lt is)

pub runs_as_restored : RunsAsRestored
runs_as_restored h load v flag why operations frames unheld usable idle is fits =
    let seen = seen-plain h frames (no_image_slot h frames fits) in
    record {
      held = subst (λ (x : Held). ShowsHeld x nothing) (sym unheld) tt;
      unusable = sym usable;
      flights = λ t. sym (idle t);
      same = subst (λ (m : Memory). IsSameMemory h m (seen_frames h frames)) is (subst (IsSameMemory h frames) (sym seen) (same_refl h frames));
      fits = subst (Fits h) is fits;
    }
