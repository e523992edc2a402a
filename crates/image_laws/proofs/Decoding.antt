-- A disk that holds an image decodes to that image.
use Rattle.std.proofs.Common.{◌≡◌, ◌≢◌, ◌↔◌, ℕ, ◌+◌, ◌-◌, ◌/◌, ◌%◌, ◌^◌, ◌<◌, ◌≤◌, ◌||◌, zero, suc, Bool, true, false, not, cond, eqb, leb, List, [], ◌∷◌, ◌++◌, length, get_or, map, filter, Option, Some, None, Ok, All, Contains, refl, sym, ap, ap₂, ◌∙◌, inl, inr, subst, arith, bit_and, zero-add}
use Rattle.std.specs.List.{range_with_len, list_any}
use Rattle.std.specs.Cmp.Lexicographic.{same_text}
use Rattle.std.proofs.lemmas.Bool.{cases_eq, eq-eqb, ne_eqb, cond-true, cond-false, false≢true, le-leb, lt-leb}
use Rattle.std.proofs.lemmas.List.{ext_get_or, get_or-map, length-map, get_or_append_left, get_or-append_right, get_or_default}
use Rattle.std.proofs.lemmas.List.Sums.{length-filter, count_by-le-length}
use Rattle.std.proofs.lemmas.List.FromFn.{length-map-range_with_len, get_or-map-range_with_len}
use Rattle.std.proofs.lemmas.List.Elements.{Contains-get_or}
use Rattle.page_core.specs.declared.format.Format.{Format}
use Rattle.page_core.specs.declared.format.Format.TheVariants.{Plain, SkipZeros}
use Rattle.definitions.specs.Bytes.{zero_page, word}
use Rattle.definitions.specs.Disk as disk
use Rattle.definitions.specs.InfoPage.{info_of, info_page}
use Rattle.definitions.specs.NumberPages.{meta_of, number_page, number_pages, marked_numbers, number_of_word, zero_bit}
use Rattle.definitions.specs.SwapHeader.{flags_of}
use Rattle.definitions.specs.Tables.{saveable_frames}
use Rattle.definitions.specs.Tables.{frame, entry_at, page_flags as flags_in, is_saveable}
use Rattle.definitions.specs.Zones.{numbers}
use Rattle.definitions.specs.ZoneFacts.{AreZones}
use Rattle.definitions.specs.declared.info.Info.{Info}
use Rattle.definitions.proofs.InfoPages.{info_of-info_page}
use Rattle.definitions.proofs.ZoneLists.{Contains-from_saveable_frames}
use Rattle.definitions.proofs.ZoneNumbers.{below_top, top_at_most, count_at_most}
use Rattle.plain_machine.specs.Machine.{Hardware, Memory, saveable}
use Rattle.plain_machine.specs.Image.{Image, is_zeros, has_data, n_of, d_of, pages_of, numbers_of, with_data, without_data, info_of_image, image_of_memory, stream_pages, stream_of}
use Rattle.plain_machine.specs.Chain.{Holds, header_of, chain, entry_block, ok_unless}
use Rattle.plain_machine.specs.Trace.{first_map, stream_page, info_in, format_in, meta_in, number_word, number_by, is_marked_by, words_in, saved_from}
use Rattle.image_laws.specs.Decoding.{IsSayable, MemoriesAreSayable, SaysInfo, SaysNumbers, SaysPages, Decodes}
use Rattle.image_laws.specs.NumberWords.{AreTold}
use Rattle.image_laws.proofs.NumberWords.{have_words, are_told, marked_number, taken_off}

abbrev Saved : Type 0
Saved = ℕ × List ℕ

abbrev none_saved : Saved
none_saved = (0, [])

abbrev number_of : Saved → ℕ
number_of s = s.0

abbrev page_of : Saved → List ℕ
page_of s = s.1

-- The pages of the stream, as the disk reads them.

pub ok_is : {A E : Type 0} (o : Option E) (x y : A) → ok_unless o x ≡ Ok y → x ≡ y
ok_is None x y e = cc
ok_is (Some fault) x y e = absurd (cc)

chain_is : (h : Hardware) (v : disk.DiskImage) (b p : ℕ) (blocks : List ℕ) → chain h v b p ≡ Ok blocks → map (entry_block v b) (range_with_len 0 p) ≡ blocks
unfolding chain
chain_is h v b p blocks e = ok_is _ (map (entry_block v b) (range_with_len 0 p)) blocks e

pub stream_page_is : (h : Hardware) (v : disk.DiskImage) (i : Image) (k : ℕ) → Holds h v i → k < pages_of i → stream_page h v k ≡ get_or (stream_of i) k []
stream_page_is h v i k holds lt =
    let b = first_map h v in
    let blocks = holds.whole.0 in
    let entries : map (entry_block v b) (range_with_len 0 (pages_of i)) ≡ blocks = chain_is h v b (pages_of i) blocks holds.whole.1 in
    let size : length blocks ≡ pages_of i = sym (ap length entries) ∙ length-map-range_with_len (entry_block v b) 0 (pages_of i) in
    let at : get_or blocks k 0 ≡ entry_block v b k =
    ap (λ (xs : List ℕ). get_or xs k 0) (sym entries) ∙ get_or-map-range_with_len (entry_block v b) 0 (pages_of i) k k 0 lt (zero-add k) in
    ap (disk.block v) (sym at) ∙ sym (get_or-map (disk.block v) blocks k 0 [] (omega arith)) ∙ ap (λ (pages : List (List ℕ)). get_or pages k []) holds.whole.2

stream_info : (info : Info) (numbers : List ℕ) (saved : List (List ℕ)) → get_or (stream_pages info numbers saved) 0 [] ≡ info_page info
unfolding stream_pages
stream_info info numbers saved = refl

pub stream_behind : (info : Info) (numbers : List ℕ) (saved : List (List ℕ)) (k : ℕ) → get_or (stream_pages info numbers saved) (1 + k) [] ≡ get_or (number_pages numbers ++ saved) k []
unfolding stream_pages
stream_behind info numbers saved k =
    let next : 1 + k ≡ suc k = omega arith in
    ap (λ (q : ℕ). get_or (info_page info ∷ number_pages numbers ++ saved) q []) next

-- the info page
pub says_info : SaysInfo
says_info h v i holds say =
    ap info_of (stream_page_is h v i 0 holds (omega arith) ∙ stream_info (info_of_image i) (marked_numbers (numbers_of i) (without_data i)) (map page_of (with_data i)))
    ∙ info_of-info_page (info_of_image i) say.info

pub meta_is : (h : Hardware) (v : disk.DiskImage) (i : Image) → Holds h v i → IsSayable i → meta_in h v ≡ meta_of (n_of i)
meta_is h v i holds say = ap (λ (info : Info). meta_of info.image_pages) (says_info h v i holds say)

-- the numbers of the stream
abbrev pub told : Image → List ℕ
told i = marked_numbers (numbers_of i) (without_data i)

pub number_fits : (i : Image) (j : ℕ) → IsSayable i → j < length (numbers_of i) → get_or (numbers_of i) j 0 < zero_bit
number_fits i j say lt =
    let size = length-map i.frames number_of in
    subst (λ (n : ℕ). n < zero_bit) (sym (get_or-map number_of i.frames j none_saved 0 (omega arith))) (say.numbers j none_saved (omega arith))

pub are_all_told : (i : Image) → IsSayable i → AreTold (numbers_of i) (without_data i)
are_all_told i say = are_told (numbers_of i) (without_data i) (λ j lt. number_fits i j say lt)

marked_fits : (b : Bool) (p : ℕ) → p < zero_bit → cond b (p + zero_bit) p < 2 ^ 64
marked_fits true p lt = omega arith
marked_fits false p lt = omega arith

pub told_fit : (i : Image) (j : ℕ) → IsSayable i → j < length (told i) → get_or (told i) j 0 < 2 ^ 64
told_fit i j say lt =
    let size = (are_all_told i say).size in
    let inside : j < length (numbers_of i) = omega arith in
    let zeros = without_data i in
    let p = get_or (numbers_of i) j 0 in
    subst (λ (n : ℕ). n < 2 ^ 64) (sym (get_or-map (marked_number zeros) (numbers_of i) j 0 0 inside))
    (marked_fits (list_any (λ q. eqb q p) zeros) p (number_fits i j say inside))

pub length-told : (i : Image) → IsSayable i → length (told i) ≡ n_of i
length-told i say = (are_all_told i say).size ∙ length-map i.frames number_of

pub word_is : (h : Hardware) (v : disk.DiskImage) (i : Image) (j : ℕ) → Holds h v i → IsSayable i → j < n_of i → number_word h v j ≡ get_or (told i) j 0
word_is h v i j holds say lt =
    let size = length-told i say in
    let within : j / 512 < length (number_pages (told i)) = omega (arith, length-map-range_with_len (number_page (told i)) 0 (meta_of (length (told i))), ap meta_of size) in
    let inside : 1 + j / 512 < pages_of i = omega arith in
    ap (λ (page : List ℕ). word page (j % 512))
    (stream_page_is h v i (1 + j / 512) holds inside
    ∙ stream_behind (info_of_image i) (told i) (map page_of (with_data i)) (j / 512)
    ∙ get_or_append_left (number_pages (told i)) (map page_of (with_data i)) [] (j / 512) within)
    ∙ (have_words (told i) (λ k lt_k. told_fit i k say lt_k)).each j (omega arith)

pub words_are : (h : Hardware) (v : disk.DiskImage) (i : Image) → Holds h v i → IsSayable i → words_in h v ≡ told i
words_are h v i holds say =
    let count : (info_in h v).image_pages ≡ n_of i = ap (λ (info : Info). info.image_pages) (says_info h v i holds say) in
    let n = (info_in h v).image_pages in
    let size = length-map-range_with_len (number_word h v) 0 n in
    ext_get_or 0 (words_in h v) (told i) (size ∙ count ∙ sym (length-told i say))
    (λ j lt.
    let inside : j < n = omega arith in
    get_or-map-range_with_len (number_word h v) 0 n j j 0 inside (zero-add j) ∙ word_is h v i j holds say (omega arith))

-- The format.

format_by : (flags : ℕ) (f : Format) → ((bit_and flags 256 ≢ 0) ↔ (f ≡ SkipZeros)) → cond (not (eqb (bit_and flags 256) 0)) SkipZeros Plain ≡ f
format_by flags Plain iff =
    elim (cases_eq (bit_and flags 256) 0) [
      | inl none ↦ cond-false (not (eqb (bit_and flags 256) 0)) SkipZeros Plain (ap not (eq-eqb (bit_and flags 256) 0 none))
      | inr some ↦ absurd (let never : Plain ≡ SkipZeros = iff.0 some in cc)
    ]
format_by flags SkipZeros iff =
    cond-true (not (eqb (bit_and flags 256) 0)) SkipZeros Plain (ap not (ne_eqb (bit_and flags 256) 0 (iff.1 refl)))

pub format_is : (h : Hardware) (v : disk.DiskImage) (i : Image) → Holds h v i → format_in h v ≡ i.format
format_is h v i holds = format_by (flags_of (header_of h v)) i.format holds.format

-- Which saved pages have no data page.

not_false : (b : Bool) → b ≡ false → not b ≡ true
not_false b e = ap not e

-- a saved page among those that are kept
record Found (keep : Saved → Bool) (frames : List Saved) (p : ℕ) : Type 0 where
  saved : Saved
  there : Contains frames saved
  kept : keep saved ≡ true
  number : saved.0 ≡ p

abbrev kept_numbers : (Saved → Bool) → List Saved → List ℕ
kept_numbers keep frames = map number_of (filter keep frames)

behind : (x : Saved) (frames : List Saved) (s : Saved) → Contains frames s → Contains (x ∷ frames) s
behind x frames s (k, lt, e) = (suc k, omega arith, e)

found_behind : (keep : Saved → Bool) (x : Saved) (frames : List Saved) (p : ℕ) → Found keep frames p → Found keep (x ∷ frames) p
found_behind keep x frames p f = record { saved = f.saved; there = behind x frames f.saved f.there; kept = f.kept; number = f.number }

found_step : (keep : Saved → Bool) (x : Saved) (frames : List Saved) (p : ℕ) (b : Bool) → keep x ≡ b → (list_any (λ q. eqb q p) (kept_numbers keep frames) ≡ true → Found keep frames p) →
    list_any (λ q. eqb q p) (map number_of (cond b (x ∷ filter keep frames) (filter keep frames))) ≡ true → Found keep (x ∷ frames) p
found_step keep x frames p true k ih e =
    elim (cases_eq x.0 p) [
      | inl same ↦ record { saved = x; there = (0, omega arith, refl); kept = k; number = same }
      | inr apart ↦ found_behind keep x frames p (ih (sym (ap (λ (b : Bool). b || list_any (λ q. eqb q p) (kept_numbers keep frames)) (ne_eqb x.0 p apart)) ∙ e))
    ]
found_step keep x frames p false k ih e = found_behind keep x frames p (ih e)

found_in : (keep : Saved → Bool) (frames : List Saved) (p : ℕ) → list_any (λ q. eqb q p) (kept_numbers keep frames) ≡ true → Found keep frames p
found_in keep [] p e = absurd (false≢true e)
found_in keep (x ∷ frames) p e = found_step keep x frames p (keep x) refl (found_in keep frames p) e

or_true : (a b : Bool) → b ≡ true → (a || b) ≡ true
or_true true b e = refl
or_true false b e = e

kept_step : (keep : Saved → Bool) (x : Saved) (frames : List Saved) (p : ℕ) (b : Bool) → list_any (λ q. eqb q p) (kept_numbers keep frames) ≡ true →
    list_any (λ q. eqb q p) (map number_of (cond b (x ∷ filter keep frames) (filter keep frames))) ≡ true
kept_step keep x frames p true ih = or_true (eqb x.0 p) (list_any (λ q. eqb q p) (kept_numbers keep frames)) ih
kept_step keep x frames p false ih = ih

kept_in : (keep : Saved → Bool) (frames : List Saved) (s : Saved) → Contains frames s → keep s ≡ true → list_any (λ q. eqb q s.0) (kept_numbers keep frames) ≡ true
kept_in keep [] s (k, lt, e) kept = absurd (omega arith)
kept_in keep (x ∷ frames) s (zero, lt, e) kept =
    let here : keep x ≡ true = ap keep e ∙ kept in
    ap (λ (xs : List Saved). list_any (λ q. eqb q s.0) (map number_of xs)) (cond-true (keep x) (x ∷ filter keep frames) (filter keep frames) here)
    ∙ ap (λ (b : Bool). b || list_any (λ q. eqb q s.0) (kept_numbers keep frames)) (eq-eqb x.0 s.0 (ap number_of e))
kept_in keep (x ∷ frames) s (suc k, lt, e) kept =
    kept_step keep x frames s.0 (keep x) (kept_in keep frames s (k, omega arith, e) kept)

same_has_data : (f : Format) (s t : Saved) → s.1 ≡ t.1 → has_data f s ≡ has_data f t
same_has_data Plain s t e = refl
same_has_data SkipZeros s t e = ap (λ (page : List ℕ). not (is_zeros page)) e

abbrev skips : Format → Saved → Bool
skips f s = not (has_data f s)

pub is_skipped : (i : Image) (s : Saved) (b : Bool) → IsSayable i → Contains i.frames s → has_data i.format s ≡ b → list_any (λ q. eqb q s.0) (without_data i) ≡ not b
is_skipped i s false say there e = kept_in (skips i.format) i.frames s there (ap not e)
is_skipped i s true say there e = by_any (list_any (λ q. eqb q s.0) (without_data i)) refl where
  by_any : (a : Bool) → list_any (λ q. eqb q s.0) (without_data i) ≡ a → a ≡ false
  by_any false is = refl
  by_any true is =
      let f = found_in (skips i.format) i.frames s.0 is in
      let same : s.1 ≡ f.saved.1 = say.one_page s f.saved there f.there (sym f.number) in
      let never : false ≡ true = sym (ap not e) ∙ ap not (same_has_data i.format s f.saved same) ∙ f.kept in
      absurd (false≢true never)

-- The saved pages, from the numbers and the data pages on.

-- one after another, the data pages from page k of the stream on are those of these saved pages
abbrev Reads : Hardware → disk.DiskImage → ℕ → List Saved → Type 0
Reads h v k saved = (d : ℕ) → d < length saved → stream_page h v (k + d) ≡ (get_or saved d none_saved).1

pub zeros_of : (f : Format) (s : Saved) → has_data f s ≡ false → (f ≡ SkipZeros) × (s.1 ≡ zero_page)
zeros_of Plain s e = absurd (false≢true (sym e))
zeros_of SkipZeros s e = (refl, same_text s.1 zero_page (zeros (is_zeros s.1) e)) where
  zeros : (b : Bool) → not b ≡ false → true ≡ b
  zeros true none = refl
  zeros false none = absurd (false≢true (sym none))

pub not_marked : (f : Format) (p : ℕ) → p < zero_bit → is_marked_by f p ≡ false
not_marked Plain p lt = refl
not_marked SkipZeros p lt = lt-leb zero_bit p lt

number_by-small : (f : Format) (p : ℕ) → p < zero_bit → number_by f p ≡ p
number_by-small Plain p lt = refl
number_by-small SkipZeros p lt = taken_off false p lt

abbrev entry : Hardware → disk.DiskImage → Format → ℕ → ℕ → List ℕ → List Saved
entry h v f k w words = cond (is_marked_by f w) ((number_by f w, zero_page) ∷ saved_from h v k words) ((number_by f w, stream_page h v k) ∷ saved_from h v (k + 1) words)

with_page : (h : Hardware) (v : disk.DiskImage) (f : Format) (k w : ℕ) (words : List ℕ) (s : Saved) → w ≡ s.0 → s.0 < zero_bit → stream_page h v k ≡ s.1 → entry h v f k w words ≡ s ∷ saved_from h v (k + 1) words
with_page h v f k w words s e lt page =
    ap (λ (x : ℕ). entry h v f k x words) e
    ∙ cond-false (is_marked_by f s.0) ((number_by f s.0, zero_page) ∷ saved_from h v k words) ((number_by f s.0, stream_page h v k) ∷ saved_from h v (k + 1) words) (not_marked f s.0 lt)
    ∙ ap₂ (λ (n : ℕ) (x : List ℕ). (n, x) ∷ saved_from h v (k + 1) words) (number_by-small f s.0 lt) page

without_page : (h : Hardware) (v : disk.DiskImage) (f : Format) (k w : ℕ) (words : List ℕ) (s : Saved) → w ≡ s.0 + zero_bit → s.0 < zero_bit → f ≡ SkipZeros → s.1 ≡ zero_page → entry h v f k w words ≡ s ∷ saved_from h v k words
without_page h v f k w words s e lt skip zeros =
    let p = s.0 in
    ap (λ (g : Format). entry h v g k w words) skip
    ∙ ap (λ (x : ℕ). entry h v SkipZeros k x words) e
    ∙ cond-true (leb zero_bit (p + zero_bit)) ((number_of_word (p + zero_bit), zero_page) ∷ saved_from h v k words) ((number_of_word (p + zero_bit), stream_page h v k) ∷ saved_from h v (k + 1) words) (le-leb zero_bit (p + zero_bit) (omega arith))
    ∙ ap₂ (λ (n : ℕ) (x : List ℕ). (n, x) ∷ saved_from h v k words) (taken_off true p lt) (sym zeros)

abbrev marks_of : List ℕ → List Saved → List ℕ
marks_of zeros rest = map (marked_number zeros) (map number_of rest)

-- what holds of the saved pages that are still to come
record AreToCome (f : Format) (zeros : List ℕ) (rest : List Saved) : Type 0 where
  numbers : All (λ saved. saved.0 < zero_bit) rest
  marks : (s : Saved) → Contains rest s → (b : Bool) → has_data f s ≡ b → list_any (λ q. eqb q s.0) zeros ≡ not b

to_come_behind : (f : Format) (zeros : List ℕ) (s : Saved) (rest : List Saved) → AreToCome f zeros (s ∷ rest) → AreToCome f zeros rest
to_come_behind f zeros s rest come = record {
  numbers = λ k d lt. come.numbers (suc k) d (omega arith);
  marks = λ t there b e. come.marks t (behind s rest t there) b e;
}

saved_step : (h : Hardware) (v : disk.DiskImage) (f : Format) (zeros : List ℕ) (k : ℕ) (s : Saved) (rest : List Saved) (b : Bool) → has_data f s ≡ b → s.0 < zero_bit → list_any (λ q. eqb q s.0) zeros ≡ not b →
    ((j : ℕ) → Reads h v j (filter (has_data f) rest) → saved_from h v j (marks_of zeros rest) ≡ rest) →
    Reads h v k (cond b (s ∷ filter (has_data f) rest) (filter (has_data f) rest)) → entry h v f k (marked_number zeros s.0) (marks_of zeros rest) ≡ s ∷ rest
saved_step h v f zeros k s rest true has lt mark ih reads =
    let same : marked_number zeros s.0 ≡ s.0 = cond-false (list_any (λ q. eqb q s.0) zeros) (s.0 + zero_bit) s.0 mark in
    let here : stream_page h v k ≡ s.1 = ap (stream_page h v) (let none : k ≡ k + 0 = omega arith in none) ∙ reads 0 (omega arith) in
    with_page h v f k (marked_number zeros s.0) (marks_of zeros rest) s same lt here
    ∙ ap (λ (xs : List Saved). s ∷ xs) (ih (k + 1) (λ d below.
    let next : k + 1 + d ≡ k + suc d = omega arith in
    ap (stream_page h v) next ∙ reads (suc d) (omega arith)))
saved_step h v f zeros k s rest false has lt mark ih reads =
    let zero_like = zeros_of f s has in
    let same : marked_number zeros s.0 ≡ s.0 + zero_bit = cond-true (list_any (λ q. eqb q s.0) zeros) (s.0 + zero_bit) s.0 mark in
    without_page h v f k (marked_number zeros s.0) (marks_of zeros rest) s same lt zero_like.0 zero_like.1
    ∙ ap (λ (xs : List Saved). s ∷ xs) (ih k reads)

saved_is : (h : Hardware) (v : disk.DiskImage) (f : Format) (zeros : List ℕ) (rest : List Saved) (k : ℕ) → format_in h v ≡ f → AreToCome f zeros rest → Reads h v k (filter (has_data f) rest) → saved_from h v k (marks_of zeros rest) ≡ rest
saved_is h v f zeros [] k format come reads = refl
saved_is h v f zeros (s ∷ rest) k format come reads =
    ap (λ (g : Format). entry h v g k (marked_number zeros s.0) (marks_of zeros rest)) format
    ∙ saved_step h v f zeros k s rest (has_data f s) refl (come.numbers 0 s (omega arith)) (come.marks s (0, omega arith, refl) (has_data f s) refl)
    (λ j. saved_is h v f zeros rest j format (to_come_behind f zeros s rest come)) reads

-- The data pages.

data_page_at : (h : Hardware) (v : disk.DiskImage) (i : Image) (k : ℕ) → Holds h v i → IsSayable i → k < d_of i → stream_page h v (1 + meta_of (n_of i) + k) ≡ (get_or (with_data i) k none_saved).1
data_page_at h v i k holds say lt =
    let meta = meta_of (n_of i) in
    let pages = number_pages (told i) in
    let size : length pages ≡ meta = length-map-range_with_len (number_page (told i)) 0 (meta_of (length (told i))) ∙ ap meta_of (length-told i say) in
    let at : 1 + meta + k ≡ 1 + (meta + k) = omega arith in
    let rest : meta + k - meta ≡ k = omega arith in
    stream_page_is h v i (1 + meta + k) holds (omega arith)
    ∙ ap (λ (q : ℕ). get_or (stream_of i) q []) at
    ∙ stream_behind (info_of_image i) (told i) (map page_of (with_data i)) (meta + k)
    ∙ get_or-append_right pages (map page_of (with_data i)) meta (meta + k) [] size (omega arith)
    ∙ ap (λ (q : ℕ). get_or (map page_of (with_data i)) q []) rest
    ∙ get_or-map page_of (with_data i) k none_saved [] lt

pub says_pages : SaysPages
says_pages h v i holds say k lt =
    ap (λ (meta : ℕ). stream_page h v (1 + meta + k)) (meta_is h v i holds say) ∙ data_page_at h v i k holds say lt

-- The numbers.

number_by_mark : (f : Format) (b : Bool) (p : ℕ) → p < zero_bit → (f ≡ Plain → b ≡ false) → number_by f (cond b (p + zero_bit) p) ≡ p
number_by_mark Plain b p lt plain = cond-false b (p + zero_bit) p (plain refl)
number_by_mark SkipZeros b p lt plain = taken_off b p lt

plain_data : (f : Format) (s : Saved) → f ≡ Plain → has_data f s ≡ true
plain_data f s e = ap (λ (g : Format). has_data g s) e

pub says_numbers : SaysNumbers
says_numbers h v i holds say j lt =
    let zeros = without_data i in
    let size = length-map i.frames number_of in
    let inside : j < length (numbers_of i) = omega arith in
    let p = get_or (numbers_of i) j 0 in
    let s = get_or i.frames j none_saved in
    let at : p ≡ s.0 = get_or-map number_of i.frames j none_saved 0 lt in
    let there : Contains i.frames s = (j, lt, get_or_default i.frames j s none_saved lt) in
    ap₂ number_by (format_is h v i holds) (word_is h v i j holds say lt ∙ get_or-map (marked_number zeros) (numbers_of i) j 0 0 inside)
    ∙ number_by_mark i.format (list_any (λ q. eqb q p) zeros) p (number_fits i j say inside)
    (λ plain. ap (λ (n : ℕ). list_any (λ q. eqb q n) zeros) at ∙ is_skipped i s true say there (plain_data i.format s plain))

-- The whole.

image_with : List Saved → (ℕ → Option (List ℕ)) → Info → Format → Image
image_with frames slots info f = record { frames = frames; slots = slots; ident = info.ident; physpages = info.physpages; format = f }

pub decodes : Decodes
unfolding image_with
decodes h v i holds say =
    let info = says_info h v i holds say in
    let format = format_is h v i holds in
    let come : AreToCome i.format (without_data i) i.frames = record { numbers = say.numbers; marks = λ s there b e. is_skipped i s b say there e } in
    let frames : saved_from h v (1 + meta_in h v) (words_in h v) ≡ i.frames =
    ap₂ (λ (k : ℕ) (words : List ℕ). saved_from h v (1 + k) words) (meta_is h v i holds say) (words_are h v i holds say)
    ∙ saved_is h v i.format (without_data i) i.frames (1 + meta_of (n_of i)) format come (λ d lt. data_page_at h v i d holds say lt) in
    ap (λ (xs : List Saved). image_with xs i.slots (info_in h v) (format_in h v)) frames
    ∙ ap (λ (x : Info). image_with i.frames i.slots x (format_in h v)) info
    ∙ ap (λ (f : Format). image_with i.frames i.slots (info_of_image i) f) format

-- Images of memories.

pub few_saveable : (h : Hardware) (m : Memory) → AreZones h.zones → length (saveable h m) ≤ 65536
unfolding saveable_frames
few_saveable h m zones =
    let test : ℕ → Bool = λ p. is_saveable (flags_in (entry_at m h.frame_table p)) in
    let count = length-filter test (numbers h.zones) in
    let part = count_by-le-length test (numbers h.zones) in
    let all = count_at_most h.zones zones in
    let most = top_at_most h.zones zones in
    omega arith

pub saveable_below : (h : Hardware) (m : Memory) (p : ℕ) → AreZones h.zones → Contains (saveable h m) p → p < zero_bit
saveable_below h m p zones in' =
    let valid = (Contains-from_saveable_frames h.zones h.frame_table m p in').0 in
    let below = below_top h.zones p zones.apart valid in
    let most = top_at_most h.zones zones in
    omega arith

-- a saved page is the page of its page frame
page_of_memory : (m : Memory) (ps : List ℕ) (s : Saved) → Contains (map (λ p. (p, frame m p)) ps) s → s.1 ≡ frame m s.0
page_of_memory m ps s (k, lt, e) =
    let pair : ℕ → Saved = λ p. (p, frame m p) in
    let inside : k < length ps = omega (arith, length-map ps pair) in
    let is : (get_or ps k 0, frame m (get_or ps k 0)) ≡ s = sym (get_or-map pair ps k 0 s inside) ∙ e in
    ap page_of (sym is) ∙ ap (frame m) (ap number_of is)

pub memories_are_sayable : MemoriesAreSayable
memories_are_sayable h m slots f hw =
    let zones = hw.zones in
    let ident = hw.ident in
    let ps = saveable h m in
    let pair : ℕ → Saved = λ p. (p, frame m p) in
    let i = image_of_memory h m slots f in
    let size : length (map pair ps) ≡ length ps = length-map ps pair in
    let few = few_saveable h m zones in
    let valid = count_at_most h.zones zones in
    let most = top_at_most h.zones zones in
    let paged = length-filter (has_data f) (map pair ps) in
    let part = count_by-le-length (has_data f) (map pair ps) in
    record {
      info = record {
        version_code = ident.version_code;
        names = ident.names;
        each_name = ident.each_name;
        physpages = omega arith;
        image_pages = omega arith;
        pages = omega arith;
      };
      numbers = λ k d lt.
          (let inside : k < length ps = omega arith in
          subst (λ (s : Saved). s.0 < zero_bit) (sym (get_or-map pair ps k 0 d inside)) (saveable_below h m (get_or ps k 0) zones (Contains-get_or ps k 0 inside)));
      one_page = λ s t s_in t_in same. page_of_memory m ps s s_in ∙ ap (frame m) same ∙ sym (page_of_memory m ps t t_in);
    }
