-- The data pages of a stream.
use Rattle.std.proofs.Common.{◌≡◌, ap₂, ℕ, ◌+◌, ◌-◌, ◌*◌, ◌%◌, ◌<◌, ◌≤◌, zero, suc, Bool, true, false, cond, ltb, List, [], ◌∷◌, length, map, filter, Contains, get_or, Option, Some, None, slice_get, refl, sym, ap, ◌∙◌, subst, inl, inr, arith}
use Rattle.std.proofs.lemmas.Bool.{cases_eq, cases_lt, cond-true, lt-ltb, ltb-true}
use Rattle.std.proofs.lemmas.Option.{same_Some, none-some, slice_get_within, slice_get-get_or}
use Rattle.std.specs.List.{range_with_len}
use Rattle.std.specs.List.Sorted.{IsStrictlyIncreasing}
use Rattle.definitions.proofs.Ascending.{Contains-tail}
use Rattle.definitions.specs.Disk as disk
use Rattle.plain_machine.specs.Machine.{Hardware}
use Rattle.plain_machine.specs.Trace.{Place, info_in, format_in, meta_in, number_in, number_word, is_marked_by, stream_page, place_count, data_frames}
use Rattle.image_read.specs.Stream.{frames_in, marked_in, pages_read, numbers_read, frame_at, place_block, told}
use Rattle.image_read.specs.Taking as taking
use Rattle.image_read.proofs.Places.{at_map, at_page, read_at_map, read_at_page}
use Rattle.image_read.proofs.Read.{known, saved_is, told_all, told_more}
use Rattle.image_read.proofs.Rising.{data_frames_are, data_words}
use Rattle.placement.specs.Waiting as waiting
use Rattle.restore_laws.specs.DataPages.{listed_frames, listed_marks, data_before, ReadsWithData, WaitsWithData, DataCount, ListedSets, NextPage, NoPage, NoneBefore, AllRead}

-- Which page frames have data pages.

pub reads_with_data : ReadsWithData
reads_with_data h v up = data_frames_are h v up

same_with_data : (origs zeros : List ℕ) → waiting.with_data origs zeros ≡ taking.with_data origs zeros
unfolding waiting.with_data taking.with_data
same_with_data origs zeros = refl

pub waits_with_data : WaitsWithData
waits_with_data h v up = same_with_data (listed_frames h v) (listed_marks h v) ∙ data_frames_are h v up

pub data_count : DataCount
data_count h v = data_words h v

-- A place.

slice_get-beyond : (xs : List ℕ) (m : ℕ) → slice_get xs m ≡ None → length xs ≤ m
slice_get-beyond xs m none = elim (cases_lt m (length xs)) [
  | inl lt ↦ absurd (none-some (get_or xs m 0) (sym none ∙ slice_get-get_or xs m 0 lt))
  | inr ge ↦ ge
]

by_test : (b : Bool) (x : Option ℕ) (p : ℕ) → cond b x None ≡ Some p → (b ≡ true) × (x ≡ Some p)
by_test true x p e = (refl, e)
by_test false x p e = absurd (none-some p e)

pub next_page : NextPage
next_page h v t p is = elim (cases_eq (t % 512) 0) [
  | inl at ↦ absurd (none-some p (sym (ap (frame_at h v) (at_map t at)) ∙ is))
  | inr apart ↦
      let k = pages_read t in
      let m = data_before h v t in
      let here = at_page t apart in
      let parts = by_test (ltb (meta_in h v) k) (slice_get (data_frames h v) m) p (sym (ap (frame_at h v) here) ∙ is) in
      let past = ltb-true (meta_in h v) k parts.0 in
      let next = read_at_page t apart in
      let index : k ≡ 1 + meta_in h v + m = omega arith in
      record {
        within = slice_get_within (data_frames h v) m p parts.1;
        frame = parts.1;
        page = ap (λ (q : Place). disk.block v (place_block h v q)) here ∙ ap (stream_page h v) index;
        counted = omega arith;
      }
]

-- whether all numbers are read
pub told_none : (h : Hardware) (v : disk.DiskImage) (k : ℕ) → 1 ≤ k → told h v k ≡ None → 512 * (k - 1) < (info_in h v).image_pages
told_none h v k some none = elim (cases_lt (512 * (k - 1)) (info_in h v).image_pages) [
  | inl lt ↦ lt
  | inr ge ↦
      let saved = saved_is h v k some in
      absurd (none-some (info_in h v).image_pages (sym none ∙ told_all h v k some (let e : numbers_read h v k ≡ (info_in h v).image_pages = omega arith in e)))
]

pub told_some : (h : Hardware) (v : disk.DiskImage) (k n : ℕ) → told h v k ≡ Some n → (1 ≤ k) × ((info_in h v).image_pages ≤ 512 * (k - 1))
told_some h v zero n some = absurd (none-some n some)
told_some h v (suc k) n some = elim (cases_lt (512 * (suc k - 1)) (info_in h v).image_pages) [
  | inl lt ↦
      let saved = saved_is h v (suc k) (omega arith) in
      absurd (none-some n (sym (told_more h v (suc k) (omega arith) (λ e. omega arith)) ∙ some))
  | inr ge ↦ (omega arith, ge)
]

-- if the number of saved page frames is told, it is the info page's
pub told_same : (h : Hardware) (v : disk.DiskImage) (k n : ℕ) → told h v k ≡ Some n → told h v k ≡ Some (info_in h v).image_pages
told_same h v k n some =
    let all = told_some h v k n some in
    let one = all.0 in
    let past = all.1 in
    let saved = saved_is h v k one in
    told_all h v k one (let e : numbers_read h v k ≡ (info_in h v).image_pages = omega arith in e)

-- the number is told at each later place too
pub told_later : (h : Hardware) (v : disk.DiskImage) (t n : ℕ) → told h v (pages_read t) ≡ Some n → told h v (pages_read (t + 1)) ≡ Some n
told_later h v t n some =
    let all = told_some h v (pages_read t) n some in
    let one = all.0 in
    let past = all.1 in
    let later : pages_read t ≤ pages_read (t + 1) = omega arith in
    let saved = saved_is h v (pages_read (t + 1)) (omega arith) in
    told_all h v (pages_read (t + 1)) (omega arith) (let e : numbers_read h v (pages_read (t + 1)) ≡ (info_in h v).image_pages = omega arith in e)
    ∙ sym (told_same h v (pages_read t) n some) ∙ some

all_numbers : (h : Hardware) (v : disk.DiskImage) (k n : ℕ) → told h v k ≡ Some n → numbers_read h v k ≡ (info_in h v).image_pages
all_numbers h v k n some =
    let all = told_some h v k n some in
    let past = all.1 in
    let saved = saved_is h v k all.0 in
    omega arith

-- a page frame without data is listed
kept_of : (f : ℕ → ℕ) (test : ℕ → Bool) (js : List ℕ) (p : ℕ) → Contains (map f (filter test js)) p → Contains (map f js) p
kept_of f test [] p = λ in'. in'
kept_of f test (j ∷ js) p = by (test j) (kept_of f test js p) where
  by : (b : Bool) → (Contains (map f (filter test js)) p → Contains (map f js) p) → Contains (map f (cond b (j ∷ filter test js) (filter test js))) p → Contains (f j ∷ map f js) p
  by true rest (zero, lt, e) = (0, omega arith, e)
  by true rest (suc k, lt, e) = Contains-tail (f j) (map f js) p (rest (k, omega arith, e))
  by false rest in' = Contains-tail (f j) (map f js) p (rest in')

pub marks_listed : (h : Hardware) (v : disk.DiskImage) (m p : ℕ) → Contains (marked_in h v m) p → Contains (frames_in h v m) p
unfolding marked_in frames_in
marks_listed h v m p in' = kept_of (number_in h v) (λ j. is_marked_by (format_in h v) (number_word h v j)) (range_with_len 0 m) p in'

pub listed_sets : ListedSets
listed_sets h v check r t n origs zeros reading listed =
    let here : told h v (pages_read t) ≡ Some n = sym reading.listed ∙ listed in
    let all = all_numbers h v (pages_read t) n here in
    let frames : origs ≡ listed_frames h v = reading.frames ∙ ap (frames_in h v) all in
    let marks : zeros ≡ listed_marks h v = reading.marks ∙ ap (marked_in h v) all in
    let rising = subst IsStrictlyIncreasing frames reading.rising in
    record {
      count = same_Some n (info_in h v).image_pages (sym here ∙ told_same h v (pages_read t) n here);
      frames = frames;
      marks = marks;
      rising = rising;
      paged = ap₂ waiting.with_data frames marks ∙ waits_with_data h v rising;
    }

pub none_before : NoneBefore
none_before h v t none = elim (cases_lt (pages_read t) 1) [
  | inl few ↦ omega arith
  | inr some ↦ let more = told_none h v (pages_read t) some none in omega arith
]

-- the numbers are listed from the first data page on
pub listed_from : (h : Hardware) (v : disk.DiskImage) (k : ℕ) → 1 ≤ k → meta_in h v ≤ k - 1 → told h v k ≡ Some (info_in h v).image_pages
listed_from h v k some past =
    let saved = saved_is h v k some in
    told_all h v k some (let e : numbers_read h v k ≡ (info_in h v).image_pages = omega arith in e)

pub no_page : NoPage
no_page h v check r t origs zeros reading none = elim (cases_eq (t % 512) 0) [
  | inl at ↦ let same = read_at_map t at in omega arith
  | inr apart ↦ elim (cases_lt (meta_in h v) (pages_read t)) [
    | inl past ↦
        let k = pages_read t in
        let next = read_at_page t apart in
        let m = data_before h v t in
        let none_here : slice_get (data_frames h v) m ≡ None =
        sym (cond-true (ltb (meta_in h v) k) (slice_get (data_frames h v) m) None (lt-ltb (meta_in h v) k past)) ∙ sym (ap (frame_at h v) (at_page t apart)) ∙ none in
        let beyond = slice_get-beyond (data_frames h v) m none_here in
        let whole = reading.whole (info_in h v).image_pages (reading.listed ∙ listed_from h v (pages_read (t + 1)) (omega arith) (omega arith)) in
        let pages = known h v (pages_read (t + 1)) (omega arith) in
        let within : t + 1 ≤ place_count (info_in h v).pages = subst (λ (n : ℕ). t + 1 ≤ place_count n) pages reading.within in
        absurd (omega arith)
    | inr before ↦ let next = read_at_page t apart in omega arith
  ]
]

pub all_read : AllRead
all_read h v check r t origs zeros reading some is =
    let counts = reading.counts some in
    let least = counts.least in
    let n = (info_in h v).pages in
    let all : pages_read t ≡ n = omega arith in
    let whole = reading.whole (info_in h v).image_pages (reading.listed ∙ listed_from h v (pages_read t) some (omega arith)) in
    omega arith
