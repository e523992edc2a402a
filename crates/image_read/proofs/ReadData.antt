-- A data page.
use Rattle.std.proofs.Common.{◌≡◌, ℕ, ◌+◌, ◌-◌, ◌%◌, ◌<◌, ◌≤◌, zero, suc, List, [], ◌∷◌, length, get_or, ltb, Some, None, slice_get, sym, ap, ap₂, ◌∙◌, subst, inl, inr, arith}
use Rattle.std.proofs.lemmas.Bool.{cases_lt, cases_eq, cases_order, cond-true, cond-false, le-ltb, lt-ltb}
use Rattle.std.proofs.lemmas.Option.{slice_get-get_or}
use Rattle.std.proofs.lemmas.List.Kept.{AllPairs-from_increasing}
use Rattle.std.proofs.lemmas.List.Elements.{Contains-get_or}
use Rattle.std.specs.List.{Contains}
use Rattle.std.specs.List.Sorted.{IsStrictlyIncreasing}
use Rattle.definitions.specs.Disk as disk
use Rattle.definitions.specs.Zones.{first_from}
use Rattle.definitions.proofs.Ascending.{Contains-nil, Contains-cons_cases, first_from-some}
use Rattle.frame_sets.specs.Unpacked.{Unpacked}
use Rattle.plain_machine.specs.Machine.{Hardware}
use Rattle.plain_machine.specs.Trace.{page_at, info_in, format_in, meta_in, place, place_count, read_cause, numbers_cause, data_frames}
use Rattle.plain_machine.specs.declared.event.IdentCheck.{IdentCheck}
use Rattle.image_read.specs.Reading.{Reading}
use Rattle.image_read.specs.Taking.{with_data, after_frame}
use Rattle.image_read.specs.Stream.{HasReadPlaces, pages_read, known_pages, numbers_read, frames_in, marked_in, last_number, frame_after, frame_at}
use Rattle.image_read.proofs.NextFrame.{IsStrictlyIncreasing-with_data}
use Rattle.image_read.proofs.Places.{at_page, pages_left}
use Rattle.image_read.proofs.Read.{IsRead, known, saved_is, told_all, told_more}
use Rattle.image_read.proofs.Rising.{data_frames_are}

-- The next of an ascending list.

member_at : (xs : List ℕ) (r : ℕ) → Contains xs r → (m : ℕ) × (m < length xs) × (get_or xs m 0 ≡ r)
member_at [] r in' = absurd (Contains-nil r in')
member_at (x ∷ xs) r in' = elim (Contains-cons_cases x xs r in') [
  | inl e ↦ (0, omega arith, e)
  | inr rest ↦ let at = member_at xs r rest in let lt = at.1 in (suc at.0, omega arith, at.2)
]

after_at_most : (xs : List ℕ) (i : ℕ) → IsStrictlyIncreasing xs → i < length xs → frame_after xs i ≤ get_or xs i 0
after_at_most xs zero up lt = omega arith
after_at_most xs (suc i) up lt = let pair = AllPairs-from_increasing xs up i (suc i) 0 (omega arith) lt in omega arith

not_before : (xs : List ℕ) (i m : ℕ) → IsStrictlyIncreasing xs → m < i → i < length xs → get_or xs m 0 < frame_after xs i
not_before xs zero m up lt within = absurd (omega arith)
not_before xs (suc i) m up lt within = elim (cases_lt m i) [
  | inl below ↦ let pair = AllPairs-from_increasing xs up m i 0 below (omega arith) in omega arith
  | inr ge ↦ let same : m ≡ i = omega arith in let value = ap (λ (k : ℕ). get_or xs k 0) same in omega arith
]

least_from : (xs : List ℕ) (i m r : ℕ) → IsStrictlyIncreasing xs → i < length xs → m < length xs → get_or xs m 0 ≡ r → frame_after xs i ≤ r → get_or xs i 0 ≤ r
least_from xs i m r up lt within is le = elim (cases_order i m) [
  | inl same ↦ let value = ap (λ (k : ℕ). get_or xs k 0) same in omega arith
  | inr apart ↦ elim apart [
    | inl below ↦ let pair = AllPairs-from_increasing xs up i m 0 below within in omega arith
    | inr above ↦ absurd (let low = not_before xs i m up above lt in omega arith)
  ]
]

pub next_of : (xs : List ℕ) (i : ℕ) → IsStrictlyIncreasing xs → i < length xs → first_from xs (frame_after xs i) ≡ Some (get_or xs i 0)
next_of xs i up lt =
    first_from-some xs (frame_after xs i) (get_or xs i 0) up (Contains-get_or xs i 0 lt) (after_at_most xs i up lt)
    (λ r in' le. let at = member_at xs r in' in least_from xs i at.0 r up lt at.1 at.2 le)

-- A data page that was read: which page frame's it is, and how the reader goes on.

pub record IsData (h : Hardware) (v : disk.DiskImage) (check : IdentCheck) (r : Reading) (t : ℕ) (origs zeros : List ℕ) : Type 0 where
  pub all : numbers_read h v (pages_read t) ≡ (info_in h v).image_pages
  pub some : 1 ≤ pages_read t
  pub within : pages_read t - 1 - meta_in h v < length (data_frames h v)
  pub past : meta_in h v ≤ pages_read t - 1
  pub up : IsStrictlyIncreasing (data_frames h v)
  pub found : first_from (with_data origs zeros) r.frame ≡ Some (get_or (data_frames h v) (pages_read t - 1 - meta_in h v) 0)

pub at_data : (h : Hardware) (v : disk.DiskImage) (check : IdentCheck) (r : Reading) (t m : ℕ) (origs zeros : List ℕ) → HasReadPlaces h v check r t origs zeros → t < place_count (known_pages h v (pages_read t)) → (t % 512 ≡ 0 → ⊥) → 1 ≤ pages_read t → r.listed ≡ Some m → IsData h v check r t origs zeros
at_data h v check r t m origs zeros reading lt apart some listed =
    let n = (info_in h v).image_pages in
    let k = pages_read t in
    let i = k - 1 - meta_in h v in
    let saved_same = saved_is h v k some in
    let all : numbers_read h v k ≡ n = elim (cases_eq (numbers_read h v k) n) [
      | inl e ↦ e
      | inr more ↦ absurd (let no : Some m ≡ None = sym listed ∙ reading.listed ∙ told_more h v k some more in cc)
    ] in
    let counts = reading.counts some in
    let least = counts.least in
    let whole = reading.whole m listed in
    let pages_same = known h v k some in
    let left = pages_left t (known_pages h v k) apart lt in
    let past : meta_in h v ≤ k - 1 = omega arith in
    let within : i < length (data_frames h v) = omega arith in
    let frames : origs ≡ frames_in h v n = reading.frames ∙ ap (frames_in h v) all in
    let marks : zeros ≡ marked_in h v n = reading.marks ∙ ap (marked_in h v) all in
    let are : with_data origs zeros ≡ data_frames h v = ap₂ with_data frames marks ∙ data_frames_are h v (subst IsStrictlyIncreasing frames reading.rising) in
    let up : IsStrictlyIncreasing (data_frames h v) = subst IsStrictlyIncreasing are (IsStrictlyIncreasing-with_data origs zeros reading.rising) in
    record {
      all = all;
      some = some;
      within = within;
      past = past;
      up = up;
      found = ap₂ first_from are reading.frame ∙ next_of (data_frames h v) i up within;
    }

pub frame_found : (h : Hardware) (v : disk.DiskImage) (check : IdentCheck) (r : Reading) (t : ℕ) (origs zeros : List ℕ) → IsData h v check r t origs zeros → (t % 512 ≡ 0 → ⊥) → first_from (with_data origs zeros) r.frame ≡ frame_at h v (place t)
frame_found h v check r t origs zeros at apart =
    let past = at.past in
    let some = at.some in
    at.found
    ∙ sym (ap (frame_at h v) (at_page t apart)
    ∙ cond-true (ltb (meta_in h v) (pages_read t)) (slice_get (data_frames h v) (pages_read t - 1 - meta_in h v)) None (lt-ltb (meta_in h v) (pages_read t) (omega arith))
    ∙ slice_get-get_or (data_frames h v) (pages_read t - 1 - meta_in h v) 0 at.within)

pub data_cause : (h : Hardware) (v : disk.DiskImage) (check : IdentCheck) (r : Reading) (t : ℕ) (origs zeros : List ℕ) → IsData h v check r t origs zeros → (t % 512 ≡ 0 → ⊥) → read_cause h v check (place t) ≡ None
data_cause h v check r t origs zeros at apart =
    let past = at.past in
    let some = at.some in
    let k_is : pages_read t ≡ suc (pages_read t - 1) = omega arith in
    ap (read_cause h v check) (at_page t apart ∙ ap page_at k_is)
    ∙ cond-false (ltb (pages_read t - 1) (meta_in h v)) (numbers_cause h v (pages_read t - 1)) None (le-ltb (pages_read t - 1) (meta_in h v) past)

abbrev unpacked : Hardware → disk.DiskImage → ℕ → ℕ → Unpacked
unpacked h v n read = record { n = n; format = format_in h v; read = read; last = last_number h v read }

pub read_data : (h : Hardware) (v : disk.DiskImage) (check : IdentCheck) (r new : Reading) (t m : ℕ) (origs zeros : List ℕ) → HasReadPlaces h v check r t origs zeros → IsData h v check r t origs zeros → t < place_count (known_pages h v (pages_read t)) → (t % 512 ≡ 0 → ⊥) → r.listed ≡ Some m → new ≡ record r { frame = after_frame r.frame (first_from (with_data origs zeros) r.frame) } → IsRead h v check new t (pages_read t + 1) origs zeros
read_data h v check r new t m origs zeros reading at lt apart listed new_is =
    let n = (info_in h v).image_pages in
    let k = pages_read t in
    let i = k - 1 - meta_in h v in
    let some = at.some in
    let all = at.all in
    let past = at.past in
    let saved_same = saved_is h v k some in
    let saved_next = saved_is h v (k + 1) (omega arith) in
    let all_next : numbers_read h v (k + 1) ≡ n = omega arith in
    let known_same : known_pages h v k ≡ known_pages h v (k + 1) = known h v k some ∙ sym (known h v (k + 1) (omega arith)) in
    let next : suc i ≡ k + 1 - 1 - meta_in h v = omega arith in
    subst (λ (x : Reading). IsRead h v check x t (k + 1) origs zeros) (sym new_is) (record {
      area = reading.area;
      steps = reading.steps;
      sound = reading.sound;
      cause = data_cause h v check r t origs zeros at apart;
      pages = reading.pages ∙ known_same;
      saved = reading.saved ∙ saved_same ∙ sym saved_next;
      within = omega (arith, ap place_count known_same);
      map = reading.map apart;
      numbers = reading.numbers ∙ ap₂ (unpacked h v) (saved_same ∙ sym saved_next) (all ∙ sym all_next);
      listed = reading.listed ∙ told_all h v k some all ∙ sym (told_all h v (k + 1) (omega arith) all_next);
      frame = ap (after_frame r.frame) at.found ∙ ap (frame_after (data_frames h v)) next;
      frames = reading.frames ∙ ap (frames_in h v) (all ∙ sym all_next);
      marks = reading.marks ∙ ap (marked_in h v) (all ∙ sym all_next);
      rising = reading.rising;
      counts = λ le. reading.counts some;
      whole = reading.whole;
    })
