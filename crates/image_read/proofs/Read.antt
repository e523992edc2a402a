-- A place that was read without a cause, before the step is counted.
use Rattle.std.proofs.Common.{◌≡◌, ◌≢◌, ℕ, ◌+◌, ◌-◌, ◌/◌, ◌%◌, ◌<◌, ◌≤◌, zero, suc, List, length, cond, eqb, Some, None, refl, sym, ap, ap₂, ◌∙◌, subst, inl, inr, arith}
use Rattle.std.proofs.lemmas.Bool.{cases_eq, cond-true, cond-false, eq-eqb, ne_eqb}
use Rattle.std.specs.List.Sorted.{IsStrictlyIncreasing}
use Rattle.definitions.specs.Disk as disk
use Rattle.image_format.specs.MapPages.{NumberedPage}
use Rattle.plain_machine.specs.Machine.{Hardware}
use Rattle.plain_machine.specs.Chain.{map_block}
use Rattle.plain_machine.specs.Trace.{first_map, info_in, meta_in, place, place_count, read_cause, data_frames, cause_with}
use Rattle.plain_machine.specs.declared.event.IdentCheck.{IdentCheck}
use Rattle.image_read.specs.Reading.{Reading}
use Rattle.image_read.specs.Stream.{IsAreaOf, HasReadPlaces, HasCounts, AreListed, place_block, pages_read, known_pages, known_saved, numbers_read, frames_in, marked_in, unpacked_at, told, frame_after}
use Rattle.image_read.proofs.Places.{at_map, read_at_map}

pub record IsRead (h : Hardware) (v : disk.DiskImage) (check : IdentCheck) (r : Reading) (t k : ℕ) (origs zeros : List ℕ) : Type 0 where
  pub area : IsAreaOf h v r.extents r.last r.blocks r.format
  pub steps : r.steps ≡ t
  pub sound : (s : ℕ) → s < t → cause_with h v check None s ≡ None
  pub cause : read_cause h v check (place t) ≡ None
  pub pages : r.pages ≡ known_pages h v k
  pub saved : r.saved ≡ known_saved h v k
  pub within : t + 1 ≤ place_count (known_pages h v k)
  pub map : r.map ≡ record { page = disk.block v (map_block v (first_map h v) (t / 512)); map = t / 512 + 1 }
  pub numbers : r.numbers ≡ unpacked_at h v k
  pub listed : r.listed ≡ told h v k
  pub frame : r.frame ≡ frame_after (data_frames h v) (k - 1 - meta_in h v)
  pub frames : origs ≡ frames_in h v (numbers_read h v k)
  pub marks : zeros ≡ marked_in h v (numbers_read h v k)
  pub rising : IsStrictlyIncreasing origs
  pub counts : 1 ≤ k → HasCounts (info_in h v).image_pages (info_in h v).pages
  pub whole : (n : ℕ) → r.listed ≡ Some n → (info_in h v).pages ≡ length (data_frames h v) + meta_in h v + 1

-- what is known once a page was read
pub known : (h : Hardware) (v : disk.DiskImage) (k : ℕ) → 1 ≤ k → known_pages h v k ≡ (info_in h v).pages
known h v zero le = absurd (omega arith)
known h v (suc k) le = refl

pub saved_is : (h : Hardware) (v : disk.DiskImage) (k : ℕ) → 1 ≤ k → known_saved h v k ≡ (info_in h v).image_pages
saved_is h v zero le = absurd (omega arith)
saved_is h v (suc k) le = refl

pub told_is : (h : Hardware) (v : disk.DiskImage) (k : ℕ) → 1 ≤ k → told h v k ≡ cond (eqb (numbers_read h v k) (info_in h v).image_pages) (Some (info_in h v).image_pages) None
told_is h v zero le = absurd (omega arith)
told_is h v (suc k) le = refl

pub told_all : (h : Hardware) (v : disk.DiskImage) (k : ℕ) → 1 ≤ k → numbers_read h v k ≡ (info_in h v).image_pages → told h v k ≡ Some (info_in h v).image_pages
told_all h v k le all = told_is h v k le ∙ cond-true (eqb (numbers_read h v k) (info_in h v).image_pages) (Some (info_in h v).image_pages) None (eq-eqb (numbers_read h v k) (info_in h v).image_pages all)

pub told_more : (h : Hardware) (v : disk.DiskImage) (k : ℕ) → 1 ≤ k → (numbers_read h v k ≢ (info_in h v).image_pages) → told h v k ≡ None
told_more h v k le more = told_is h v k le ∙ cond-false (eqb (numbers_read h v k) (info_in h v).image_pages) (Some (info_in h v).image_pages) None (ne_eqb (numbers_read h v k) (info_in h v).image_pages more)

-- where n is told, every number was read
told_some : (h : Hardware) (v : disk.DiskImage) (k n : ℕ) → told h v k ≡ Some n → (n ≡ (info_in h v).image_pages) × (numbers_read h v k ≡ (info_in h v).image_pages)
told_some h v zero n some = cc
told_some h v (suc k) n some = elim (cases_eq (numbers_read h v (suc k)) (info_in h v).image_pages) [
  | inl all ↦ (let same : Some n ≡ Some (info_in h v).image_pages = sym some ∙ told_all h v (suc k) (omega arith) all in cc, all)
  | inr more ↦ absurd (let no : Some n ≡ None = sym some ∙ told_more h v (suc k) (omega arith) more in cc)
]

pub are_listed : (h : Hardware) (v : disk.DiskImage) (check : IdentCheck) (r : Reading) (t k n : ℕ) (origs zeros : List ℕ) → IsRead h v check r t k origs zeros → r.listed ≡ Some n → AreListed h v n origs zeros
are_listed h v check r t k n origs zeros read listed =
    let all = told_some h v k n (sym read.listed ∙ listed) in
    record {
      count = all.0;
      frames = read.frames ∙ ap (frames_in h v) all.1;
      marks = read.marks ∙ ap (marked_in h v) all.1;
      rising = read.rising;
      whole = read.whole n listed;
    }

-- A map.
pub read_map : (h : Hardware) (v : disk.DiskImage) (check : IdentCheck) (r new : Reading) (t : ℕ) (page origs zeros : List ℕ) → HasReadPlaces h v check r t origs zeros → t < place_count (known_pages h v (pages_read t)) → t % 512 ≡ 0 → page ≡ disk.block v (place_block h v (place t)) → new ≡ record r { map = record { page = page; map = r.steps / 512 + 1 } } → IsRead h v check new t (pages_read (t + 1)) origs zeros
read_map h v check r new t page origs zeros reading more at page_is new_is =
    let made : List ℕ → ℕ → NumberedPage = λ bytes number. record { page = bytes; map = number } in
    let here : IsRead h v check (record r { map = record { page = page; map = r.steps / 512 + 1 } }) t (pages_read t) origs zeros = record {
      area = reading.area;
      steps = reading.steps;
      sound = reading.sound;
      cause = ap (read_cause h v check) (at_map t at);
      pages = reading.pages;
      saved = reading.saved;
      within = omega arith;
      map = ap₂ made (page_is ∙ ap (λ p. disk.block v (place_block h v p)) (at_map t at)) (ap (λ (s : ℕ). s / 512 + 1) reading.steps);
      numbers = reading.numbers;
      listed = reading.listed;
      frame = reading.frame;
      frames = reading.frames;
      marks = reading.marks;
      rising = reading.rising;
      counts = reading.counts;
      whole = reading.whole;
    } in
    subst (λ (k : ℕ). IsRead h v check new t k origs zeros) (sym (read_at_map t at))
    (subst (λ (x : Reading). IsRead h v check x t (pages_read t) origs zeros) (sym new_is) here)
