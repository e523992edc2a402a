-- A number page.
use Rattle.std.proofs.Common.{◌≡◌, ◌≢◌, ℕ, ◌+◌, ◌-◌, ◌*◌, ◌%◌, ◌<◌, ◌≤◌, suc, List, ◌++◌, map, length, min, cond, eqb, ltb, Option, Some, None, refl, sym, ap, ap₂, ◌∙◌, subst, inl, inr, arith}
use Rattle.std.proofs.lemmas.Bool.{cases_Bool, cases_lt, cases_eq, cond-true, cond-false, eq-eqb, ne_eqb, eqb-true, lt-ltb}
use Rattle.std.specs.List.{range_with_len}
use Rattle.std.specs.List.Sorted.{IsStrictlyIncreasing}
use Rattle.definitions.specs.Disk as disk
use Rattle.definitions.specs.NumberPages.{meta_of}
use Rattle.page_core.specs.declared.format.Format.{Format}
use Rattle.frame_sets.specs.Unpacked.{Unpacked}
use Rattle.frame_sets.specs.Numbers as pack
use Rattle.frame_sets.specs.declared.packing.unpack.PfnFault.{PfnFault}
use Rattle.plain_machine.specs.Machine.{Hardware}
use Rattle.plain_machine.specs.Chain.{or_else, first_some}
use Rattle.plain_machine.specs.Trace.{Place, page_at, info_in, format_in, meta_in, d_in, place, place_count, read_cause, stream_page, number_cause, end_cause, listed_cause, numbers_cause, data_frames}
use Rattle.plain_machine.specs.declared.event.IdentCheck.{IdentCheck}
use Rattle.plain_machine.specs.declared.reply.Reply.{Reply}
use Rattle.image_read.specs.Reading.{Reading, IsReady}
use Rattle.image_read.specs.Faults.{pages_fault}
use Rattle.image_read.specs.Taking.{numbers_fault, listing_fault, pfn_cause, with_numbers, all_read}
use Rattle.image_read.specs.Stream.{HasReadPlaces, place_block, pages_read, known_pages, known_saved, numbers_read, frames_in, marked_in, last_number, told, frame_after}
use Rattle.image_read.specs.declared.cause.Cause.{Cause}
use Rattle.image_read.specs.declared.cause.Cause.TheVariants.{BadCounts}
use Rattle.image_read.proofs.Over.{as_reply, as_reply-or_else, as_reply-cond, or_else-none}
use Rattle.image_read.proofs.Numbers.{all_read-all, all_read-more}
use Rattle.image_read.proofs.Numbering.{IsAt, number_at, before_at, number_fault_is, first_is, end_is, no_end, frames_with, marks_with}
use Rattle.image_read.proofs.Places.{at_page}
use Rattle.image_read.proofs.Ready.{page_sound, numbers_sound}
use Rattle.image_read.proofs.Read.{IsRead, known, saved_is, told_all, told_more}
use Rattle.image_read.proofs.Rising.{rising_on, data_length, data_words}

-- where the reader stands before number page q
pub record IsAtNumbers (h : Hardware) (v : disk.DiskImage) (r : Reading) (t q : ℕ) (page zeros : List ℕ) : Type 0 where
  pub at : IsAt h v q r.numbers page
  pub more : 512 * q < (info_in h v).image_pages
  pub k_is : pages_read t ≡ suc q
  pub place_is : place t ≡ page_at (suc q)
  pub read : numbers_read h v (pages_read t) ≡ 512 * q
  pub saved : r.saved ≡ (info_in h v).image_pages
  pub pages : r.pages ≡ (info_in h v).pages
  pub marks : zeros ≡ marked_in h v (512 * q)

pub at_numbers : (h : Hardware) (v : disk.DiskImage) (check : IdentCheck) (r : Reading) (t : ℕ) (page origs zeros : List ℕ) → HasReadPlaces h v check r t origs zeros → (t % 512 ≡ 0 → ⊥) → 1 ≤ pages_read t → r.listed ≡ None → page ≡ disk.block v (place_block h v (place t)) → IsAtNumbers h v r t (pages_read t - 1) page zeros
at_numbers h v check r t page origs zeros reading apart some none page_is =
    let n = (info_in h v).image_pages in
    let k = pages_read t in
    let q = k - 1 in
    let saved_same = saved_is h v k some in
    let unlisted : numbers_read h v k ≢ n = λ all. let told_is = sym none ∙ reading.listed ∙ told_all h v k some all in cc in
    let more : 512 * q < n = elim (cases_lt (512 * q) n) [
      | inl lt ↦ lt
      | inr ge ↦ absurd (unlisted (let e : numbers_read h v k ≡ n = omega arith in e))
    ] in
    let read_is : numbers_read h v k ≡ 512 * q = omega arith in
    let k_is : k ≡ suc q = omega arith in
    let here : place t ≡ page_at (suc q) = at_page t apart ∙ ap page_at k_is in
    let next : suc q ≡ 1 + q = omega arith in
    record {
      at = record {
        format = ap (λ (u : Unpacked). u.format) reading.numbers;
        n = ap (λ (u : Unpacked). u.n) reading.numbers ∙ saved_same;
        read = ap (λ (u : Unpacked). u.read) reading.numbers ∙ read_is;
        last = ap (λ (u : Unpacked). u.last) reading.numbers ∙ ap (last_number h v) read_is;
        page_is = page_is ∙ ap (λ (p : Place). disk.block v (place_block h v p)) here ∙ ap (stream_page h v) next;
      };
      more = more;
      k_is = k_is;
      place_is = here;
      read = read_is;
      saved = reading.saved ∙ saved_same;
      pages = reading.pages ∙ known h v k some;
      marks = reading.marks ∙ ap (marked_in h v) read_is;
    }

-- what is wrong with a number page is what a resume replies

lift_pack : (a b : Option PfnFault) → as_reply (pfn_cause (pack.or_else a b)) ≡ or_else (as_reply (pfn_cause a)) (as_reply (pfn_cause b))
lift_pack None b = refl
lift_pack (Some x) b = refl

or_assoc : (a b c : Option Reply) → or_else (or_else a b) c ≡ or_else a (or_else b c)
or_assoc None b c = refl
or_assoc (Some x) b c = refl

own : Hardware → disk.DiskImage → ℕ → Option Reply
own h v q = first_some (map (number_cause h v) (range_with_len (512 * q) (min 512 ((info_in h v).image_pages - 512 * q))))

each_is : (h : Hardware) (v : disk.DiskImage) (zones : List (ℕ × ℕ)) (q : ℕ) (u : Unpacked) (page : List ℕ) (j : ℕ) → IsAt h v q u page → zones ≡ h.zones → j < 512 → as_reply (pfn_cause (pack.fault_in zones u page j)) ≡ number_cause h v (512 * q + j)
each_is h v zones q u page j at zones_is lt =
    ap (λ (zs : List (ℕ × ℕ)). as_reply (pfn_cause (pack.fault_in zs u page j))) zones_is
    ∙ ap₂ (λ (b : Option ℕ) (p : ℕ). as_reply (pfn_cause (pack.number_fault h.zones b p))) (before_at h v q u page j at (omega arith)) (number_at h v q u page j at lt)
    ∙ number_fault_is h v (512 * q + j)

own_is : (h : Hardware) (v : disk.DiskImage) (zones : List (ℕ × ℕ)) (q : ℕ) (u : Unpacked) (page : List ℕ) → IsAt h v q u page → zones ≡ h.zones → as_reply (pfn_cause (pack.first_below (pack.fault_in zones u page) (pack.wanted u))) ≡ own h v q
unfolding own
own_is h v zones q u page at zones_is =
    let n_is = at.n in
    let read_is = at.read in
    let w : pack.wanted u ≡ min 512 ((info_in h v).image_pages - 512 * q) = omega arith in
    first_is (pack.fault_in zones u page) (number_cause h v) (512 * q) (pack.wanted u) (pack.wanted u) (omega arith) (λ j lt. each_is h v zones q u page j at zones_is (omega arith))
    ∙ ap (λ (m : ℕ). first_some (map (number_cause h v) (range_with_len (512 * q) m))) w

listing_is : (h : Hardware) (v : disk.DiskImage) (saved pages zeros : ℕ) → saved ≡ (info_in h v).image_pages → pages ≡ (info_in h v).pages → zeros ≡ length (marked_in h v (info_in h v).image_pages) → as_reply (pages_fault saved pages zeros) ≡ listed_cause h v
listing_is h v saved pages zeros saved_same pages_same zeros_is =
    let n = (info_in h v).image_pages in
    let count : n - zeros ≡ d_in h v = ap (λ (z : ℕ). n - z) zeros_is ∙ sym (data_length h v) ∙ data_words h v in
    ap₂ (λ (s p : ℕ). as_reply (pages_fault s p zeros)) saved_same pages_same
    ∙ ap (λ (d : ℕ). as_reply (cond (eqb (info_in h v).pages (d + meta_of n + 1)) None (Some (BadCounts n (info_in h v).pages)))) count
    ∙ as_reply-cond (eqb (info_in h v).pages (d_in h v + meta_of n + 1)) None (Some (BadCounts n (info_in h v).pages))

pub numbers_fault_is : (h : Hardware) (v : disk.DiskImage) (zones : List (ℕ × ℕ)) (r : Reading) (t q : ℕ) (page zeros : List ℕ) → IsAtNumbers h v r t q page zeros → zones ≡ h.zones → as_reply (numbers_fault zones r zeros page) ≡ numbers_cause h v q
unfolding own pack.page_fault
numbers_fault_is h v zones r t q page zeros here zones_is =
    let n = (info_in h v).image_pages in
    let u = r.numbers in
    let w = pack.wanted u in
    let at = here.at in
    let n_is = at.n in
    let read_is = at.read in
    let more = here.more in
    let saved_same = here.saved in
    let first = pack.first_below (pack.fault_in zones u page) w in
    let listing = listing_fault r (length (zeros ++ pack.marked_in u page w)) in
    let split : as_reply (numbers_fault zones r zeros page) ≡ or_else (or_else (as_reply (pfn_cause first)) (as_reply (pfn_cause (pack.end_fault u page)))) (as_reply listing) =
    as_reply-or_else (pfn_cause (pack.or_else first (pack.end_fault u page))) listing ∙ ap (λ o. or_else o (as_reply listing)) (lift_pack first (pack.end_fault u page)) in
    elim (cases_lt (512 * q + 512) n) [
      | inl lt ↦
          let not_last : q + 1 ≢ meta_of n = λ e. omega arith in
          let unfilled : u.read + w ≢ r.saved = λ e. omega arith in
          let no_listing : listing ≡ None = cond-false (eqb (u.read + w) r.saved) (pages_fault r.saved r.pages (length (zeros ++ pack.marked_in u page w))) None (ne_eqb (u.read + w) r.saved unfilled) in
          split
          ∙ ap₂ (λ (e : Option PfnFault) (l : Option Cause). or_else (or_else (as_reply (pfn_cause first)) (as_reply (pfn_cause e))) (as_reply l)) (no_end h v q u page at lt) no_listing
          ∙ or_else-none (or_else (as_reply (pfn_cause first)) None) ∙ or_else-none (as_reply (pfn_cause first))
          ∙ own_is h v zones q u page at zones_is
          ∙ sym (cond-false (eqb (q + 1) (meta_of n)) (or_else (own h v q) (or_else (end_cause h v n) (listed_cause h v))) (own h v q) (ne_eqb (q + 1) (meta_of n) not_last))
      | inr ge ↦
          let last : q + 1 ≡ meta_of n = omega arith in
          let filled : u.read + w ≡ r.saved = omega arith in
          let w_is : 512 * q + w ≡ n = omega arith in
          let marks : zeros ++ pack.marked_in u page w ≡ marked_in h v n =
          ap (λ (z : List ℕ). z ++ pack.marked_in u page w) here.marks ∙ marks_with h v q u page w at (omega arith) ∙ ap (marked_in h v) w_is in
          let listed : as_reply listing ≡ listed_cause h v =
          ap as_reply (cond-true (eqb (u.read + w) r.saved) (pages_fault r.saved r.pages (length (zeros ++ pack.marked_in u page w))) None (eq-eqb (u.read + w) r.saved filled))
          ∙ listing_is h v r.saved r.pages (length (zeros ++ pack.marked_in u page w)) here.saved here.pages (ap length marks) in
          split
          ∙ ap₂ or_else (ap₂ or_else (own_is h v zones q u page at zones_is) (end_is h v q u page at more ge)) listed
          ∙ or_assoc (own h v q) (end_cause h v n) (listed_cause h v)
          ∙ sym (cond-true (eqb (q + 1) (meta_of n)) (or_else (own h v q) (or_else (end_cause h v n) (listed_cause h v))) (own h v q) (eq-eqb (q + 1) (meta_of n) last))
    ]

-- the same for what is wrong at the place of the number page
pub cause_of_place : (h : Hardware) (v : disk.DiskImage) (check : IdentCheck) (zones : List (ℕ × ℕ)) (r : Reading) (t q : ℕ) (page zeros : List ℕ) → IsAtNumbers h v r t q page zeros → zones ≡ h.zones → read_cause h v check (place t) ≡ as_reply (numbers_fault zones r zeros page)
cause_of_place h v check zones r t q page zeros here zones_is =
    let more = here.more in
    ap (read_cause h v check) here.place_is
    ∙ cond-true (ltb q (meta_in h v)) (numbers_cause h v q) None (lt-ltb q (meta_in h v) (omega arith))
    ∙ sym (numbers_fault_is h v zones r t q page zeros here zones_is)

-- A number page that was accepted.

pages_match : (saved pages zeros : ℕ) → pages_fault saved pages zeros ≡ None → pages ≡ saved - zeros + meta_of saved + 1
pages_match saved pages zeros h = elim (cases_Bool (eqb pages (saved - zeros + meta_of saved + 1))) [
  | inl same ↦ eqb-true pages (saved - zeros + meta_of saved + 1) same
  | inr apart ↦ absurd (let bad : Some (BadCounts saved pages) ≡ None = sym (cond-false (eqb pages (saved - zeros + meta_of saved + 1)) None (Some (BadCounts saved pages)) apart) ∙ h in cc)
]

abbrev unpacked : Hardware → disk.DiskImage → Format → ℕ → ℕ → Option ℕ → Unpacked
unpacked h v format n read last = record { n = n; format = format; read = read; last = last }

pub read_numbers : (h : Hardware) (v : disk.DiskImage) (check : IdentCheck) (zones : List (ℕ × ℕ)) (r new : Reading) (t : ℕ) (page origs zeros new_origs new_zeros : List ℕ) → HasReadPlaces h v check r t origs zeros → IsReady r origs zeros → t < place_count (known_pages h v (pages_read t)) → (t % 512 ≡ 0 → ⊥) → 1 ≤ pages_read t → r.listed ≡ None → page ≡ disk.block v (place_block h v (place t)) → zones ≡ h.zones → numbers_fault zones r zeros page ≡ None → new ≡ with_numbers r page → new_origs ≡ origs ++ pack.numbers_in r.numbers page (pack.wanted r.numbers) → new_zeros ≡ zeros ++ pack.marked_in r.numbers page (pack.wanted r.numbers) → IsRead h v check new t (pages_read t + 1) new_origs new_zeros
read_numbers h v check zones r new t page origs zeros new_origs new_zeros reading ready lt apart some none page_is zones_is fault new_is origs_is zeros_is =
    let n = (info_in h v).image_pages in
    let q = pages_read t - 1 in
    let u = r.numbers in
    let w = pack.wanted u in
    let here = at_numbers h v check r t page origs zeros reading apart some none page_is in
    let at = here.at in
    let more = here.more in
    let n_is = at.n in
    let read_is = at.read in
    let saved_same = here.saved in
    let k_is = here.k_is in
    let w_is : w ≡ min (n - 512 * q) 512 = omega arith in
    let next : numbers_read h v (pages_read t + 1) ≡ 512 * q + w = omega (arith, saved_is h v (pages_read t + 1) (omega arith)) in
    let saved_next = saved_is h v (pages_read t + 1) (omega arith) in
    let both = numbers_sound zones r zeros page fault in
    let sound = page_sound zones u page both.0 in
    let frames : new_origs ≡ frames_in h v (512 * q + w) =
    origs_is ∙ ap (λ (o : List ℕ). o ++ pack.numbers_in u page w) (reading.frames ∙ ap (frames_in h v) here.read) ∙ frames_with h v q u page w at (omega arith) in
    let marks : new_zeros ≡ marked_in h v (512 * q + w) =
    zeros_is ∙ ap (λ (z : List ℕ). z ++ pack.marked_in u page w) here.marks ∙ marks_with h v q u page w at (omega arith) in
    let no_data : pages_read t - 1 - meta_in h v ≡ 0 = omega arith in
    let no_data_next : pages_read t + 1 - 1 - meta_in h v ≡ 0 = omega arith in
    let known_same : known_pages h v (pages_read t) ≡ known_pages h v (pages_read t + 1) = known h v (pages_read t) some ∙ sym (known h v (pages_read t + 1) (omega arith)) in
    let listed : all_read r ≡ told h v (pages_read t + 1) = elim (cases_eq (u.read + w) r.saved) [
      | inl all ↦ all_read-all r all ∙ ap Some saved_same ∙ sym (told_all h v (pages_read t + 1) (omega arith) (omega arith))
      | inr left ↦ all_read-more r left ∙ none ∙ sym (told_more h v (pages_read t + 1) (omega arith) (λ e. left (omega arith)))
    ] in
    subst (λ (x : Reading). IsRead h v check x t (pages_read t + 1) new_origs new_zeros) (sym new_is) (record {
      area = reading.area;
      steps = reading.steps;
      sound = reading.sound;
      cause = cause_of_place h v check zones r t q page zeros here zones_is ∙ ap as_reply fault;
      pages = reading.pages ∙ known_same;
      saved = here.saved ∙ sym saved_next;
      within = omega (arith, ap place_count known_same);
      map = reading.map apart;
      numbers =
          ap₂ (λ (m : ℕ) (f : Format). unpacked h v f m (u.read + w) (pack.before_in u page w)) (at.n ∙ sym saved_next) at.format
          ∙ ap₂ (λ (m : ℕ) (l : Option ℕ). unpacked h v (format_in h v) (known_saved h v (pages_read t + 1)) m l) (let e : u.read + w ≡ numbers_read h v (pages_read t + 1) = omega arith in e)
          (before_at h v q u page w at (omega arith) ∙ ap (last_number h v) (sym next));
      listed = listed;
      frame = reading.frame ∙ ap (frame_after (data_frames h v)) (no_data ∙ sym no_data_next);
      frames = frames ∙ ap (frames_in h v) (sym next);
      marks = marks ∙ ap (marked_in h v) (sym next);
      rising = subst IsStrictlyIncreasing (sym origs_is) (rising_on zones u page origs w w (omega arith) sound ready.listed_up reading.rising);
      counts = λ le. reading.counts some;
      whole = λ m told_is. elim (cases_eq (u.read + w) r.saved) [
        | inl all ↦
            let listing : pages_fault r.saved r.pages (length (zeros ++ pack.marked_in u page w)) ≡ None =
            sym (cond-true (eqb (u.read + w) r.saved) (pages_fault r.saved r.pages (length (zeros ++ pack.marked_in u page w))) None (eq-eqb (u.read + w) r.saved all)) ∙ both.1 in
            let match = pages_match r.saved r.pages (length (zeros ++ pack.marked_in u page w)) listing in
            let filled : 512 * q + w ≡ n = omega arith in
            let count : length (zeros ++ pack.marked_in u page w) ≡ length (marked_in h v n) = ap length (sym zeros_is ∙ marks ∙ ap (marked_in h v) filled) in
            let length_is = data_length h v in
            let pages_same = here.pages in
            let meta_same : meta_of r.saved ≡ meta_of n = ap meta_of saved_same in
            omega arith
        | inr left ↦ absurd (let no : None ≡ Some m = sym none ∙ sym (all_read-more r left) ∙ told_is in cc)
      ];
    })
