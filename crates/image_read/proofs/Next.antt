-- The step is counted, and the next block found.
use Rattle.std.proofs.Common.{◌≡◌, ℕ, ◌+◌, ◌-◌, ◌/◌, ◌%◌, ◌<◌, ◌≤◌, suc, List, Bool, true, false, cond, ltb, eqb, Option, Some, None, Ok, Err, sym, ap, ap₂, ◌∙◌, subst, inl, inr, arith}
use Rattle.std.proofs.lemmas.Bool.{cases_Bool, cases_lt, cases_eq, cond-true, cond-false, le-ltb, lt-ltb, eq-eqb, ne_eqb}
use Rattle.definitions.specs.Disk as disk
use Rattle.definitions.specs.SwapMap.{map_entry, map_link}
use Rattle.image_format.specs.MapPages.{NumberedPage}
use Rattle.plain_machine.specs.Machine.{Hardware}
use Rattle.plain_machine.specs.Chain.{is_fault_of, map_block, entry_block, map_fault, or_else}
use Rattle.plain_machine.specs.Chain.{block_fault as block_cause}
use Rattle.plain_machine.specs.Trace.{first_map, info_in, place, place_count, place_cause, read_cause, next_cause, cause_with}
use Rattle.plain_machine.specs.declared.event.IdentCheck.{IdentCheck}
use Rattle.plain_machine.specs.declared.reply.Reply.{Reply}
use Rattle.plain_machine.specs.declared.reply.Reply.TheVariants as reply
use Rattle.image_read.specs.Causes.{reply_of}
use Rattle.image_read.specs.Reading.{Reading}
use Rattle.image_read.specs.Faults.{block_fault, named_block, named_fault}
use Rattle.image_read.specs.Taking.{Advances}
use Rattle.image_read.specs.Stream.{IsAreaOf, HasReadPlaces, place_block, pages_read, known_pages}
use Rattle.image_read.specs.declared.cause.Cause.{Cause}
use Rattle.image_read.specs.declared.cause.Cause.TheVariants.{BadBlock, ChainEnds}
use Rattle.image_read.proofs.Over.{as_reply, as_reply-cond, cond-none, same_fault}
use Rattle.image_read.proofs.Places.{at_map, at_page, map_of_page, entry_of_page, next_map, same_map, two_places, some_read}
use Rattle.image_read.proofs.Read.{IsRead, known}

-- a block that a map names
block_is : (h : Hardware) (v : disk.DiskImage) (r : Reading) (x y : ℕ) → IsAreaOf h v r.extents r.last r.blocks r.format → x ≡ y → as_reply (block_fault r x) ≡ block_cause h v y
block_is h v r x y area same =
    ap (λ (z : ℕ). as_reply (block_fault r z)) same
    ∙ as_reply-cond (is_fault_of r.extents r.blocks r.last y) (Some (BadBlock y)) None
    ∙ ap (λ (b : Bool). cond b (Some (reply.BadBlock y)) None) (same_fault h v r.extents r.last r.blocks r.format y area)

-- the reader's map is the one before place number s
pub record HasMap (h : Hardware) (v : disk.DiskImage) (r : Reading) (j : ℕ) : Type 0 where
  pub page : r.map.page ≡ disk.block v (map_block v (first_map h v) j)
  pub map : r.map.map ≡ j + 1

pub named_is : (h : Hardware) (v : disk.DiskImage) (r : Reading) (t : ℕ) → HasMap h v r (t / 512) → named_block r (t + 1) ≡ place_block h v (place (t + 1))
named_is h v r t has = elim (cases_eq ((t + 1) % 512) 0) [
  | inl at ↦
      let j_is : suc (t / 512) ≡ (t + 1) / 512 = omega (arith, next_map t at) in
      cond-true (eqb ((t + 1) % 512) 0) (map_link r.map.page) (map_entry r.map.page ((t + 1) % 512 - 1)) (eq-eqb ((t + 1) % 512) 0 at)
      ∙ ap map_link has.page
      ∙ ap (map_block v (first_map h v)) j_is
      ∙ sym (ap (place_block h v) (at_map (t + 1) at))
  | inr apart ↦
      let j_is : t / 512 ≡ pages_read (t + 1) / 511 = sym (map_of_page (t + 1) apart ∙ same_map t apart) in
      cond-false (eqb ((t + 1) % 512) 0) (map_link r.map.page) (map_entry r.map.page ((t + 1) % 512 - 1)) (ne_eqb ((t + 1) % 512) 0 apart)
      ∙ ap₂ (λ (p : List ℕ) (i : ℕ). map_entry p i) (has.page ∙ ap (λ (j : ℕ). disk.block v (map_block v (first_map h v) j)) j_is) (sym (entry_of_page (t + 1) apart))
      ∙ sym (ap (place_block h v) (at_page (t + 1) apart))
]

pub named_fault_is : (h : Hardware) (v : disk.DiskImage) (r : Reading) (t : ℕ) → HasMap h v r (t / 512) → IsAreaOf h v r.extents r.last r.blocks r.format → as_reply (named_fault r (t + 1)) ≡ place_cause h v (place (t + 1))
named_fault_is h v r t has area = elim (cases_eq ((t + 1) % 512) 0) [
  | inl at ↦
      let j_is : suc (t / 512) ≡ (t + 1) / 512 = omega (arith, next_map t at) in
      let link : map_link r.map.page ≡ map_block v (first_map h v) (suc (t / 512)) = ap map_link has.page in
      let next = map_block v (first_map h v) (suc (t / 512)) in
      let number : r.map.map ≡ suc (t / 512) = omega (arith, has.map) in
      ap as_reply (cond-true (eqb ((t + 1) % 512) 0) (cond (eqb (map_link r.map.page) 0) (Some (ChainEnds r.map.map)) (block_fault r (map_link r.map.page))) (block_fault r (map_entry r.map.page ((t + 1) % 512 - 1))) (eq-eqb ((t + 1) % 512) 0 at))
      ∙ as_reply-cond (eqb (map_link r.map.page) 0) (Some (ChainEnds r.map.map)) (block_fault r (map_link r.map.page))
      ∙ ap₂ (λ (b : Bool) (m : ℕ). cond b (Some (reply.ChainEnds m)) (as_reply (block_fault r (map_link r.map.page)))) (ap (λ (x : ℕ). eqb x 0) link) number
      ∙ ap (λ (o : Option Reply). cond (eqb next 0) (Some (reply.ChainEnds (suc (t / 512)))) o) (block_is h v r (map_link r.map.page) next area link)
      ∙ ap (map_fault h v (first_map h v)) j_is
      ∙ sym (ap (place_cause h v) (at_map (t + 1) at))
  | inr apart ↦
      let named = named_is h v r t has in
      let entry_is : map_entry r.map.page ((t + 1) % 512 - 1) ≡ entry_block v (first_map h v) (pages_read (t + 1)) =
      sym (cond-false (eqb ((t + 1) % 512) 0) (map_link r.map.page) (map_entry r.map.page ((t + 1) % 512 - 1)) (ne_eqb ((t + 1) % 512) 0 apart))
      ∙ named ∙ ap (place_block h v) (at_page (t + 1) apart) in
      ap as_reply (cond-false (eqb ((t + 1) % 512) 0) (cond (eqb (map_link r.map.page) 0) (Some (ChainEnds r.map.map)) (block_fault r (map_link r.map.page))) (block_fault r (map_entry r.map.page ((t + 1) % 512 - 1))) (ne_eqb ((t + 1) % 512) 0 apart))
      ∙ block_is h v r (map_entry r.map.page ((t + 1) % 512 - 1)) (entry_block v (first_map h v) (pages_read (t + 1))) area entry_is
      ∙ sym (ap (place_cause h v) (at_page (t + 1) apart))
]

-- whether there is a next place: by the pages that are known, and by the info page
known_enough : (h : Hardware) (v : disk.DiskImage) (t : ℕ) → t + 1 < place_count (known_pages h v (pages_read (t + 1))) → t + 1 < place_count (info_in h v).pages
known_enough h v t lt = elim (cases_lt (t + 1) 2) [
  | inl low ↦ let two = two_places (info_in h v).pages in omega arith
  | inr high ↦ let same = ap place_count (known h v (pages_read (t + 1)) (some_read (t + 1) high)) in omega arith
]

known_all : (h : Hardware) (v : disk.DiskImage) (t : ℕ) → place_count (known_pages h v (pages_read (t + 1))) ≤ t + 1 → place_count (info_in h v).pages ≤ t + 1
known_all h v t le = elim (cases_lt (t + 1) 2) [
  | inl low ↦ let two = two_places (known_pages h v (pages_read (t + 1))) in absurd (omega arith)
  | inr high ↦ let same = ap place_count (known h v (pages_read (t + 1)) (some_read (t + 1) high)) in omega arith
]

next_there : (h : Hardware) (v : disk.DiskImage) (t : ℕ) → t + 1 < place_count (known_pages h v (pages_read (t + 1))) → next_cause h v t ≡ place_cause h v (place (t + 1))
next_there h v t lt = cond-true (ltb (t + 1) (place_count (info_in h v).pages)) (place_cause h v (place (t + 1))) None (lt-ltb (t + 1) (place_count (info_in h v).pages) (known_enough h v t lt))

no_next : (h : Hardware) (v : disk.DiskImage) (t : ℕ) → place_count (known_pages h v (pages_read (t + 1))) ≤ t + 1 → next_cause h v t ≡ None
no_next h v t le = cond-false (ltb (t + 1) (place_count (info_in h v).pages)) (place_cause h v (place (t + 1))) None (le-ltb (t + 1) (place_count (info_in h v).pages) (known_all h v t le))

has_map : (h : Hardware) (v : disk.DiskImage) (check : IdentCheck) (r : Reading) (t k : ℕ) (origs zeros : List ℕ) → IsRead h v check r t k origs zeros → HasMap h v r (t / 512)
has_map h v check r t k origs zeros read = record { page = ap (λ (m : NumberedPage). m.page) read.map; map = ap (λ (m : NumberedPage). m.map) read.map }

both_none : (a b : Option Reply) → a ≡ None → b ≡ None → or_else a b ≡ None
both_none None b h g = g
both_none (Some x) b h g = h

-- a cause of the next block
pub next_refused : (h : Hardware) (v : disk.DiskImage) (check : IdentCheck) (r after : Reading) (t : ℕ) (origs zeros : List ℕ) (cause : Cause) → IsRead h v check r t (pages_read (t + 1)) origs zeros → Advances r (Err cause) after → cause_with h v check None t ≡ Some (reply_of cause)
next_refused h v check r after t origs zeros cause read on =
    let steps_is = read.steps in
    let pages_is = ap place_count read.pages in
    let more = on.0 in
    let lt : t + 1 < place_count (known_pages h v (pages_read (t + 1))) = omega arith in
    let fault : named_fault r (t + 1) ≡ Some cause = ap (λ (s : ℕ). named_fault r (s + 1)) (sym steps_is) ∙ on.1 in
    ap (λ o. or_else o (next_cause h v t)) read.cause
    ∙ next_there h v t lt
    ∙ sym (named_fault_is h v r t (has_map h v check r t (pages_read (t + 1)) origs zeros read) read.area)
    ∙ ap as_reply fault

-- a block that is not at fault

link_none : (zero_link : Bool) (ends : Cause) (rest : Option Cause) → cond zero_link (Some ends) rest ≡ None → rest ≡ None
link_none true ends rest h = cc
link_none false ends rest h = h

named_sound : (r : Reading) (s : ℕ) → named_fault r s ≡ None → is_fault_of r.extents r.blocks r.last (named_block r s) ≡ false
named_sound r s h =
    let link = map_link r.map.page in
    let entry = map_entry r.map.page (s % 512 - 1) in
    let linked = cond (eqb link 0) (Some (ChainEnds r.map.map)) (block_fault r link) in
    elim (cases_Bool (eqb (s % 512) 0)) [
      | inl at ↦
          let none = link_none (eqb link 0) (ChainEnds r.map.map) (block_fault r link) (sym (cond-true (eqb (s % 512) 0) linked (block_fault r entry) at) ∙ h) in
          ap (is_fault_of r.extents r.blocks r.last) (cond-true (eqb (s % 512) 0) link entry at)
          ∙ cond-none (is_fault_of r.extents r.blocks r.last link) (BadBlock link) none
      | inr apart ↦
          let none = sym (cond-false (eqb (s % 512) 0) linked (block_fault r entry) apart) ∙ h in
          ap (is_fault_of r.extents r.blocks r.last) (cond-false (eqb (s % 512) 0) link entry apart)
          ∙ cond-none (is_fault_of r.extents r.blocks r.last entry) (BadBlock entry) none
    ]

-- one place more
sound_more : (h : Hardware) (v : disk.DiskImage) (check : IdentCheck) (t : ℕ) → ((s : ℕ) → s < t → cause_with h v check None s ≡ None) → cause_with h v check None t ≡ None → (s : ℕ) → s < t + 1 → cause_with h v check None s ≡ None
sound_more h v check t before here s lt = elim (cases_lt s t) [
  | inl below ↦ before s below
  | inr ge ↦ let same : t ≡ s = omega arith in subst (λ (i : ℕ). cause_with h v check None i ≡ None) same here
]

pub record IsNext (h : Hardware) (v : disk.DiskImage) (check : IdentCheck) (t : ℕ) (after : Reading) (origs zeros : List ℕ) : Type 0 where
  pub cause : cause_with h v check None t ≡ None
  pub reading : HasReadPlaces h v check after (t + 1) origs zeros

map_kept : (h : Hardware) (v : disk.DiskImage) (t : ℕ) (m : NumberedPage) → m ≡ record { page = disk.block v (map_block v (first_map h v) (t / 512)); map = t / 512 + 1 } → ((t + 1) % 512 ≡ 0 → ⊥) → m ≡ record { page = disk.block v (map_block v (first_map h v) ((t + 1) / 512)); map = (t + 1) / 512 + 1 }
map_kept h v t m is apart =
    let at : ℕ → NumberedPage = λ j. record { page = disk.block v (map_block v (first_map h v) j); map = j + 1 } in
    is ∙ ap at (sym (same_map t apart))

pub goes_on : (h : Hardware) (v : disk.DiskImage) (check : IdentCheck) (r after : Reading) (t : ℕ) (origs zeros : List ℕ) (x : Unit {0}) → IsRead h v check r t (pages_read (t + 1)) origs zeros → Advances r (Ok x) after → IsNext h v check t after origs zeros
goes_on h v check r after t origs zeros x read (inl over) =
    let steps_is = read.steps in
    let pages_is = ap place_count read.pages in
    let le : place_count (known_pages h v (pages_read (t + 1))) ≤ t + 1 = elim (cases_lt (t + 1) (place_count (known_pages h v (pages_read (t + 1))))) [
      | inl lt ↦ absurd (over.0 (omega arith))
      | inr ge ↦ ge
    ] in
    let cause : cause_with h v check None t ≡ None = both_none (read_cause h v check (place t)) (next_cause h v t) read.cause (no_next h v t le) in
    let counted : HasReadPlaces h v check (record r { steps = r.steps + 1 }) (t + 1) origs zeros = record {
      area = read.area;
      steps = ap (λ (s : ℕ). s + 1) read.steps;
      sound = sound_more h v check t read.sound cause;
      pages = read.pages;
      saved = read.saved;
      within = read.within;
      block = λ lt. absurd (omega arith);
      apart = λ lt. absurd (omega arith);
      map = map_kept h v t r.map read.map;
      numbers = read.numbers;
      listed = read.listed;
      frame = read.frame;
      frames = read.frames;
      marks = read.marks;
      rising = read.rising;
      counts = read.counts;
      whole = read.whole;
    } in
    record { cause = cause; reading = subst (λ (a : Reading). HasReadPlaces h v check a (t + 1) origs zeros) (sym over.1) counted }
goes_on h v check r after t origs zeros x read (inr on) =
    let steps_is = read.steps in
    let pages_is = ap place_count read.pages in
    let more = on.0 in
    let lt : t + 1 < place_count (known_pages h v (pages_read (t + 1))) = omega arith in
    let has = has_map h v check r t (pages_read (t + 1)) origs zeros read in
    let fault : named_fault r (t + 1) ≡ None = ap (λ (s : ℕ). named_fault r (s + 1)) (sym steps_is) ∙ on.1 in
    let place_none : place_cause h v (place (t + 1)) ≡ None = sym (named_fault_is h v r t has read.area) ∙ ap as_reply fault in
    let cause : cause_with h v check None t ≡ None = both_none (read_cause h v check (place t)) (next_cause h v t) read.cause (next_there h v t lt ∙ place_none) in
    let named : named_block r (r.steps + 1) ≡ place_block h v (place (t + 1)) = ap (λ (s : ℕ). named_block r (s + 1)) steps_is ∙ named_is h v r t has in
    let counted : HasReadPlaces h v check (record r { steps = r.steps + 1; block = named_block r (r.steps + 1) }) (t + 1) origs zeros = record {
      area = read.area;
      steps = ap (λ (s : ℕ). s + 1) read.steps;
      sound = sound_more h v check t read.sound cause;
      pages = read.pages;
      saved = read.saved;
      within = read.within;
      block = λ _. named;
      apart = λ _. sym (same_fault h v r.extents r.last r.blocks r.format (named_block r (r.steps + 1)) read.area) ∙ named_sound r (r.steps + 1) on.1;
      map = map_kept h v t r.map read.map;
      numbers = read.numbers;
      listed = read.listed;
      frame = read.frame;
      frames = read.frames;
      marks = read.marks;
      rising = read.rising;
      counts = read.counts;
      whole = read.whole;
    } in
    record { cause = cause; reading = subst (λ (a : Reading). HasReadPlaces h v check a (t + 1) origs zeros) (sym on.2) counted }
