-- Up to where a file is read, page frame by page frame.
use Rattle.std.proofs.Common.{◌≡◌, ℕ, suc, ◌+◌, ◌-◌, ◌*◌, ◌/◌, ◌^◌, ◌<◌, ◌≤◌, Bool, true, false, cond, All, List, [], ◌∷◌, length, get_or, drop, Option, Some, None, min, max, refl, sym, ap, ◌∙◌, inl, inr, arith, drop-cons}
use Rattle.std.specs.Prelude.{nat_le, ◌==◌, ⊤}
use Rattle.std.proofs.lemmas.Bool.{cases_lt, eq-eqb, ne_eqb, cond-true, cond-false}
use Rattle.std.proofs.lemmas.List.Elements.{All-cons, All-nil}
use Rattle.std.proofs.lemmas.Option.{none-some}
use Rattle.plain_machine.specs.Chain.{or_else}
use Rattle.core_machine.specs.Faults.{unless, wanted}
use Rattle.core_machine.specs.Pages.{from_address, page_end, page_fault, page_place, places_end, reached, to_address}
use Rattle.core_machine.specs.Reading.{Stops}
use Rattle.core_machine.specs.Segments.{address_end, bytes_end, first_frame, frame_end, nothing, place_after, place_fault, segment_at, segments_fault, size_fault}
use Rattle.core_machine.specs.declared.segments.fault.Fault.{Fault}
use Rattle.core_machine.specs.declared.segments.fault.Fault.TheVariants as fault
use Rattle.core_machine.specs.declared.segments.fault.Stop.{Stop as CoreStop}
use Rattle.core_machine.specs.declared.segments.fault.Stop.TheVariants as core
use Rattle.core_machine.specs.declared.segments.segment.Segment.{Segment}
use Rattle.core_machine.proofs.Faults.{none-first, none-second, stops-later, unless-none, wanted-later}
use Rattle.core_machine.proofs.Opened.{first_right, place_near}
use Rattle.core_machine.proofs.Paging.{fault_none, fault_some, reached_none, reached_some}
use Rattle.core_machine.specs.Made.{end_after}
use Rattle.core_machine.specs.Stops.{StopsIn, core_stop}
use Rattle.core_machine.specs.declared.stop.Stop.{Stop}
use Rattle.core_machine.specs.declared.stop.Stop.TheVariants as stop

-- a segment whose sizes are right
pub record Sized (s : Segment) : Type 0 where
  pub sizes : s.file_size ≤ s.memory_size
  pub low : address_end s ≤ 2 ^ 28

pub sized : (s : Segment) → size_fault s ≡ None → Sized s
unfolding size_fault
sized s e =
    let first = unless (nat_le s.file_size s.memory_size) (fault.Sizes s.address) in
    let second = unless (nat_le (address_end s) (2 ^ 64)) (fault.Wraps s.address) in
    let third = unless (nat_le (address_end s) (2 ^ 28)) (fault.Limit (address_end s - 1)) in
    let a = unless-none (nat_le s.file_size s.memory_size) (fault.Sizes s.address) (none-first first (or_else second (or_else third None)) e) in
    let b = unless-none (nat_le (address_end s) (2 ^ 28)) (fault.Limit (address_end s - 1))
    (none-first third None (none-second second (or_else third None) (none-second first (or_else second (or_else third None)) e))) in
    record { sizes = grind (arith, a); low = grind (arith, b) }

pub near : (place : ℕ) (s : Segment) → place_fault place s ≡ None → 0 < s.file_size → (place ≤ s.offset) × (s.offset ≤ 2 ^ 48)
near place s lies some = place_near place s lies (ne_eqb s.file_size 0 (λ e. omega (arith, e, some)))

-- page frames before p of a segment are read
pub record At (s : Segment) (start place p : ℕ) : Type 0 where
  pub unread : s.file_size ≡ 0 → place ≡ start
  pub first : p ≡ first_frame s → place ≡ start
  pub later : first_frame s < p → 0 < s.file_size → place ≡ s.offset + (min (s.address + s.file_size) (4096 * p) - s.address)

pub at_first : (s : Segment) (start first : ℕ) → first ≡ first_frame s → At s start start first
at_first s start first e = record { unread = λ _. refl; first = λ _. refl; later = λ lt some. absurd (omega (arith, lt, e)) }

next_later : (s : Segment) (start place p : ℕ) → first_frame s ≤ p → At s start place p → 0 < s.file_size →
    reached place s p ≡ s.offset + (min (s.address + s.file_size) (4096 * (p + 1)) - s.address)
next_later s start place p ge at some = elim (cases_lt (from_address s p) (to_address s p)) [
  | inl has ↦ reached_some place s p has ∙ omega arith
  | inr none ↦ elim (cases_lt (first_frame s) p) [
    | inl lt ↦ reached_none place s p none ∙ at.later lt some ∙ omega (arith, lt, none, some)
    | inr le ↦ absurd (omega (arith, le, ge, none, some))
  ]
]

pub at_next : (s : Segment) (start place now p : ℕ) → first_frame s ≤ p → At s start place p → now ≡ reached place s p → At s start now (p + 1)
at_next s start place now p ge at e = record {
  unread = λ zero. e ∙ reached_none place s p (omega (arith, zero)) ∙ at.unread zero;
  first = λ same. absurd (omega (arith, same, ge));
  later = λ lt some. e ∙ next_later s start place p ge at some;
}

pub before_page : (s : Segment) (start place p : ℕ) → first_frame s ≤ p → place_fault start s ≡ None → At s start place p →
    from_address s p < to_address s p → place ≤ page_place s p
before_page s start place p ge lies at has =
    let some : 0 < s.file_size = omega (arith, has) in
    let low = (near start s lies some).0 in
    elim (cases_lt (first_frame s) p) [
      | inl lt ↦ let is = at.later lt some in omega (arith, is, lt, has)
      | inr le ↦ let is = at.first (omega (arith, le, ge)) in omega (arith, is, low)
    ]

after_none : (start : ℕ) (s : Segment) → s.file_size ≡ 0 → place_after start s ≡ start
after_none start s e = cond-true (s.file_size == 0) start (bytes_end s) (eq-eqb s.file_size 0 e)

after_some : (start : ℕ) (s : Segment) → 0 < s.file_size → place_after start s ≡ bytes_end s
after_some start s some = cond-false (s.file_size == 0) start (bytes_end s) (ne_eqb s.file_size 0 (λ e. omega (arith, e, some)))

pub at_end : (s : Segment) (start place p : ℕ) → Sized s → At s start place p → frame_end s ≤ p → place ≡ place_after start s
at_end s start place p is at ge = elim (cases_lt 0 s.file_size) [
  | inl some ↦
      let sizes = is.sizes in
      let lt : first_frame s < p = omega (arith, sizes, some, ge) in
      at.later lt some ∙ omega (arith, sizes, some, ge) ∙ sym (after_some start s some)
  | inr zero ↦ let none : s.file_size ≡ 0 = omega (arith, zero) in at.unread none ∙ sym (after_none start s none)
]

-- what stops a reading

pub stops_in : (o : Option Fault) (why : CoreStop) → Stops o why → StopsIn o (core_stop why)
stops_in o (core.Fault f) h = h
stops_in o core.Source h = tt
stops_in o core.Memory h = tt

none_stops : (o : Option Fault) (why : CoreStop) → Stops None why → Stops o why
none_stops o (core.Fault f) h = absurd (none-some f h)
none_stops o core.Source h = tt
none_stops o core.Memory h = tt

same_stops : (a b : Option Fault) (why : CoreStop) → a ≡ b → Stops a why → Stops b why
same_stops a b (core.Fault f) e h = sym e ∙ h
same_stops a b core.Source e h = tt
same_stops a b core.Memory e h = tt

pub page_stops : (bytes : List ℕ) (s : Segment) (start p : ℕ) (why : CoreStop) → Stops (page_fault bytes s p) why → StopsIn (wanted bytes (place_after start s)) (core_stop why)
page_stops bytes s start p why h = stops_in (wanted bytes (place_after start s)) why (elim (cases_lt (from_address s p) (to_address s p)) [
  | inl has ↦
      let some : 0 < s.file_size = omega (arith, has) in
      let end = after_some start s some in
      stops-later bytes (page_end s p) (place_after start s) why (omega (arith, end, has)) (same_stops (page_fault bytes s p) (wanted bytes (page_end s p)) why (fault_some bytes s p has) h)
  | inr none ↦ none_stops (wanted bytes (place_after start s)) why (same_stops (page_fault bytes s p) None why (fault_none bytes s p none) h)
])

-- segments that follow one another

pub after_above : (place : ℕ) (s : Segment) → place_fault place s ≡ None → place ≤ place_after place s
after_above place s lies = elim (cases_lt 0 s.file_size) [
  | inl some ↦ let low = (near place s lies some).0 in let is = after_some place s some in omega (arith, low, is)
  | inr zero ↦ let is = after_none place s (omega (arith, zero)) in omega (arith, is)
]

pub places_above : (free place : ℕ) (segments : List Segment) → segments_fault free place segments ≡ None → place ≤ places_end place segments
unfolding places_end
places_above free place [] e = omega arith
places_above free place (s ∷ segments) e =
    let is = first_right free place s segments e in
    let here = after_above place s is.lies in
    let rest = places_above (frame_end s) (place_after place s) segments is.rest in
    omega (arith, here, rest)

pub end_above : (free place : ℕ) (segments : List Segment) → segments_fault free place segments ≡ None → free ≤ end_after free segments
end_above free place [] e = omega arith
end_above free place (s ∷ segments) e =
    let is = first_right free place s segments e in
    let apart = is.apart in
    let low : free ≤ first_frame s = grind (arith, apart) in
    let rest = end_above (frame_end s) (place_after place s) segments is.rest in
    omega (arith, low, rest)

pub all_low : (free place : ℕ) (segments : List Segment) → segments_fault free place segments ≡ None → All (λ s. address_end s ≤ 2 ^ 28) segments
all_low free place [] e = All-nil (λ (s : Segment). address_end s ≤ 2 ^ 28)
all_low free place (s ∷ segments) e =
    let is = first_right free place s segments e in
    All-cons (λ (x : Segment). address_end x ≤ 2 ^ 28) s segments (sized s is.size).low (all_low (frame_end s) (place_after place s) segments is.rest)

pub drop_more : (segments : List Segment) (i : ℕ) → i < length segments → drop i segments ≡ segment_at segments i ∷ drop (i + 1) segments
drop_more segments i lt =
    let more : i + 1 ≡ suc i = omega arith in
    drop-cons segments i nothing lt ∙ ap (λ (k : ℕ). segment_at segments i ∷ drop k segments) (sym more)

pub stops_in_later : (bytes : List ℕ) (n m : ℕ) (why : Stop) → n ≤ m → StopsIn (wanted bytes n) why → StopsIn (wanted bytes m) why
stops_in_later bytes n m (stop.Core f) le h = wanted-later bytes n m f le h
stops_in_later bytes n m (stop.Limit limit) le h = h
stops_in_later bytes n m stop.Source le h = tt
stops_in_later bytes n m stop.Memory le h = tt

pub ends_next : (place : ℕ) (s : Segment) (segments : List Segment) → places_end place (s ∷ segments) ≡ places_end (place_after place s) segments
unfolding places_end
ends_next place s segments = refl

pub ends_none : (place : ℕ) → places_end place [] ≡ place
unfolding places_end
ends_none place = refl
