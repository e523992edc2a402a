-- What stops the reading of what stands before the segments' bytes, by how far it has come.
use Rattle.std.proofs.Common.{◌≡◌, ℕ, ◌+◌, ◌*◌, ◌^◌, ◌≤◌, Bool, true, false, cond, leb, List, [], ◌∷◌, length, Option, Some, None, refl, sym, ap, ◌∙◌, inl, inr, arith}
use Rattle.std.specs.Prelude.{nat_le, nat_eq, IfSome, ◌==◌}
use Rattle.std.specs.List.{find}
use Rattle.std.proofs.lemmas.Bool.{le-leb}
use Rattle.plain_machine.specs.Chain.{or_else}
use Rattle.core_machine.specs.Faults.{unless, wanted}
use Rattle.core_machine.specs.Heads.{header_fault, header_in, kept_fault, segments_in, table_end, table_fault, table_in}
use Rattle.core_machine.specs.Notes.{head_fault, is_note, note_end, note_fault, note_in}
use Rattle.core_machine.specs.Reading.{Stops}
use Rattle.core_machine.specs.Segments.{first_frame, first_place, frame_end, none_fault, place_after, place_fault, segment_fault, segments_fault, size_fault}
use Rattle.core_machine.specs.declared.segments.fault.Fault.{Fault}
use Rattle.core_machine.specs.declared.segments.fault.Fault.TheVariants as fault
use Rattle.core_machine.specs.declared.segments.fault.Stop.{Stop}
use Rattle.core_machine.specs.declared.segments.fault.Stop.TheVariants as stop
use Rattle.core_machine.specs.declared.segments.segment.Segment.{Segment}
use Rattle.core_machine.specs.declared.segments.table.ProgramHeader.{ProgramHeader}
use Rattle.core_machine.proofs.Faults.{none-first, none-second, or_else-none, stops-first, stops-second, unless-none, unless-true, wanted-there}
use Rattle.core_machine.proofs.Orders.{segments_right}

regroup : (a b c : Option Fault) (why : Stop) → Stops (or_else a b) why → Stops (or_else a (or_else b c)) why
regroup None b c why h = stops-first b c why h
regroup (Some f) b c why h = h

-- the file header is right
pub record HeaderRight (bytes : List ℕ) : Type 0 where
  pub there : wanted bytes 64 ≡ None
  pub right : header_fault (header_in bytes) ≡ None

pub header_right : (bytes : List ℕ) → or_else (wanted bytes 64) (header_fault (header_in bytes)) ≡ None → HeaderRight bytes
header_right bytes e = record {
  there = none-first (wanted bytes 64) (header_fault (header_in bytes)) e;
  right = none-second (wanted bytes 64) (header_fault (header_in bytes)) e;
}

pub header_stops : (bytes : List ℕ) (why : Stop) → Stops (or_else (wanted bytes 64) (header_fault (header_in bytes))) why → Stops (head_fault bytes) why
unfolding head_fault table_fault
header_stops bytes why h =
    stops-first (table_fault bytes) (note_fault bytes (note_in bytes)) why
    (regroup (wanted bytes 64) (header_fault (header_in bytes)) (or_else (wanted bytes (table_end (header_in bytes)))
    (kept_fault (table_end (header_in bytes)) (segments_in bytes))) why h)

behind_header : (bytes : List ℕ) (why : Stop) → HeaderRight bytes →
    Stops (or_else (wanted bytes (table_end (header_in bytes))) (kept_fault (table_end (header_in bytes)) (segments_in bytes))) why →
    Stops (table_fault bytes) why
unfolding table_fault
behind_header bytes why is h =
    let rest = or_else (wanted bytes (table_end (header_in bytes))) (kept_fault (table_end (header_in bytes)) (segments_in bytes)) in
    stops-second (wanted bytes 64) (or_else (header_fault (header_in bytes)) rest) why is.there
    (stops-second (header_fault (header_in bytes)) rest why is.right h)

pub table_stops : (bytes : List ℕ) (why : Stop) → HeaderRight bytes → Stops (wanted bytes (table_end (header_in bytes))) why → Stops (head_fault bytes) why
unfolding head_fault
table_stops bytes why is h =
    stops-first (table_fault bytes) (note_fault bytes (note_in bytes)) why
    (behind_header bytes why is (stops-first (wanted bytes (table_end (header_in bytes))) (kept_fault (table_end (header_in bytes)) (segments_in bytes)) why h))

pub kept_stops : (bytes : List ℕ) (why : Stop) → HeaderRight bytes → table_end (header_in bytes) ≤ length bytes →
    Stops (kept_fault (table_end (header_in bytes)) (segments_in bytes)) why → Stops (head_fault bytes) why
unfolding head_fault
kept_stops bytes why is le h =
    stops-first (table_fault bytes) (note_fault bytes (note_in bytes)) why
    (behind_header bytes why is (stops-second (wanted bytes (table_end (header_in bytes))) (kept_fault (table_end (header_in bytes)) (segments_in bytes)) why
    (wanted-there bytes (table_end (header_in bytes)) le) h))

pub table_right : (bytes : List ℕ) → HeaderRight bytes → table_end (header_in bytes) ≤ length bytes →
    kept_fault (table_end (header_in bytes)) (segments_in bytes) ≡ None → table_fault bytes ≡ None
unfolding table_fault
table_right bytes is le e =
    let kept = kept_fault (table_end (header_in bytes)) (segments_in bytes) in
    or_else-none (wanted bytes 64) _ is.there ∙ or_else-none (header_fault (header_in bytes)) _ is.right
    ∙ or_else-none (wanted bytes (table_end (header_in bytes))) kept (wanted-there bytes (table_end (header_in bytes)) le) ∙ e

pub note_stops : (bytes : List ℕ) (why : Stop) → table_fault bytes ≡ None → Stops (note_fault bytes (note_in bytes)) why → Stops (head_fault bytes) why
unfolding head_fault
note_stops bytes why e h = stops-second (table_fault bytes) (note_fault bytes (note_in bytes)) why e h

pub head_right : (bytes : List ℕ) → table_fault bytes ≡ None → note_fault bytes (note_in bytes) ≡ None → head_fault bytes ≡ None
unfolding head_fault
head_right bytes e h = or_else-none (table_fault bytes) (note_fault bytes (note_in bytes)) e ∙ h

-- A note that is found lies between the places that it is looked for.

found_between : (from to : ℕ) (entry : ProgramHeader) → is_note from to entry ≡ true → (from ≤ entry.segment.offset) × (entry.segment.offset + 420 ≤ to)
found_between from to entry e = (grind (arith, e), grind (arith, e))

found_here : (from to : ℕ) (entry : ProgramHeader) (rest : Option ProgramHeader) (b : Bool) → is_note from to entry ≡ b →
    IfSome rest (λ e. (from ≤ e.segment.offset) × (e.segment.offset + 420 ≤ to)) →
    IfSome (cond b (Some entry) rest) (λ e. (from ≤ e.segment.offset) × (e.segment.offset + 420 ≤ to))
found_here from to entry rest true e h = found_between from to entry e
found_here from to entry rest false e h = h

found : (from to : ℕ) (table : List ProgramHeader) → IfSome (find (is_note from to) table) (λ entry. (from ≤ entry.segment.offset) × (entry.segment.offset + 420 ≤ to))
found from to [] = tt
found from to (entry ∷ table) = found_here from to entry (find (is_note from to) table) (is_note from to entry) refl (found from to table)

after_some : (from to : ℕ) (o : Option ProgramHeader) → IfSome o (λ entry. (from ≤ entry.segment.offset) × (entry.segment.offset + 420 ≤ to)) → IfSome o (λ entry. from ≤ entry.segment.offset)
after_some from to None h = tt
after_some from to (Some entry) h = h.0

early_some : (from to far : ℕ) (o : Option ProgramHeader) → to ≤ far → IfSome o (λ entry. (from ≤ entry.segment.offset) × (entry.segment.offset + 420 ≤ to)) → IfSome o (λ entry. entry.segment.offset ≤ far)
early_some from to far None le h = tt
early_some from to far (Some entry) le h = let below = h.1 in omega (arith, le, below)

pub note_after : (from to : ℕ) (table : List ProgramHeader) (o : Option ProgramHeader) → o ≡ find (is_note from to) table → IfSome o (λ entry. from ≤ entry.segment.offset)
note_after from to table o e = rw e (after_some from to (find (is_note from to) table) (found from to table))

pub note_early : (from to far : ℕ) (table : List ProgramHeader) (o : Option ProgramHeader) → o ≡ find (is_note from to) table → to ≤ far → IfSome o (λ entry. entry.segment.offset ≤ far)
note_early from to far table o e le = rw e (early_some from to far (find (is_note from to) table) le (found from to table))

-- The first bytes of segments without fault lie in the first 2^48.

pub place_near : (place : ℕ) (s : Segment) → place_fault place s ≡ None → (s.file_size == 0) ≡ false → (place ≤ s.offset) × (s.offset ≤ 2 ^ 48)
unfolding place_fault
place_near place s e some =
    let tests : or_else (unless (nat_le place s.offset) (fault.Place s.address)) (or_else (unless (nat_le s.offset (2 ^ 48)) (fault.Far s.offset)) None) ≡ None =
    sym (ap (λ (b : Bool). cond b None (or_else (unless (nat_le place s.offset) (fault.Place s.address)) (or_else (unless (nat_le s.offset (2 ^ 48)) (fault.Far s.offset)) None))) some) ∙ e in
    let first = unless-none (nat_le place s.offset) (fault.Place s.address) (none-first (unless (nat_le place s.offset) (fault.Place s.address)) _ tests) in
    let second = unless-none (nat_le s.offset (2 ^ 48)) (fault.Far s.offset) (none-first (unless (nat_le s.offset (2 ^ 48)) (fault.Far s.offset)) None (none-second (unless (nat_le place s.offset) (fault.Place s.address)) _ tests)) in
    (grind (arith, first), grind (arith, second))

pub record SegmentRight (free place : ℕ) (s : Segment) (segments : List Segment) : Type 0 where
  pub size : size_fault s ≡ None
  pub apart : nat_le free (first_frame s) ≡ true
  pub lies : place_fault place s ≡ None
  pub rest : segments_fault (frame_end s) (place_after place s) segments ≡ None

pub first_right : (free place : ℕ) (s : Segment) (segments : List Segment) → segments_fault free place (s ∷ segments) ≡ None → SegmentRight free place s segments
unfolding segments_fault
first_right free place s segments e =
    let apart = unless (nat_le free (first_frame s)) (fault.Overlap s.address) in
    let here : or_else (size_fault s) (or_else apart (place_fault place s)) ≡ None =
    none-first (segment_fault free place s) (segments_fault (frame_end s) (place_after place s) segments) e in
    let two : or_else apart (place_fault place s) ≡ None = none-second (size_fault s) (or_else apart (place_fault place s)) here in
    record {
      size = none-first (size_fault s) (or_else apart (place_fault place s)) here;
      apart = unless-none (nat_le free (first_frame s)) (fault.Overlap s.address) (none-first apart (place_fault place s) two);
      lies = none-second apart (place_fault place s) two;
      rest = none-second (segment_fault free place s) (segments_fault (frame_end s) (place_after place s) segments) e;
    }

near_here : (place : ℕ) (s : Segment) (rest : ℕ) → place_fault place s ≡ None → rest ≤ 2 ^ 48 → (b : Bool) → (s.file_size == 0) ≡ b → cond b rest s.offset ≤ 2 ^ 48
near_here place s rest lies low true none = low
near_here place s rest lies low false some = (place_near place s lies some).1

pub first_near : (free place : ℕ) (segments : List Segment) → segments_fault free place segments ≡ None → first_place segments ≤ 2 ^ 48
unfolding first_place
first_near free place [] e = omega arith
first_near free place (s ∷ segments) e =
    near_here place s (first_place segments) (first_right free place s segments e).lies
    (first_near (frame_end s) (place_after place s) segments (first_right free place s segments e).rest) (s.file_size == 0) refl

pub kept_near : (place : ℕ) (segments : List Segment) → kept_fault place segments ≡ None → first_place segments ≤ 2 ^ 48
kept_near place segments e = first_near 0 place segments (none-second (none_fault segments) (segments_fault 0 place segments) e)

-- Segments follow from a later place on too, if that lies before their first bytes.

place_from : (place later : ℕ) (s : Segment) (rest : ℕ) (b : Bool) → (s.file_size == 0) ≡ b → place_fault place s ≡ None → later ≤ cond b rest s.offset →
    place_fault later s ≡ None
unfolding place_fault
place_from place later s rest true none lies le =
    ap (λ (b : Bool). cond b None (or_else (unless (nat_le later s.offset) (fault.Place s.address)) (or_else (unless (nat_le s.offset (2 ^ 48)) (fault.Far s.offset)) None))) none
place_from place later s rest false some lies le =
    let near = place_near place s lies some in
    ap (λ (b : Bool). cond b None (or_else (unless (nat_le later s.offset) (fault.Place s.address)) (or_else (unless (nat_le s.offset (2 ^ 48)) (fault.Far s.offset)) None))) some
    ∙ or_else-none (unless (nat_le later s.offset) (fault.Place s.address)) (or_else (unless (nat_le s.offset (2 ^ 48)) (fault.Far s.offset)) None)
    (unless-true (nat_le later s.offset) (fault.Place s.address) (le-leb later s.offset le))
    ∙ or_else-none (unless (nat_le s.offset (2 ^ 48)) (fault.Far s.offset)) None
    (unless-true (nat_le s.offset (2 ^ 48)) (fault.Far s.offset) (le-leb s.offset (2 ^ 48) near.1))

segment_from : (free place later : ℕ) (s : Segment) (segments : List Segment) → SegmentRight free place s segments → place_fault later s ≡ None →
    segments_fault (frame_end s) (place_after later s) segments ≡ None → segments_fault free later (s ∷ segments) ≡ None
unfolding segments_fault
segment_from free place later s segments is lies rest =
    let apart = unless (nat_le free (first_frame s)) (fault.Overlap s.address) in
    or_else-none (segment_fault free later s) (segments_fault (frame_end s) (place_after later s) segments)
    (or_else-none (size_fault s) (or_else apart (place_fault later s)) is.size
    ∙ or_else-none apart (place_fault later s) (unless-true (nat_le free (first_frame s)) (fault.Overlap s.address) is.apart) ∙ lies)
    ∙ rest

rest_from : (free place later : ℕ) (s : Segment) (segments : List Segment) (b : Bool) → (s.file_size == 0) ≡ b →
    segments_fault free (cond b place (s.offset + s.file_size)) segments ≡ None →
    (later ≤ first_place segments → segments_fault free later segments ≡ None) →
    later ≤ cond b (first_place segments) s.offset → segments_fault free (cond b later (s.offset + s.file_size)) segments ≡ None
rest_from free place later s segments true none rest more le = more le
rest_from free place later s segments false some rest more le = rest

pub segments_from : (free place later : ℕ) (segments : List Segment) → segments_fault free place segments ≡ None → later ≤ first_place segments →
    segments_fault free later segments ≡ None
unfolding first_place
segments_from free place later [] e le = segments_right free later
segments_from free place later (s ∷ segments) e le =
    let is = first_right free place s segments e in
    segment_from free place later s segments is (place_from place later s (first_place segments) (s.file_size == 0) refl is.lies le)
    (rest_from (frame_end s) place later s segments (s.file_size == 0) refl is.rest
    (λ before. segments_from (frame_end s) (place_after place s) later segments is.rest before) le)

follows_some : (place : ℕ) (segments : List Segment) (o : Option ProgramHeader) →
    IfSome o (λ entry. (place ≤ entry.segment.offset) × (entry.segment.offset + 420 ≤ first_place segments)) →
    kept_fault place segments ≡ None → kept_fault (note_end place o) segments ≡ None
follows_some place segments None h e = e
follows_some place segments (Some entry) h e =
    or_else-none (none_fault segments) (segments_fault 0 (entry.segment.offset + 420) segments) (none-first (none_fault segments) (segments_fault 0 place segments) e)
    ∙ segments_from 0 place (entry.segment.offset + 420) segments (none-second (none_fault segments) (segments_fault 0 place segments) e) h.1

pub follows_note : (place first told : ℕ) (segments : List Segment) (table : List ProgramHeader) (o : Option ProgramHeader) → o ≡ find (is_note place first) table →
    first ≡ first_place segments → told ≡ note_end place o → kept_fault place segments ≡ None → kept_fault told segments ≡ None
follows_note place first told segments table o o_is first_is told_is e =
    let between : IfSome o (λ entry. (place ≤ entry.segment.offset) × (entry.segment.offset + 420 ≤ first_place segments)) =
    rw o_is (rw first_is (found place (first_place segments) table)) in
    ap (λ (k : ℕ). kept_fault k segments) told_is ∙ follows_some place segments o between e
