-- What was read is what stands in the file.
use Rattle.std.proofs.Common.{◌≡◌, ℕ, List, Option, refl, sym, ap, ◌∙◌}
use Rattle.std.specs.List.{find}
use Rattle.core_machine.specs.Heads.{entries, entry_count, header_in, loads_of, segments_in, table_end, table_in, table_place}
use Rattle.core_machine.specs.Notes.{is_note, note_between, note_in}
use Rattle.core_machine.specs.Segments.{first_place, kept}
use Rattle.core_machine.specs.declared.segments.segment.Segment.{Segment}
use Rattle.core_machine.specs.declared.segments.table.ProgramHeader.{ProgramHeader}

pub table_is : (bytes : List ℕ) (place count : ℕ) (table : List ProgramHeader) → place ≡ table_place (header_in bytes) → count ≡ entry_count (header_in bytes) →
    table ≡ entries bytes place count → table ≡ table_in bytes
table_is bytes place count table place_is count_is is =
    is ∙ ap (λ (k : ℕ). entries bytes k count) place_is ∙ ap (λ (n : ℕ). entries bytes (table_place (header_in bytes)) n) count_is

pub segments_are : (bytes : List ℕ) (table : List ProgramHeader) (segments : List Segment) → table ≡ table_in bytes → segments ≡ kept (loads_of table) → segments ≡ segments_in bytes
unfolding segments_in
segments_are bytes table segments table_is is = is ∙ ap (λ (t : List ProgramHeader). kept (loads_of t)) table_is

pub note_is : (bytes : List ℕ) (table : List ProgramHeader) (place first : ℕ) (segments : List Segment) (o : Option ProgramHeader) → table ≡ table_in bytes →
    place ≡ table_end (header_in bytes) → segments ≡ segments_in bytes → first ≡ first_place segments → o ≡ find (is_note place first) table → o ≡ note_in bytes
unfolding note_in
note_is bytes table place first segments o table_is place_is segments_is first_is is =
    is ∙ ap (λ (t : List ProgramHeader). find (is_note place first) t) table_is
    ∙ ap (λ (k : ℕ). find (is_note k first) (table_in bytes)) place_is
    ∙ ap (λ (k : ℕ). find (is_note (table_end (header_in bytes)) k) (table_in bytes)) (first_is ∙ ap first_place segments_is)
