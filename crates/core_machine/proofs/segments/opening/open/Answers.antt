use Rattle.std.proofs.Common.{◌≡◌, ◌+◌, ◌*◌, ◌≤◌, ℕ, List, length, Option, Some, None, arith, subst, sym, ap, ◌∙◌}
use Rattle.std.proofs.lemmas.Result.{err_from_is_err_and}
use Rattle.core_machine.specs.Heads.{entries, entry_count, header_in, kept_fault, loads_of, machine_of, segments_in, table_end, table_in, table_place}
use Rattle.core_machine.specs.Notes.{ident_with, is_note, note_end, note_fault, note_in}
use Rattle.core_machine.specs.Reading.{IsReadTo, Stops}
use Rattle.core_machine.specs.Segments.{first_place, kept}
use Rattle.core_machine.specs.declared.segments.fault.Stop.TheVariants as stop
use Rattle.core_machine.specs.declared.segments.segment.Segment.{Segment}
use Rattle.core_machine.specs.declared.segments.table.ProgramHeader.{ProgramHeader}
use Rattle.core_machine.proofs.Faults.{stops-later}
use Rattle.core_machine.proofs.Found.{note_is, segments_are, table_is}
use Rattle.core_machine.proofs.Opened.{follows_note, head_right, header_right, header_stops, kept_near, kept_stops, note_after, note_early, note_stops, table_right, table_stops}
use Rattle.core_machine.proofs.segments.opening.open.Goals as goal

pub returns-in_err-header-clause-stopped : goal.returns-in_err-header-clause-stopped
returns-in_err-header-clause-stopped g c =
    let p = err_from_is_err_and c.from_residual.result c.from_residual.ensures.1 in
    rw (p.1, p.2) (λ bytes e. header_stops bytes c.in_err-header.field-0.0 (c.in_err-header.ensures.stopped bytes e))

pub returns-in_err-skip-clause-stopped : goal.returns-in_err-skip-clause-stopped
returns-in_err-skip-clause-stopped g c =
    let p = err_from_is_err_and c.from_residual-in_err-skip.result c.from_residual-in_err-skip.ensures.1 in
    rw (p.1, p.2) (λ bytes e.
    let place_is = c.in_ok-header.ensures.place bytes e in
    table_stops bytes c.in_err-skip.field-0.0 (header_right bytes (c.in_ok-header.ensures.whole bytes e))
    (stops-later bytes c.in_ok-header.header.place (table_end (header_in bytes)) c.in_err-skip.field-0.0 (omega (arith, place_is))
    (c.in_err-skip.ensures.stopped bytes (c.in_ok-header.ensures.left bytes e))))

pub returns-in_err-table-clause-stopped : goal.returns-in_err-table-clause-stopped
returns-in_err-table-clause-stopped g c =
    let p = err_from_is_err_and c.from_residual-in_err-table.result c.from_residual-in_err-table.ensures.1 in
    rw (p.1, p.2) (λ bytes e.
    let place_is = c.in_ok-header.ensures.place bytes e in
    let count_is = c.in_ok-header.ensures.count bytes e in
    let here = c.in_ok-skip.ensures.left bytes (c.in_ok-header.ensures.left bytes e) in
    table_stops bytes c.in_err-table.field-0.0 (header_right bytes (c.in_ok-header.ensures.whole bytes e))
    (stops-later bytes (c.in_ok-header.header.place + 56 * c.in_ok-header.header.count) (table_end (header_in bytes)) c.in_err-table.field-0.0 (omega (arith, place_is, count_is))
    (c.in_err-table.ensures.stopped bytes here)))

pub returns-in_err-check_kept-clause-stopped : goal.returns-in_err-check_kept-clause-stopped
returns-in_err-check_kept-clause-stopped g c =
    let p = err_from_is_err_and c.from_residual-in_err-check_kept.result c.from_residual-in_err-check_kept.ensures.1 in
    rw (p.1, p.2) (λ bytes e.
    let header = c.in_ok-header.header in
    let place_is = c.in_ok-header.ensures.place bytes e in
    let count_is = c.in_ok-header.ensures.count bytes e in
    let here = c.in_ok-skip.ensures.left bytes (c.in_ok-header.ensures.left bytes e) in
    let all = c.in_ok-table.ensures.whole bytes here in
    let table = table_is bytes header.place header.count c.in_ok-table.table.items place_is count_is (c.in_ok-table.ensures.table bytes here) in
    let segments = segments_are bytes c.deref.result.now c.in_ok-segments.segments.items (c.deref.ensures.value ∙ table) c.in_ok-segments.ensures in
    let place : header.place + 56 * c.from.result ≡ table_end (header_in bytes) = omega (arith, place_is, count_is, c.from.ensures) in
    let same : kept_fault (header.place + 56 * c.from.result) c.deref-2.result.now ≡ kept_fault (table_end (header_in bytes)) (segments_in bytes) =
    ap (λ (k : ℕ). kept_fault k c.deref-2.result.now) place ∙ ap (λ (xs : List Segment). kept_fault (table_end (header_in bytes)) xs) (c.deref-2.ensures.value ∙ segments) in
    kept_stops bytes (stop.Fault c.in_err-check_kept.field-0.0) (header_right bytes (c.in_ok-header.ensures.whole bytes e)) (omega (arith, all, place_is, count_is))
    (sym same ∙ sym c.in_err-check_kept.ensures))

pub read_ident-requires-clause-after : goal.read_ident-requires-clause-after
read_ident-requires-clause-after g c =
    note_after (c.in_ok-header.header.place + 56 * c.from.result) c.first_place.result c.deref-3.result.now c.note_between-note.result c.note_between-note.ensures

pub read_ident-requires-clause-early : goal.read_ident-requires-clause-early
read_ident-requires-clause-early g c =
    let place = c.in_ok-header.header.place + 56 * c.from.result in
    let near : first_place c.deref-2.result.now ≤ 281474976710656 = kept_near place c.deref-2.result.now (sym c.in_ok-check_kept.ensures) in
    let same : c.first_place.result ≡ first_place c.deref-2.result.now = c.first_place.ensures ∙ ap first_place (c.deref-4.ensures.value ∙ sym c.deref-2.ensures.value) in
    note_early place c.first_place.result 281474976710656 c.deref-3.result.now c.note_between-note.result c.note_between-note.ensures (omega (arith, near, same))

pub returns-in_err-told-clause-stopped : goal.returns-in_err-told-clause-stopped
returns-in_err-told-clause-stopped g c =
    let p = err_from_is_err_and c.from_residual-in_err-told.result c.from_residual-in_err-told.ensures.1 in
    rw (p.1, p.2) (λ bytes e.
    let header = c.in_ok-header.header in
    let place_is = c.in_ok-header.ensures.place bytes e in
    let count_is = c.in_ok-header.ensures.count bytes e in
    let here = c.in_ok-skip.ensures.left bytes (c.in_ok-header.ensures.left bytes e) in
    let all = c.in_ok-table.ensures.whole bytes here in
    let table = table_is bytes header.place header.count c.in_ok-table.table.items place_is count_is (c.in_ok-table.ensures.table bytes here) in
    let segments = segments_are bytes c.deref.result.now c.in_ok-segments.segments.items (c.deref.ensures.value ∙ table) c.in_ok-segments.ensures in
    let place : header.place + 56 * c.from.result ≡ table_end (header_in bytes) = omega (arith, place_is, count_is, c.from.ensures) in
    let same : kept_fault (header.place + 56 * c.from.result) c.deref-2.result.now ≡ kept_fault (table_end (header_in bytes)) (segments_in bytes) =
    ap (λ (k : ℕ). kept_fault k c.deref-2.result.now) place ∙ ap (λ (xs : List Segment). kept_fault (table_end (header_in bytes)) xs) (c.deref-2.ensures.value ∙ segments) in
    let note = note_is bytes c.deref-3.result.now (header.place + 56 * c.from.result) c.first_place.result c.deref-4.result.now c.note_between-note.result
    (c.deref-3.ensures.value ∙ table) place (c.deref-4.ensures.value ∙ segments) c.first_place.ensures c.note_between-note.ensures in
    let at_end = subst (λ (k : ℕ). IsReadTo bytes k (g.S.Source.remaining c.read_table.new.source)) {x = header.place + 56 * header.count} {y = header.place + 56 * c.from.result} (omega (arith, c.from.ensures)) (c.in_ok-table.ensures.left bytes here) in
    note_stops bytes c.in_err-told.field-0.0
    (table_right bytes (header_right bytes (c.in_ok-header.ensures.whole bytes e)) (omega (arith, all, place_is, count_is)) (sym same ∙ sym c.in_ok-check_kept.ensures))
    (subst (λ (o : Option ProgramHeader). Stops (note_fault bytes o) c.in_err-told.field-0.0) note (c.in_err-told.ensures.stopped bytes at_end)))

pub returns-clause-core : goal.returns-clause-core
returns-clause-core g c = λ bytes e.
    let header = c.in_ok-header.header in
    let place_is = c.in_ok-header.ensures.place bytes e in
    let count_is = c.in_ok-header.ensures.count bytes e in
    let here = c.in_ok-skip.ensures.left bytes (c.in_ok-header.ensures.left bytes e) in
    let all = c.in_ok-table.ensures.whole bytes here in
    let table = table_is bytes header.place header.count c.in_ok-table.table.items place_is count_is (c.in_ok-table.ensures.table bytes here) in
    let segments = segments_are bytes c.deref.result.now c.in_ok-segments.segments.items (c.deref.ensures.value ∙ table) c.in_ok-segments.ensures in
    let place : header.place + 56 * c.from.result ≡ table_end (header_in bytes) = omega (arith, place_is, count_is, c.from.ensures) in
    let same : kept_fault (header.place + 56 * c.from.result) c.deref-2.result.now ≡ kept_fault (table_end (header_in bytes)) (segments_in bytes) =
    ap (λ (k : ℕ). kept_fault k c.deref-2.result.now) place ∙ ap (λ (xs : List Segment). kept_fault (table_end (header_in bytes)) xs) (c.deref-2.ensures.value ∙ segments) in
    let note = note_is bytes c.deref-3.result.now (header.place + 56 * c.from.result) c.first_place.result c.deref-4.result.now c.note_between-note.result
    (c.deref-3.ensures.value ∙ table) place (c.deref-4.ensures.value ∙ segments) c.first_place.ensures c.note_between-note.ensures in
    let at_end = subst (λ (k : ℕ). IsReadTo bytes k (g.S.Source.remaining c.read_table.new.source)) {x = header.place + 56 * header.count} {y = header.place + 56 * c.from.result} (omega (arith, c.from.ensures)) (c.in_ok-table.ensures.left bytes here) in
    record {
      no_fault =
          head_right bytes (table_right bytes (header_right bytes (c.in_ok-header.ensures.whole bytes e)) (omega (arith, all, place_is, count_is)) (sym same ∙ sym c.in_ok-check_kept.ensures))
          (subst (λ (o : Option ProgramHeader). note_fault bytes o ≡ None) note (c.in_ok-told.ensures.whole bytes at_end));
      segments = segments;
      ident =
          c.in_ok-told.ensures.ident bytes at_end ∙ ap (λ (m : ℕ). ident_with bytes m c.note_between-note.result) (c.in_ok-header.ensures.machine bytes e)
          ∙ ap (λ (o : Option ProgramHeader). ident_with bytes (machine_of (header_in bytes)) o) note;
      place = c.in_ok-told.ensures.place ∙ ap (λ (k : ℕ). note_end k c.note_between-note.result) place ∙ ap (λ (o : Option ProgramHeader). note_end (table_end (header_in bytes)) o) note;
    }

pub returns-clause-follows : goal.returns-clause-follows
returns-clause-follows g c =
    let place = c.in_ok-header.header.place + 56 * c.from.result in
    let segments = c.in_ok-segments.segments.items in
    let right : kept_fault place segments ≡ None = ap (λ (xs : List Segment). kept_fault place xs) (sym c.deref-2.ensures.value) ∙ sym c.in_ok-check_kept.ensures in
    follows_note place c.first_place.result c.in_ok-told.told.place segments c.deref-3.result.now c.note_between-note.result c.note_between-note.ensures
    (c.first_place.ensures ∙ ap first_place c.deref-4.ensures.value) c.in_ok-told.ensures.place right
