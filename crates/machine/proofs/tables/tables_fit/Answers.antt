use Rattle.std.proofs.Common.{◌<◌, ◌≤◌, ℕ, Result, arith, subst, sym}
use Rattle.plain_machine.specs.Machine.{tables_fault}
use Rattle.machine.proofs.TableFaults.{Tells, fits-no_fault, tells_err, tells_frames_first, tells_ok, tells_slots_first}
use Rattle.machine.proofs.tables.tables_fit.Goals as goal

pub returns-then-frame_table-slot_table : goal.returns-then-frame_table-slot_table
returns-then-frame_table-slot_table c =
    let h = c.args.hw.now in
    let m = c.args.frames.now in
    let first = c.frame_table.ensures.frame in
    let second = c.slot_table.ensures.frame in
    let order = c.if-frame_table-slot_table.true in
    let lt : h.frame_table < h.slot_table = omega arith in
    let told : Tells (tables_fault h m) c.and.result = subst (λ (r : Result (Unit {0}) ℕ). Tells (tables_fault h m) r) (sym c.and.ensures)
    (tells_frames_first h m c.frame_table_fits-frame_table.result c.slot_table_fits-slot_table.result lt c.frame_table_fits-frame_table.ensures c.slot_table_fits-slot_table.ensures) in
    let none = tells_ok (tables_fault h m) c.and.result told in
    record {
      fits = none;
      fault = tells_err (tables_fault h m) c.and.result told;
      tables = λ ok. fits-no_fault h m c.frame_table.ensures.hardware c.are_pages.ensures.pages c.requires (none.0 ok);
    }

pub returns-else-frame_table-slot_table : goal.returns-else-frame_table-slot_table
returns-else-frame_table-slot_table c =
    let h = c.args.hw.now in
    let m = c.args.frames.now in
    let first = c.frame_table.ensures.frame in
    let second = c.slot_table.ensures.frame in
    let order = c.if-frame_table-slot_table.false in
    let le : h.slot_table ≤ h.frame_table = omega arith in
    let r = c.and-else-frame_table-slot_table.result in
    let told : Tells (tables_fault h m) r = subst (λ (r : Result (Unit {0}) ℕ). Tells (tables_fault h m) r) (sym c.and-else-frame_table-slot_table.ensures)
    (tells_slots_first h m c.frame_table_fits-frame_table.result c.slot_table_fits-slot_table.result le c.frame_table_fits-frame_table.ensures c.slot_table_fits-slot_table.ensures) in
    let none = tells_ok (tables_fault h m) r told in
    record {
      fits = none;
      fault = tells_err (tables_fault h m) r told;
      tables = λ ok. fits-no_fault h m c.frame_table.ensures.hardware c.are_pages.ensures.pages c.requires (none.0 ok);
    }
