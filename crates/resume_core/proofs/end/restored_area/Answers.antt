use Rattle.std.proofs.Common.{Some, ap, sym, refl, ◌∙◌}
use Rattle.image_format.specs.AreaKind.{area_kind}
use Rattle.plain_machine.specs.declared.reply.Reply.TheVariants as reply
use Rattle.machine.proofs.Readiness.{reserved-fits}
use Rattle.resume_core.proofs.Ending.{tables_good, bad_slots, no_area, fits_of}
use Rattle.resume_core.proofs.end.restored_area.Goals as goal

pub returns-then-has_bad_slots-clause-tables : goal.returns-then-has_bad_slots-clause-tables
returns-then-has_bad_slots-clause-tables c = λ v header blocks marked.
    tables_good c.args.hw.now v c.args.header.now c.args.blocks c.args.frames.now c.read.result c.in-Ok.area (record { header_is = header; blocks_are = blocks; marked = marked }) (c.read.ensures ∙ ap area_kind c.take_back.ensures)
    (c.in_ok-tables_fit.ensures.fits.0 refl) c.in-Ok.ensures.0 c.in-Ok.ensures.1 (sym c.has_bad_slots.ensures ∙ c.if-has_bad_slots.true)

pub returns-else-has_bad_slots-clause-tables : goal.returns-else-has_bad_slots-clause-tables
returns-else-has_bad_slots-clause-tables c = λ v header blocks marked.
    bad_slots c.args.hw.now v c.args.header.now c.args.blocks c.args.frames.now c.read.result c.in-Ok.area (record { header_is = header; blocks_are = blocks; marked = marked }) (c.read.ensures ∙ ap area_kind c.take_back.ensures)
    (c.in_ok-tables_fit.ensures.fits.0 refl) c.in-Ok.ensures.0 c.in-Ok.ensures.1 (sym c.has_bad_slots.ensures ∙ c.if-has_bad_slots.false) ∙ ap (λ f. Some (reply.BadTables f)) (sym c.slot_table.ensures.frame)

pub returns-in-Err-clause-tables : goal.returns-in-Err-clause-tables
returns-in-Err-clause-tables c = λ v header blocks marked.
    no_area c.args.hw.now v c.args.header.now c.args.blocks c.args.frames.now c.read.result c.in-Err.field-0 (record { header_is = header; blocks_are = blocks; marked = marked }) (c.read.ensures ∙ ap area_kind c.take_back.ensures)
    (c.in_ok-tables_fit.ensures.fits.0 refl) c.in-Err.ensures ∙ ap (λ f. Some (reply.BadTables f)) (sym c.slot_table-in-Err.ensures.frame)

pub returns-then-has_bad_slots-clause-fits : goal.returns-then-has_bad_slots-clause-fits
returns-then-has_bad_slots-clause-fits c = fits_of c.args.hw.now c.args.blocks c.read.result c.in-Ok.area c.in-Ok.ensures.0 c.in-Ok.ensures.1

pub returns-then-has_bad_slots-clause-kind : goal.returns-then-has_bad_slots-clause-kind
returns-then-has_bad_slots-clause-kind c = sym (c.read.ensures ∙ ap area_kind c.take_back.ensures) ∙ c.in-Ok.ensures.0

pub returns-then-has_bad_slots-clause-reserved : goal.returns-then-has_bad_slots-clause-reserved
returns-then-has_bad_slots-clause-reserved c = reserved-fits c.args.hw.now c.args.frames.now (c.in_ok-tables_fit.ensures.tables refl)
