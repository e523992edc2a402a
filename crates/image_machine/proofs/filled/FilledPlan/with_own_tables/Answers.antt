use Rattle.std.proofs.Common.{refl}
use Rattle.image_machine.proofs.MachineMade.{filled_size, own_tables}
use Rattle.image_machine.proofs.filled.FilledPlan.with_own_tables.Goals as goal

pub tables_fit-requires : goal.tables_fit-requires
tables_fit-requires c =
    let (saved, filled) = c.requires in
    filled_size c.args.self saved c.in_ok-hw.hw c.args.frame_table c.args.slot_table filled c.in_ok-hw.ensures.hardware

pub returns-clause-machine : goal.returns-clause-machine
returns-clause-machine c = λ saved filled.
    let fits = c.in_default.ensures.tables refl in
    own_tables c.args.self saved c.in_ok-hw.hw c.args.frame_table c.args.slot_table filled c.in_ok-hw.ensures.hardware c.in_ok-hw.ensures.is fits.pages fits
    c.in_default-saves_just.ensures.just
