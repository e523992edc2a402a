use Rattle.std.proofs.Common.{◌∙◌}
use Rattle.image_machine.proofs.MachineMade.{filled_size, given_tables}
use Rattle.image_machine.proofs.filled.FilledPlan.with_new_tables.Goals as goal

pub set_in_use-requires : goal.set_in_use-requires
set_in_use-requires c =
    let (saved, filled) = c.requires in
    filled_size c.args.self saved c.in_ok-hw.hw c.in_ok-hw.hw.frame_table c.in_ok-hw.hw.slot_table filled c.in_ok-hw.ensures.hardware

pub set_slots-requires : goal.set_slots-requires
set_slots-requires c =
    let (saved, filled) = c.requires in
    c.set_in_use.ensures.len
    ∙ filled_size c.args.self saved c.in_ok-hw.hw c.in_ok-hw.hw.frame_table c.in_ok-hw.hw.slot_table filled c.in_ok-hw.ensures.hardware

pub returns-clause-machine : goal.returns-clause-machine
returns-clause-machine c = λ saved filled.
    given_tables c.args.self saved c.in_ok-hw.hw c.set_slots.new.frames filled c.in_ok-hw.ensures.hardware c.in_ok-hw.ensures.tables c.in_ok-hw.ensures.is
    c.are_pages.ensures.pages c.set_in_use.new.frames c.set_in_use.ensures.set c.set_slots.ensures.set
