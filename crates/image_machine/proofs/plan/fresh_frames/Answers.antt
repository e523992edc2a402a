use Rattle.std.proofs.Common.{ap, ◌∙◌}
use Rattle.std.specs.Prelude.{Ok}
use Rattle.std.specs.List.{range_with_len}
use Rattle.plain_machine.specs.FreshMemory.{with_each_entry}
use Rattle.plain_machine.proofs.Fresh.{slots_filled}
use Rattle.machine.specs.FreshSlots.{slot_of_area}
use Rattle.image_machine.proofs.Slots.{fits_fresh}
use Rattle.image_machine.proofs.plan.fresh_frames.Goals as goal

pub returns-clause-fresh : goal.returns-clause-fresh
returns-clause-fresh c =
    let h = c.args.hw.now in
    let slots = slot_of_area (Ok c.args.area.now) in
    c.set_slots.ensures.set ∙ ap (with_each_entry slots (range_with_len 0 h.slots) h.slot_table) c.set_fresh.ensures.fresh ∙ slots_filled h slots c.zones.ensures.hardware

pub returns-clause-fits : goal.returns-clause-fits
returns-clause-fits c = fits_fresh c.args.hw.now c.args.area.now c.set_slots.new.frames c.zones.ensures.hardware (returns-clause-fresh c)
