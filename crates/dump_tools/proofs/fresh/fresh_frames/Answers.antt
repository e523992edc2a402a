use Rattle.std.proofs.Common.{ap, ◌∙◌}
use Rattle.std.specs.List.{range_with_len}
use Rattle.plain_machine.specs.FreshMemory.{with_each_entry}
use Rattle.plain_machine.proofs.Fresh.{slots_filled}
use Rattle.dump_tools.specs.KeptSlots.{kept_slot}
use Rattle.dump_tools.proofs.fresh.fresh_frames.Goals as goal

pub returns-clause-fresh : goal.returns-clause-fresh
returns-clause-fresh c =
    let h = c.args.hw.now in
    let slots = kept_slot h c.args.before.now in
    c.keep_bad_slots.ensures ∙ ap (with_each_entry slots (range_with_len 0 h.slots) h.slot_table) c.set_fresh.ensures.fresh ∙ slots_filled h slots c.zones.ensures.hardware
