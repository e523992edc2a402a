use Rattle.std.proofs.Common.{◌∙◌}
use Rattle.std.proofs.lemmas.Bool.{false≢true}
use Rattle.plain_machine.specs.Machine.{raw_slot_entry}
use Rattle.swap_slots.proofs.Entries.{entry_of_word-is_bad}
use Rattle.machine.proofs.tables.is_bad_slot.Goals as goal

pub returns-in_default : goal.returns-in_default
returns-in_default c =
    let is_bad = entry_of_word-is_bad (raw_slot_entry c.args.hw.now c.args.frames.now c.args.slot) in
    (λ e. absurd (false≢true e), λ e. absurd (c.in_default.not-Bad (c.slot_entry.ensures.entry ∙ is_bad.1 e)))
