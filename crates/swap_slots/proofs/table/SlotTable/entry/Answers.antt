use Rattle.std.proofs.Common.{◌∙◌, ap, ap₂}
use Rattle.definitions.specs.Bytes.{number_at}
use Rattle.definitions.specs.Tables.{entry_at, frame}
use Rattle.swap_slots.specs.Entries.{entry_of_word, word_of}
use Rattle.swap_slots.proofs.Entries.{word_of-entry_of_word}
use Rattle.swap_slots.proofs.table.SlotTable.entry.Goals as goal

pub returns-clause-entry : goal.returns-clause-entry
unfolding entry_at
returns-clause-entry c =
    c.of.ensures
    ∙ ap entry_of_word (c.u32_at.ensures ∙ ap₂ (λ p at. number_at 4 (frame c.args.frames.now p) at) c.place-p.ensures.frame c.place-p.ensures.offset)

pub returns-clause-word : goal.returns-clause-word
returns-clause-word c =
    ap word_of (returns-clause-entry c) ∙ word_of-entry_of_word (entry_at c.args.frames.now c.args.self.now.first c.args.slot)
