use Rattle.std.proofs.Common.{◌≡◌, ◌∙◌, ℕ, eqb, false, sym, ap, rules, tests}
use Rattle.std.proofs.lemmas.Bool.{ne_eqb}
use Rattle.plain_machine.specs.Machine.{raw_slot_entry}
use Rattle.swap_slots.specs.Entries.{word_of, entry_of_word}
use Rattle.swap_slots.specs.declared.entry.SlotEntry.TheVariants.{Task, Bad}
use Rattle.swap_slots.proofs.Entries.{entry_of_word-is_bad}
use Rattle.machine.proofs.tables.slot_fits.Goals as goal

not_bad : (word t : ℕ) → entry_of_word word ≡ Task t → eqb word 131072 ≡ false
not_bad word t task =
    ne_eqb word 131072 (λ e. let same : Task t ≡ Bad = sym task ∙ (entry_of_word-is_bad word).1 e in search rules)

pub returns-then-slot-ne0 : goal.returns-then-slot-ne0
returns-then-slot-ne0 c =
    let word = raw_slot_entry c.args.hw.now c.args.frames.now c.args.slot in
    let ok = not_bad word c.in-Task.task (sym c.slot_entry.ensures.entry ∙ c.in-Task.is) in
    let is : word ≡ c.in-Task.task = sym c.slot_entry.ensures.word ∙ ap word_of c.in-Task.is in
    search (rules, tests)

pub returns-else-slot-ne0 : goal.returns-else-slot-ne0
returns-else-slot-ne0 c =
    let word = raw_slot_entry c.args.hw.now c.args.frames.now c.args.slot in
    let ok = not_bad word c.in-Task.task (sym c.slot_entry.ensures.entry ∙ c.in-Task.is) in
    let is : word ≡ c.in-Task.task = sym c.slot_entry.ensures.word ∙ ap word_of c.in-Task.is in
    search (rules, tests)
