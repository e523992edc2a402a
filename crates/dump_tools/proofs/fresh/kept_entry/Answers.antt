use Rattle.std.proofs.Common.{◌∙◌, rules, tests}
use Rattle.std.proofs.lemmas.Bool.{ne_eqb}
use Rattle.definitions.specs.Tables.{entry_at}
use Rattle.swap_slots.proofs.Entries.{entry_of_word-is_bad}
use Rattle.dump_tools.proofs.fresh.kept_entry.Goals as goal

pub returns-in_default : goal.returns-in_default
returns-in_default c =
    let word = entry_at c.args.before.now c.args.table.now.first c.args.slot in
    let not_bad = ne_eqb word 131072 (λ e. c.in_default.not-Bad (c.entry.ensures.entry ∙ (entry_of_word-is_bad word).1 e)) in
    search (rules, tests)
