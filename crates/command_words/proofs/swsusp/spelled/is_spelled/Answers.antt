use Rattle.std.proofs.Common.{string_bytes}
use Rattle.command_words.specs.Asked.{asked_by}
use Rattle.command_words.specs.Spelled.{Spells}
use Rattle.command_words.specs.Words.{command_of}
use Rattle.command_words.proofs.Forms.{asks, spells}
use Rattle.command_words.proofs.Refusals.{by_rest}
use Rattle.command_words.proofs.swsusp.spelled.is_spelled.Goals as goal

pub returns-in-len1-up : goal.returns-in-len1-up
returns-in-len1-up c =
    by_rest command_of Spells (λ name rest asked h. asks name rest asked h.0 h.1) spells string_bytes c.args.words.now (asked_by c.args.command.now)
    c.spells.result c.in-len1-up.len_at_least c.spells.ensures
