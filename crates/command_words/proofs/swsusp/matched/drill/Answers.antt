use Rattle.std.specs.Str.Parse.{ParsesUnsigned, ExplainsUnsignedError, HasUnsignedDigitsIfOk}
use Rattle.std.proofs.Common.{◌∙◌, codes}
use Rattle.clap.specs.Words.{found_of, rows_of}
use Rattle.command_words.proofs.Getters.{drilled, no_number, number_read}
use Rattle.command_words.proofs.swsusp.matched.drill.Goals as goal

pub returns-in_err-number : goal.returns-in_err-number
returns-in_err-number c = λ x e.
    let number = number_read (λ bs r. ParsesUnsigned 32 10 bs r × ExplainsUnsignedError 10 bs r × HasUnsignedDigitsIfOk bs r) 32 (λ u x g. g.0) (found_of c.args.values.now) (codes "number") c.get_one.result c.get_one.ensures.none c.get_one.ensures.value in
    absurd (no_number (rows_of (found_of c.args.values.now)) x (number ∙ c.in_err-number.was) e)

pub returns : goal.returns
returns c = λ x e.
    let number = number_read (λ bs r. ParsesUnsigned 32 10 bs r × ExplainsUnsignedError 10 bs r × HasUnsignedDigitsIfOk bs r) 32 (λ u x g. g.0) (found_of c.args.values.now) (codes "number") c.get_one.result c.get_one.ensures.none c.get_one.ensures.value in
    drilled (rows_of (found_of c.args.values.now)) x c.in_ok-number.number (number ∙ c.in_ok-number.was) e
