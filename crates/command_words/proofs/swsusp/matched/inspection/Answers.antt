use Rattle.std.specs.Str.Parse.{ParsesUnsigned, ExplainsUnsignedError, HasUnsignedDigitsIfOk}
use Rattle.std.proofs.Common.{◌≡◌, rules, Some, None, codes, ◌∙◌}
use Rattle.clap.specs.Words.{first_value, found_of, rows_of}
use Rattle.command_words.proofs.Getters.{inspected, no_offset, no_swap_inspected, number_read, swap_read}
use Rattle.command_words.proofs.swsusp.matched.inspection.Goals as goal

pub returns-in_err-swap : goal.returns-in_err-swap
returns-in_err-swap c = λ x e.
    let first : None ≡ first_value (found_of c.args.values.now) (codes "swap") = search rules in
    absurd (no_swap_inspected (rows_of (found_of c.args.values.now)) x (swap_read (found_of c.args.values.now) None first) e)

pub returns-in_err-offset : goal.returns-in_err-offset
returns-in_err-offset c = λ x e.
    let first : Some c.in_ok-swap.swap.now ≡ first_value (found_of c.args.values.now) (codes "swap") = search rules in
    let swap = swap_read (found_of c.args.values.now) (Some c.in_ok-swap.swap.now) first in
    let offset = number_read (λ bs r. ParsesUnsigned 32 10 bs r × ExplainsUnsignedError 10 bs r × HasUnsignedDigitsIfOk bs r) 32 (λ u x g. g.0) (found_of c.args.values.now) (codes "offset") c.get_one.result c.get_one.ensures.none c.get_one.ensures.value in
    absurd (no_offset (rows_of (found_of c.args.values.now)) x c.in_ok-swap.swap.now swap (offset ∙ c.in_err-offset.was) e)

pub returns : goal.returns
returns c = λ x e.
    let first : Some c.in_ok-swap.swap.now ≡ first_value (found_of c.args.values.now) (codes "swap") = search rules in
    let swap = swap_read (found_of c.args.values.now) (Some c.in_ok-swap.swap.now) first in
    let offset = number_read (λ bs r. ParsesUnsigned 32 10 bs r × ExplainsUnsignedError 10 bs r × HasUnsignedDigitsIfOk bs r) 32 (λ u x g. g.0) (found_of c.args.values.now) (codes "offset") c.get_one.result c.get_one.ensures.none c.get_one.ensures.value in
    inspected (rows_of (found_of c.args.values.now)) x c.in_ok-swap.swap.now c.in_ok-offset.offset swap (offset ∙ c.in_ok-offset.was) e
