use Rattle.std.specs.Str.Parse.{ParsesUnsigned, ExplainsUnsignedError, HasUnsignedDigitsIfOk}
use Rattle.std.proofs.Common.{◌≡◌, rules, Some, None, codes}
use Rattle.clap.specs.Words.{first_value, found_of, rows_of}
use Rattle.command_words.proofs.Getters.{flag_read, hibernated, no_swap_hibernated, number_read, swap_read}
use Rattle.command_words.proofs.swsusp.matched.hibernation.Goals as goal

pub returns-in_err-swap : goal.returns-in_err-swap
returns-in_err-swap c = λ x e.
    let first : None ≡ first_value (found_of c.args.values.now) (codes "swap") = search rules in
    absurd (no_swap_hibernated (rows_of (found_of c.args.values.now)) x (swap_read (found_of c.args.values.now) None first) e)

pub returns : goal.returns
returns c = λ x e.
    let first : Some c.in_ok-swap.swap.now ≡ first_value (found_of c.args.values.now) (codes "swap") = search rules in
    let swap = swap_read (found_of c.args.values.now) (Some c.in_ok-swap.swap.now) first in
    let size = number_read (λ bs r. ParsesUnsigned 64 10 bs r × ExplainsUnsignedError 10 bs r × HasUnsignedDigitsIfOk bs r) 64 (λ u x g. g.0) (found_of c.args.values.now) (codes "image-size") c.get_one-size.result c.get_one-size.ensures.none c.get_one-size.ensures.value in
    let skips = flag_read (found_of c.args.values.now) (codes "skip-zeros") c.get_flag.result c.get_flag.ensures.none c.get_flag.ensures.value c.get_flag.ensures.other in
    rw c.format_of-format.ensures (hibernated (rows_of (found_of c.args.values.now)) x c.in_ok-swap.swap.now c.get_one-size.result c.get_flag.result swap size skips e)
