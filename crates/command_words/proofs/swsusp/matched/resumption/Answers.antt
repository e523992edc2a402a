use Rattle.std.proofs.Common.{◌≡◌, rules, Some, None, codes}
use Rattle.clap.specs.Words.{first_value, found_of, rows_of}
use Rattle.command_words.proofs.Getters.{flag_read, resumed, no_swap_resumed, swap_read}
use Rattle.command_words.proofs.swsusp.matched.resumption.Goals as goal

pub returns-in_err-swap : goal.returns-in_err-swap
returns-in_err-swap c = λ x e.
    let first : None ≡ first_value (found_of c.args.values.now) (codes "swap") = search rules in
    absurd (no_swap_resumed (rows_of (found_of c.args.values.now)) x (swap_read (found_of c.args.values.now) None first) e)

pub returns : goal.returns
returns c = λ x e.
    let first : Some c.in_ok-swap.swap.now ≡ first_value (found_of c.args.values.now) (codes "swap") = search rules in
    let swap = swap_read (found_of c.args.values.now) (Some c.in_ok-swap.swap.now) first in
    let any = flag_read (found_of c.args.values.now) (codes "any-kernel") c.get_flag.result c.get_flag.ensures.none c.get_flag.ensures.value c.get_flag.ensures.other in
    rw c.check_of-check.ensures (resumed (rows_of (found_of c.args.values.now)) x c.in_ok-swap.swap.now c.get_flag.result swap any e)
