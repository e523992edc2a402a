use Rattle.std.proofs.Common.{◌≡◌, rules, Some, None, codes}
use Rattle.clap.specs.Words.{first_value, found_of, rows_of}
use Rattle.command_words.proofs.Getters.{imported, no_swap_imported, swap_read}
use Rattle.command_words.proofs.swsusp.matched.importation.Goals as goal

pub returns-in_err-swap : goal.returns-in_err-swap
returns-in_err-swap c = λ x e.
    let first : None ≡ first_value (found_of c.args.values.now) (codes "swap") = search rules in
    absurd (no_swap_imported (rows_of (found_of c.args.values.now)) x (swap_read (found_of c.args.values.now) None first) e)

pub returns : goal.returns
returns c = λ x e.
    let first : Some c.in_ok-swap.swap.now ≡ first_value (found_of c.args.values.now) (codes "swap") = search rules in
    let swap = swap_read (found_of c.args.values.now) (Some c.in_ok-swap.swap.now) first in
    imported (rows_of (found_of c.args.values.now)) x c.in_ok-swap.swap.now swap e
