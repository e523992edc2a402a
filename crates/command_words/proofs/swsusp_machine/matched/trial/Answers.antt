use Rattle.std.proofs.Common.{◌≡◌, ◌∙◌, rules, sym, Some, None, codes}
use Rattle.clap.specs.Words.{first_of, first_value, found_of, rows_of}
use Rattle.clap.proofs.WalkLemmas.{first_value-rows}
use Rattle.command_words.proofs.Getters.{flag_read}
use Rattle.command_words.proofs.MachineGetters.{checked, no_swap}
use Rattle.command_words.proofs.swsusp_machine.matched.trial.Goals as goal

pub returns-in_err-swap : goal.returns-in_err-swap
returns-in_err-swap c = λ x e.
    let swap : first_of (codes "swap") (rows_of (found_of c.args.values.now)) ≡ None =
    sym (first_value-rows (found_of c.args.values.now) (codes "swap")) ∙ (let told : first_value (found_of c.args.values.now) (codes "swap") ≡ None = search rules in told) in
    absurd (no_swap (rows_of (found_of c.args.values.now)) x swap e)

pub returns : goal.returns
returns c = λ x e.
    let swap : first_of (codes "swap") (rows_of (found_of c.args.values.now)) ≡ Some c.in_ok-swap.swap.now =
    sym (first_value-rows (found_of c.args.values.now) (codes "swap")) ∙ (let told : first_value (found_of c.args.values.now) (codes "swap") ≡ Some c.in_ok-swap.swap.now = search rules in told) in
    let any = flag_read (found_of c.args.values.now) (codes "any-kernel") c.get_flag.result c.get_flag.ensures.none c.get_flag.ensures.value c.get_flag.ensures.other in
    rw c.check_of-check.ensures (checked (rows_of (found_of c.args.values.now)) x c.in_ok-swap.swap.now c.get_flag.result swap any e)
