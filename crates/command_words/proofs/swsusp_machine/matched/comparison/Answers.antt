use Rattle.std.proofs.Common.{◌≡◌, ◌∙◌, rules, sym, Some, None, codes}
use Rattle.clap.specs.Words.{first_of, first_value, found_of, rows_of}
use Rattle.clap.proofs.WalkLemmas.{first_value-rows}
use Rattle.command_words.proofs.MachineGetters.{compared, no_first, no_second}
use Rattle.command_words.proofs.swsusp_machine.matched.comparison.Goals as goal

pub returns-in_err-first : goal.returns-in_err-first
returns-in_err-first c = λ x e.
    let first : first_of (codes "first") (rows_of (found_of c.args.values.now)) ≡ None =
    sym (first_value-rows (found_of c.args.values.now) (codes "first")) ∙ (let told : first_value (found_of c.args.values.now) (codes "first") ≡ None = search rules in told) in
    absurd (no_first (rows_of (found_of c.args.values.now)) x first e)

pub returns-in_err-second : goal.returns-in_err-second
returns-in_err-second c = λ x e.
    let first : first_of (codes "first") (rows_of (found_of c.args.values.now)) ≡ Some c.in_ok-first.first.now =
    sym (first_value-rows (found_of c.args.values.now) (codes "first")) ∙ (let told : first_value (found_of c.args.values.now) (codes "first") ≡ Some c.in_ok-first.first.now = search rules in told) in
    let second : first_of (codes "second") (rows_of (found_of c.args.values.now)) ≡ None =
    sym (first_value-rows (found_of c.args.values.now) (codes "second")) ∙ (let told : first_value (found_of c.args.values.now) (codes "second") ≡ None = search rules in told) in
    absurd (no_second (rows_of (found_of c.args.values.now)) x c.in_ok-first.first.now first second e)

pub returns : goal.returns
returns c = λ x e.
    let first : first_of (codes "first") (rows_of (found_of c.args.values.now)) ≡ Some c.in_ok-first.first.now =
    sym (first_value-rows (found_of c.args.values.now) (codes "first")) ∙ (let told : first_value (found_of c.args.values.now) (codes "first") ≡ Some c.in_ok-first.first.now = search rules in told) in
    let second : first_of (codes "second") (rows_of (found_of c.args.values.now)) ≡ Some c.in_ok-second.second.now =
    sym (first_value-rows (found_of c.args.values.now) (codes "second")) ∙ (let told : first_value (found_of c.args.values.now) (codes "second") ≡ Some c.in_ok-second.second.now = search rules in told) in
    compared (rows_of (found_of c.args.values.now)) x c.in_ok-first.first.now c.in_ok-second.second.now first second e
