use Rattle.std.proofs.Common.{◌≡◌, ◌∙◌, rules, sym, Some, None, codes}
use Rattle.clap.specs.Words.{first_of, first_value, found_of, rows_of}
use Rattle.clap.proofs.WalkLemmas.{first_value-rows}
use Rattle.command_words.proofs.Getters.{flag_read}
use Rattle.command_words.specs.ImageAsked.{area_by}
use Rattle.command_words.proofs.ImageGetters.{has_compared, no_compared, no_other}
use Rattle.command_words.proofs.swsusp_image.matched.comparison.Goals as goal

pub returns-in_err-area : goal.returns-in_err-area
returns-in_err-area c = λ x e. absurd (no_compared (rows_of (found_of c.args.values.now)) x (search rules) e)

pub returns-in_err-other : goal.returns-in_err-other
returns-in_err-other c = λ x e.
    let other : first_of (codes "other") (rows_of (found_of c.args.values.now)) ≡ None =
    sym (first_value-rows (found_of c.args.values.now) (codes "other")) ∙ (let told : first_value (found_of c.args.values.now) (codes "other") ≡ None = search rules in told) in
    absurd (no_other (rows_of (found_of c.args.values.now)) x (Some (area_by c.in_ok-area.area)) (search rules) other e)

pub returns : goal.returns
returns c = λ x e.
    let other : first_of (codes "other") (rows_of (found_of c.args.values.now)) ≡ Some c.in_ok-other.other.now =
    sym (first_value-rows (found_of c.args.values.now) (codes "other")) ∙ (let told : first_value (found_of c.args.values.now) (codes "other") ≡ Some c.in_ok-other.other.now = search rules in told) in
    let first = flag_read (found_of c.args.values.now) (codes "first") c.get_flag-first_only.result c.get_flag-first_only.ensures.none c.get_flag-first_only.ensures.value c.get_flag-first_only.ensures.other in
    has_compared (rows_of (found_of c.args.values.now)) x (area_by c.in_ok-area.area) c.in_ok-other.other.now c.get_flag-first_only.result (search rules) other first e
