use Rattle.std.proofs.Common.{rules, codes}
use Rattle.clap.specs.Words.{found_of, rows_of}
use Rattle.command_words.proofs.Getters.{flag_read}
use Rattle.command_words.specs.ImageAsked.{area_by}
use Rattle.command_words.proofs.ImageGetters.{has_formed, no_formed}
use Rattle.command_words.proofs.swsusp_image.matched.formed.Goals as goal

pub returns-in_err-area : goal.returns-in_err-area
returns-in_err-area c = λ x e. absurd (no_formed (rows_of (found_of c.args.values.now)) x (search rules) e)

pub returns : goal.returns
returns c = λ x e.
    let json = flag_read (found_of c.args.values.now) (codes "json") c.get_flag.result c.get_flag.ensures.none c.get_flag.ensures.value c.get_flag.ensures.other in
    rw c.form_of-form.ensures (has_formed (rows_of (found_of c.args.values.now)) x (area_by c.in_ok-area.area) c.get_flag.result (search rules) json e)
