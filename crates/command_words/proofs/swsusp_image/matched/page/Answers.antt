use Rattle.std.specs.Str.Parse.{ParsesUnsigned, ExplainsUnsignedError, HasUnsignedDigitsIfOk}
use Rattle.std.proofs.Common.{rules, Some, codes, ◌∙◌}
use Rattle.clap.specs.Words.{found_of, rows_of}
use Rattle.command_words.proofs.Getters.{number_read}
use Rattle.command_words.specs.ImageAsked.{area_by}
use Rattle.command_words.proofs.ImageGetters.{has_page, no_area, no_frame}
use Rattle.command_words.proofs.swsusp_image.matched.page.Goals as goal

pub returns-in_err-area : goal.returns-in_err-area
returns-in_err-area c = λ x e. absurd (no_area (rows_of (found_of c.args.values.now)) x (search rules) e)

pub returns-in_err-frame : goal.returns-in_err-frame
returns-in_err-frame c = λ x e.
    let frame = number_read (λ bs r. ParsesUnsigned 64 10 bs r × ExplainsUnsignedError 10 bs r × HasUnsignedDigitsIfOk bs r) 64 (λ u x g. g.0) (found_of c.args.values.now) (codes "frame") c.get_one.result c.get_one.ensures.none c.get_one.ensures.value in
    absurd (no_frame (rows_of (found_of c.args.values.now)) x (Some (area_by c.in_ok-area.area)) (search rules) (frame ∙ c.in_err-frame.was) e)

pub returns : goal.returns
returns c = λ x e.
    let frame = number_read (λ bs r. ParsesUnsigned 64 10 bs r × ExplainsUnsignedError 10 bs r × HasUnsignedDigitsIfOk bs r) 64 (λ u x g. g.0) (found_of c.args.values.now) (codes "frame") c.get_one.result c.get_one.ensures.none c.get_one.ensures.value in
    has_page (rows_of (found_of c.args.values.now)) x (area_by c.in_ok-area.area) c.in_ok-frame.frame (search rules) (frame ∙ c.in_ok-frame.was) e
