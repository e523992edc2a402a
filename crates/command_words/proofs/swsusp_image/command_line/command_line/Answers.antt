use Rattle.std.proofs.Common.{codes}
use Rattle.command_words.specs.App.{program_app}
use Rattle.command_words.specs.ImageApp.{with_enders, with_tellers, with_writers}
use Rattle.command_words.proofs.swsusp_image.command_line.command_line.Goals as goal

pub returns : goal.returns
returns c =
    let telling = c.with_tellers-telling.ensures (program_app (codes "swsusp_image")) c.program-bare.ensures in
    let writing = c.with_writers-writing.ensures (with_tellers (program_app (codes "swsusp_image"))) telling in
    let ending = c.with_enders-ending.ensures (with_writers (with_tellers (program_app (codes "swsusp_image")))) writing in
    c.with_makers.ensures (with_enders (with_writers (with_tellers (program_app (codes "swsusp_image"))))) ending
