use Rattle.std.proofs.Common.{codes}
use Rattle.command_words.specs.ImageApp.{area_app, frame_rule}
use Rattle.command_words.proofs.swsusp_image.command_line.page.Goals as goal

pub returns : goal.returns
returns c = c.with_argument.ensures (area_app (codes "page")) frame_rule c.over_area-command.ensures c.frame_argument.ensures.rule c.frame_argument.ensures.own
