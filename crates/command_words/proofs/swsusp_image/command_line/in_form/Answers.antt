use Rattle.command_words.specs.ImageApp.{area_app, json_rule}
use Rattle.command_words.proofs.swsusp_image.command_line.in_form.Goals as goal

pub returns : goal.returns
returns c = c.with_argument.ensures (area_app c.args.name.now) json_rule c.over_area.ensures c.flag-json.ensures.rule c.flag-json.ensures.own
