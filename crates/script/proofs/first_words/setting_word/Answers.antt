use Rattle.std.proofs.Common.{refl}
use Rattle.script.specs.Items.{setting_found}
use Rattle.script.specs.Shapes.{setting_row}
use Rattle.script.proofs.BesideLaws.{row_of-beside}
use Rattle.script.proofs.first_words.setting_word.Goals as goal

pub returns : goal.returns
unfolding setting_found
returns c = row_of-beside setting_row c.args.first.now _ c.beside.result c.beside.ensures refl
