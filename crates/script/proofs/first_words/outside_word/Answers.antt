use Rattle.std.proofs.Common.{refl}
use Rattle.script.specs.Items.{outside_found}
use Rattle.script.specs.Shapes.{outside_row}
use Rattle.script.proofs.BesideLaws.{row_of-beside}
use Rattle.script.proofs.first_words.outside_word.Goals as goal

pub returns : goal.returns
unfolding outside_found
returns c = row_of-beside outside_row c.args.first.now _ c.beside.result c.beside.ensures refl
