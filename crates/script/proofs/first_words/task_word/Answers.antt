use Rattle.std.proofs.Common.{refl}
use Rattle.script.specs.Items.{task_found}
use Rattle.script.specs.Shapes.{asking_row}
use Rattle.script.proofs.BesideLaws.{row_of-beside}
use Rattle.script.proofs.first_words.task_word.Goals as goal

pub returns : goal.returns
unfolding task_found
returns c = row_of-beside asking_row c.args.first.now _ c.beside.result c.beside.ensures refl
