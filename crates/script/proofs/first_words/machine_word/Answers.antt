use Rattle.std.proofs.Common.{refl}
use Rattle.script.specs.Items.{machine_found}
use Rattle.script.specs.Shapes.{machine_row}
use Rattle.script.proofs.BesideLaws.{row_of-beside}
use Rattle.script.proofs.first_words.machine_word.Goals as goal

pub returns : goal.returns
unfolding machine_found
returns c = row_of-beside machine_row c.args.first.now _ c.beside.result c.beside.ensures refl
