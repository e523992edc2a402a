use Rattle.std.proofs.Common.{refl}
use Rattle.script.proofs.TablesLaws.{tables_in-lines}
use Rattle.script.proofs.settings.tables_in.Goals as goal

pub returns : goal.returns
returns c = tables_in-lines c.args.zones.now _ c.div_ceil.result c.requires.some c.requires.lines refl c.div_ceil.ensures
