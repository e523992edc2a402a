use Rattle.std.proofs.Common.{refl}
use Rattle.dump_file.specs.Reading.{hardware_by}
use Rattle.dump_file.proofs.HeadParts.{but_tables, tables_fit, tables_wrong}
use Rattle.dump_file.proofs.header.hardware_of.Goals as goal

pub returns-in-Ok-clause-fit : goal.returns-in-Ok-clause-fit
returns-in-Ok-clause-fit c some =
    tables_fit (hardware_by c.args.front.now c.args.zones.now c.args.extents.now)
    (but_tables c.args.front.now c.args.zones.now c.args.extents.now c.requires.zones c.requires.slots c.requires.map) (c.in-Ok.ensures.ok.0 refl)

pub returns-in-Err-clause-none : goal.returns-in-Err-clause-none
returns-in-Err-clause-none c none =
    tables_wrong (hardware_by c.args.front.now c.args.zones.now c.args.extents.now) c.in-Err.field-0
    (but_tables c.args.front.now c.args.zones.now c.args.extents.now c.requires.zones c.requires.slots c.requires.map) c.in-Err.ensures.refused
