use Rattle.command_kit.specs.View.{sink_view}
use Rattle.image_cli.proofs.Checked.{prints_check}
use Rattle.image_cli.proofs.checking.check_json.Goals as goal

pub returns-clause-outcome : goal.returns-clause-outcome
returns-clause-outcome g c =
    prints_check c.check.result (g.D.Disk.content c.args.disk.now) (g.D.Disk.block_count c.args.disk.now) c.args.header
    (g.D.Disk.faults c.args.disk.now) (g.D.Disk.faults c.check.new.disk) c.tell_checked.result
    (sink_view g.O.Sink c.args.out.now) (sink_view g.O.Sink c.tell_checked.new.out) (sink_view g.N.Sink c.args.note.now) (sink_view g.N.Sink c.tell_checked.new.note)
    c.check.ensures.told c.tell_checked.ensures.told
