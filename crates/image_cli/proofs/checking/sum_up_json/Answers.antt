use Rattle.std.proofs.Common.{Some}
use Rattle.command_kit.specs.View.{sink_view}
use Rattle.image_cli.proofs.Checked.{tells_check}
use Rattle.image_cli.proofs.checking.sum_up_json.Goals as goal

pub returns-clause-told : goal.returns-clause-told
returns-clause-told g c = λ found tells.
    tells_check c.sum_up.result (Some found) c.tell_checked.result
    (sink_view g.O.Sink c.args.out.now) (sink_view g.O.Sink c.tell_checked.new.out) (sink_view g.N.Sink c.args.note.now) (sink_view g.N.Sink c.tell_checked.new.note)
    (c.sum_up.ensures found tells) c.tell_checked.ensures.told
