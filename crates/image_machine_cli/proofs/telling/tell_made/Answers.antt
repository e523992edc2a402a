use Rattle.std.proofs.Common.{sym, subst}
use Rattle.command_kit.specs.Told.{IsTold}
use Rattle.command_kit.specs.View.{sink_view}
use Rattle.image_machine.specs.declared.dump.made.Made.{Made}
use Rattle.image_machine_cli.specs.Loads.{made_told}
use Rattle.image_machine_cli.proofs.telling.tell_made.Goals as goal

pub returns-in-NoArea-clause-told : goal.returns-in-NoArea-clause-told
returns-in-NoArea-clause-told g c =
    subst (λ (m : Made). IsTold (made_told m) c.tell-in-NoArea.result (sink_view g.O.Sink c.args.out.now) (sink_view g.O.Sink c.tell-in-NoArea.new.out) (sink_view g.N.Sink c.args.note.now) (sink_view g.N.Sink c.tell-in-NoArea.new.note))
    (sym c.in-NoArea.is) c.tell-in-NoArea.ensures.told
