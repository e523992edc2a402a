use Rattle.std.proofs.Common.{refl, sym, subst}
use Rattle.command_kit.specs.View.{sink_view}
use Rattle.image_core.specs.declared.stop.Stop.{Stop}
use Rattle.image_cli.specs.Cores.{TellsStop}
use Rattle.image_cli.proofs.coring.tell_stop.Goals as goal

pub returns-in-Sink-clause-told : goal.returns-in-Sink-clause-told
returns-in-Sink-clause-told g c =
    let out = sink_view g.O.Sink c.args.out.now in
    let note = sink_view g.N.Sink c.args.note.now in
    let noted = sink_view g.N.Sink c.cut_short.new.note in
    subst (λ (w : Stop). TellsStop w c.cut_short.result out out note noted) (sym c.in-Sink.is)
    (record { status_is = c.cut_short.ensures.status; out_is = refl; noted = c.cut_short.ensures.noted })
