use Rattle.std.proofs.Common.{refl, ap}
use Rattle.command_kit.specs.View.{sink_view}
use Rattle.command_kit.specs.declared.status.Status.TheVariants.{Done}
use Rattle.image_check.specs.Told.{Told}
use Rattle.image_cli.specs.Cores.{stopped, whole}
use Rattle.image_cli.specs.Printed.{printer_view}
use Rattle.image_cli.proofs.Causes.{cause_later, done_cause}
use Rattle.image_cli.proofs.Noting.{same_faults}
use Rattle.image_cli.proofs.Stopping.{stopped_cause}
use Rattle.image_cli.proofs.coring.core.Goals as goal

pub returns-in-Ok-clause-outcome : goal.returns-in-Ok-clause-outcome
returns-in-Ok-clause-outcome g c =
    let untold = c.in-Ok.ensures.told in
    whole (sink_view g.O.Sink c.write_core.new.out) (sink_view g.N.Sink c.write_core.new.report.sink) c.in-Ok.ensures.written c.write_core.ensures.counted
    (record { text = ap (λ (t : Told). t.text) untold; faults = ap (λ (t : Told). t.faults) untold }) c.tell.ensures.told

pub returns-in-Ok-clause-cause : goal.returns-in-Ok-clause-cause
returns-in-Ok-clause-cause g c =
    let old = printer_view g.N.Sink c.args.note.now in
    let mid = printer_view g.N.Sink c.write_core.new.report in
    cause_later c.tell.result (sink_view g.O.Sink c.args.out.now) (sink_view g.O.Sink c.write_core.new.out) (sink_view g.O.Sink c.tell.new.out)
    (sink_view g.N.Sink c.args.note.now.sink) (sink_view g.N.Sink c.write_core.new.report.sink) (sink_view g.N.Sink c.tell.new.note)
    c.write_core.ensures.counted (same_faults old mid c.in-Ok.ensures.told)
    (done_cause Done c.tell.result refl c.tell.ensures.stream c.tell.ensures.status)

pub returns-in-Err-clause-outcome : goal.returns-in-Err-clause-outcome
returns-in-Err-clause-outcome g c =
    stopped c.in-Err.why (printer_view g.N.Sink c.write_core.new.report) (sink_view g.O.Sink c.write_core.new.out) (sink_view g.N.Sink c.write_core.new.report.sink)
    c.in-Err.ensures.stopped c.in-Err.ensures.front c.in-Err.ensures.unwritten c.write_core.ensures.counted (record { text = refl; faults = refl }) c.tell_stop.ensures.told

pub returns-in-Err-clause-cause : goal.returns-in-Err-clause-cause
returns-in-Err-clause-cause g c =
    stopped_cause (g.D.Disk.content c.args.disk.now) (g.D.Disk.block_count c.args.disk.now) c.args.header (g.D.Disk.faults c.args.disk.now) (g.D.Disk.faults c.write_core.new.disk)
    (printer_view g.N.Sink c.args.note.now) (printer_view g.N.Sink c.write_core.new.report) c.in-Err.why c.tell_stop.result
    (sink_view g.O.Sink c.args.out.now) (sink_view g.O.Sink c.write_core.new.out) (sink_view g.O.Sink c.tell_stop.new.out)
    (sink_view g.N.Sink c.args.note.now.sink) (sink_view g.N.Sink c.write_core.new.report.sink) (sink_view g.N.Sink c.tell_stop.new.note)
    refl refl c.write_core.ensures.counted c.in-Err.ensures.stopped c.tell_stop.ensures.told c.tell_stop.ensures.cause
