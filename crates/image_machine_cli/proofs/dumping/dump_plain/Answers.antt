use Rattle.std.proofs.Common.{refl, ap, subst, arith}
use Rattle.command_kit.specs.Told.{RunResult}
use Rattle.command_kit.specs.Told.{IsTold}
use Rattle.command_kit.specs.View.{sink_view}
use Rattle.image_check.specs.Told.{Told}
use Rattle.image_cli.specs.Printed.{printer_view}
use Rattle.image_cli.proofs.Causes.{cause_later, memory_cause}
use Rattle.image_machine_cli.specs.Loads.{made, no_memory}
use Rattle.image_machine_cli.proofs.Noting.{same_faults, wanted_counted}
use Rattle.image_machine_cli.proofs.dumping.dump_plain.Goals as goal

pub returns-in-Ok-clause-outcome : goal.returns-in-Ok-clause-outcome
returns-in-Ok-clause-outcome g c =
    made c.in-Ok.made (printer_view g.N.Sink c.make_plain.new.report) (sink_view g.N.Sink c.make_plain.new.report.sink) c.in-Ok.ensures.made
    (record { text = refl; faults = refl }) c.tell_made.ensures.told

pub returns-in-Err-clause-outcome : goal.returns-in-Err-clause-outcome
returns-in-Err-clause-outcome g c =
    let untold = c.in-Err.ensures.untold in
    no_memory (sink_view g.N.Sink c.make_plain.new.report.sink)
    (record { text = ap (λ (t : Told). t.text) untold; faults = ap (λ (t : Told). t.faults) untold })
    (subst (λ (r : RunResult). IsTold r c.tell.result (sink_view g.O.Sink c.args.out.now) (sink_view g.O.Sink c.tell.new.out) (sink_view g.N.Sink c.make_plain.new.report.sink) (sink_view g.N.Sink c.tell.new.note)) c.no_memory.ensures.told c.tell.ensures.told)

pub returns-in-Ok-clause-cause : goal.returns-in-Ok-clause-cause
returns-in-Ok-clause-cause g c =
    let old = printer_view g.N.Sink c.args.note.now in
    let mid = printer_view g.N.Sink c.make_plain.new.report in
    let content = g.D.Disk.content c.args.disk.now in
    let layout = c.args.layout.now in
    let counted = wanted_counted c.args.wanted content content (g.D.Disk.block_count c.args.disk.now) layout.offset (g.D.Disk.faults c.args.disk.now) (g.D.Disk.faults c.make_plain.new.disk) old mid layout c.in-Ok.made c.in-Ok.ensures.made in
    let out = sink_view g.O.Sink c.args.out.now in
    cause_later c.tell_made.result out out (sink_view g.O.Sink c.tell_made.new.out)
    (sink_view g.N.Sink c.args.note.now.sink) (sink_view g.N.Sink c.make_plain.new.report.sink) (sink_view g.N.Sink c.tell_made.new.note)
    (omega arith) counted c.tell_made.ensures.cause

pub returns-in-Err-clause-cause : goal.returns-in-Err-clause-cause
returns-in-Err-clause-cause g c =
    let old = printer_view g.N.Sink c.args.note.now in
    let mid = printer_view g.N.Sink c.make_plain.new.report in
    let out = sink_view g.O.Sink c.args.out.now in
    cause_later c.tell.result out out (sink_view g.O.Sink c.tell.new.out)
    (sink_view g.N.Sink c.args.note.now.sink) (sink_view g.N.Sink c.make_plain.new.report.sink) (sink_view g.N.Sink c.tell.new.note)
    (omega arith) (same_faults old mid c.in-Err.ensures.untold)
    (memory_cause c.no_memory.result.status c.tell.result c.no_memory.ensures.status c.tell.ensures.stream c.tell.ensures.status)
