use Rattle.std.proofs.Common.{IfOk, refl, ap, subst, arith}
use Rattle.command_kit.specs.Told.{RunResult}
use Rattle.command_kit.specs.Told.{IsTold}
use Rattle.command_kit.specs.View.{sink_view}
use Rattle.image_check.specs.Told.{Told}
use Rattle.image_cli.specs.Printed.{printer_view}
use Rattle.image_cli.proofs.Causes.{cause_later, memory_cause}
use Rattle.image_machine_cli.specs.Loads.{made, no_memory}
use Rattle.image_machine_cli.specs.Makes.{MakesWanted}
use Rattle.image_machine_cli.proofs.Noting.{same_faults, wanted_counted, wanted_frames}
use Rattle.image_machine_cli.proofs.dumping.dump_from.Goals as goal

pub tell_made-requires : goal.tell_made-requires
tell_made-requires g c =
    let old = printer_view g.N.Sink c.args.note.now in
    let mid = printer_view g.N.Sink c.make_from.new.report in
    let area = c.requires.headed.0 in
    let content = g.D.Disk.content c.args.disk.now in
    let blocks = g.D.Disk.block_count c.args.disk.now in
    let before = g.D.Disk.faults c.args.disk.now in
    let then = g.D.Disk.faults c.make_from.new.disk in
    let layout = c.args.asked.now.layout in
    let makes = subst (λ r. IfOk r (MakesWanted c.args.wanted area content blocks 0 before then old mid layout)) c.in-Ok.is (c.make_from.ensures.made area c.requires.headed.1) in
    record { frames = wanted_frames c.args.wanted area content blocks 0 before then old mid layout c.in-Ok.made makes }

pub returns-in-Ok-clause-outcome : goal.returns-in-Ok-clause-outcome
returns-in-Ok-clause-outcome g c = λ area headed.
    let old = printer_view g.N.Sink c.args.note.now in
    let mid = printer_view g.N.Sink c.make_from.new.report in
    let content = g.D.Disk.content c.args.disk.now in
    let blocks = g.D.Disk.block_count c.args.disk.now in
    let before = g.D.Disk.faults c.args.disk.now in
    let then = g.D.Disk.faults c.make_from.new.disk in
    let layout = c.args.asked.now.layout in
    made c.in-Ok.made mid (sink_view g.N.Sink c.make_from.new.report.sink)
    (subst (λ r. IfOk r (MakesWanted c.args.wanted area content blocks 0 before then old mid layout)) c.in-Ok.is (c.make_from.ensures.made area headed))
    (record { text = refl; faults = refl }) c.tell_made.ensures.told

pub returns-in-Err-clause-outcome : goal.returns-in-Err-clause-outcome
returns-in-Err-clause-outcome g c = λ area headed.
    let untold = c.in-Err.ensures.untold in
    no_memory (sink_view g.N.Sink c.make_from.new.report.sink)
    (record { text = ap (λ (t : Told). t.text) untold; faults = ap (λ (t : Told). t.faults) untold })
    (subst (λ (r : RunResult). IsTold r c.tell.result (sink_view g.O.Sink c.args.out.now) (sink_view g.O.Sink c.tell.new.out) (sink_view g.N.Sink c.make_from.new.report.sink) (sink_view g.N.Sink c.tell.new.note)) c.no_memory.ensures.told c.tell.ensures.told)

pub returns-in-Ok-clause-cause : goal.returns-in-Ok-clause-cause
returns-in-Ok-clause-cause g c =
    let old = printer_view g.N.Sink c.args.note.now in
    let mid = printer_view g.N.Sink c.make_from.new.report in
    let area = c.requires.headed.0 in
    let content = g.D.Disk.content c.args.disk.now in
    let blocks = g.D.Disk.block_count c.args.disk.now in
    let before = g.D.Disk.faults c.args.disk.now in
    let then = g.D.Disk.faults c.make_from.new.disk in
    let layout = c.args.asked.now.layout in
    let makes = subst (λ r. IfOk r (MakesWanted c.args.wanted area content blocks 0 before then old mid layout)) c.in-Ok.is (c.make_from.ensures.made area c.requires.headed.1) in
    let counted = wanted_counted c.args.wanted area content blocks 0 before then old mid layout c.in-Ok.made makes in
    let out = sink_view g.O.Sink c.args.out.now in
    cause_later c.tell_made.result out out (sink_view g.O.Sink c.tell_made.new.out)
    (sink_view g.N.Sink c.args.note.now.sink) (sink_view g.N.Sink c.make_from.new.report.sink) (sink_view g.N.Sink c.tell_made.new.note)
    (omega arith) counted c.tell_made.ensures.cause

pub returns-in-Err-clause-cause : goal.returns-in-Err-clause-cause
returns-in-Err-clause-cause g c =
    let old = printer_view g.N.Sink c.args.note.now in
    let mid = printer_view g.N.Sink c.make_from.new.report in
    let out = sink_view g.O.Sink c.args.out.now in
    cause_later c.tell.result out out (sink_view g.O.Sink c.tell.new.out)
    (sink_view g.N.Sink c.args.note.now.sink) (sink_view g.N.Sink c.make_from.new.report.sink) (sink_view g.N.Sink c.tell.new.note)
    (omega arith) (same_faults old mid c.in-Err.ensures.untold)
    (memory_cause c.no_memory.result.status c.tell.result c.no_memory.ensures.status c.tell.ensures.stream c.tell.ensures.status)
