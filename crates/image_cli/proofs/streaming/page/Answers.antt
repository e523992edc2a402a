use Rattle.std.proofs.Common.{refl, ap, subst, arith}
use Rattle.command_kit.specs.Told.{RunResult}
use Rattle.command_kit.specs.Told.{IsTold}
use Rattle.command_kit.specs.View.{sink_view}
use Rattle.image_cli.specs.Pages.{ended, no_memory}
use Rattle.image_cli.specs.Printed.{printer_view}
use Rattle.image_cli.proofs.Noting.{found_counted}
use Rattle.image_cli.proofs.Causes.{cause_later, memory_cause}
use Rattle.image_cli.proofs.streaming.page.Goals as goal

pub returns-in-Ok-clause-outcome : goal.returns-in-Ok-clause-outcome
returns-in-Ok-clause-outcome g c =
    ended c.in-Ok.found c.page_of.new.into (printer_view g.N.Sink c.page_of.new.report) (sink_view g.N.Sink c.page_of.new.report.sink) c.in-Ok.ensures.found (record { text = refl; faults = refl }) c.tell_found.ensures.told

pub returns-in-Ok-clause-cause : goal.returns-in-Ok-clause-cause
returns-in-Ok-clause-cause g c =
    let old = printer_view g.N.Sink c.args.note.now in
    let mid = printer_view g.N.Sink c.page_of.new.report in
    let out = sink_view g.O.Sink c.args.out.now in
    let counted = found_counted (g.D.Disk.content c.args.disk.now) (g.D.Disk.block_count c.args.disk.now) c.args.header (g.D.Disk.faults c.args.disk.now) (g.D.Disk.faults c.page_of.new.disk) old mid c.args.frame c.page_of.new.into c.in-Ok.found c.in-Ok.ensures.found in
    cause_later c.tell_found.result out out (sink_view g.O.Sink c.tell_found.new.out)
    (sink_view g.N.Sink c.args.note.now.sink) (sink_view g.N.Sink c.page_of.new.report.sink) (sink_view g.N.Sink c.tell_found.new.note)
    (omega arith) counted c.tell_found.ensures.cause

pub returns-in-Err-clause-outcome : goal.returns-in-Err-clause-outcome
returns-in-Err-clause-outcome g c =
    let noted = sink_view g.N.Sink c.page_of.new.report.sink in
    let told = subst (λ (r : RunResult). IsTold r c.tell.result (sink_view g.O.Sink c.args.out.now) (sink_view g.O.Sink c.tell.new.out) noted (sink_view g.N.Sink c.tell.new.note)) c.no_memory.ensures.told c.tell.ensures.told in
    let untold = c.in-Err.ensures.untold in
    no_memory noted (record { text = ap (λ t. t.text) untold; faults = ap (λ t. t.faults) untold }) told

pub returns-in-Err-clause-cause : goal.returns-in-Err-clause-cause
returns-in-Err-clause-cause g c =
    let out = sink_view g.O.Sink c.args.out.now in
    let faults = ap (λ t. t.faults) c.in-Err.ensures.untold in
    cause_later c.tell.result out out (sink_view g.O.Sink c.tell.new.out)
    (sink_view g.N.Sink c.args.note.now.sink) (sink_view g.N.Sink c.page_of.new.report.sink) (sink_view g.N.Sink c.tell.new.note)
    (omega arith) (omega (arith, faults))
    (memory_cause c.no_memory.result.status c.tell.result c.no_memory.ensures.status c.tell.ensures.stream c.tell.ensures.status)
