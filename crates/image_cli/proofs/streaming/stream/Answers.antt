use Rattle.std.proofs.Common.{refl, ap, subst, inl, arith}
use Rattle.command_kit.specs.Causes.{SinksFail}
use Rattle.command_kit.specs.Told.{RunResult}
use Rattle.command_kit.specs.Told.{IsTold}
use Rattle.command_kit.specs.View.{sink_view}
use Rattle.image_stream.specs.Streamed.{IsStopped}
use Rattle.image_cli.specs.Printed.{printer_view}
use Rattle.image_cli.specs.Streams.{cut_short, ended, no_memory}
use Rattle.image_cli.proofs.Noting.{streamed_counted}
use Rattle.image_cli.proofs.Causes.{cause_later, memory_cause, stream_blames, told_cause}
use Rattle.image_cli.proofs.streaming.stream.Goals as goal

pub returns-in-Ok-clause-outcome : goal.returns-in-Ok-clause-outcome
returns-in-Ok-clause-outcome g c =
    let mid = sink_view g.O.Sink c.stream.new.out in
    let noted = sink_view g.N.Sink c.stream.new.report.sink in
    let told = subst (λ (r : RunResult). IsTold r c.tell.result mid (sink_view g.O.Sink c.tell.new.out) noted (sink_view g.N.Sink c.tell.new.note)) c.streamed_told.ensures.told c.tell.ensures.told in
    ended c.in-Ok.streamed (printer_view g.N.Sink c.stream.new.report) mid noted c.in-Ok.ensures.streamed c.stream.ensures.counted (record { text = refl; faults = refl }) told

pub returns-in-Ok-clause-cause : goal.returns-in-Ok-clause-cause
returns-in-Ok-clause-cause g c =
    let old = printer_view g.N.Sink c.args.note.now in
    let mid = printer_view g.N.Sink c.stream.new.report in
    let counted = streamed_counted (g.D.Disk.content c.args.disk.now) (g.D.Disk.block_count c.args.disk.now) c.args.header (g.D.Disk.faults c.args.disk.now) (g.D.Disk.faults c.stream.new.disk) old mid (g.O.Sink.taken c.args.out.now) (g.O.Sink.taken c.stream.new.out) c.in-Ok.streamed c.in-Ok.ensures.streamed in
    cause_later c.tell.result (sink_view g.O.Sink c.args.out.now) (sink_view g.O.Sink c.stream.new.out) (sink_view g.O.Sink c.tell.new.out)
    (sink_view g.N.Sink c.args.note.now.sink) (sink_view g.N.Sink c.stream.new.report.sink) (sink_view g.N.Sink c.tell.new.note)
    c.stream.ensures.counted counted
    (told_cause c.streamed_told.result.status c.tell.result c.streamed_told.ensures.cause c.tell.ensures.stream c.tell.ensures.status)

pub returns-in-Err-Memory-clause-outcome : goal.returns-in-Err-Memory-clause-outcome
returns-in-Err-Memory-clause-outcome g c =
    let mid = sink_view g.O.Sink c.stream.new.out in
    let noted = sink_view g.N.Sink c.stream.new.report.sink in
    let told = subst (λ (r : RunResult). IsTold r c.tell-in-Err-Memory.result mid (sink_view g.O.Sink c.tell-in-Err-Memory.new.out) noted (sink_view g.N.Sink c.tell-in-Err-Memory.new.note)) c.no_memory.ensures.told c.tell-in-Err-Memory.ensures.told in
    let stopped = subst (IsStopped (g.D.Disk.content c.args.disk.now) (g.D.Disk.block_count c.args.disk.now) c.args.header (g.O.Sink.faults c.args.out.now) (g.O.Sink.faults c.stream.new.out) (g.O.Sink.taken c.args.out.now) (g.O.Sink.taken c.stream.new.out)) c.in-Err-Memory.field-0-is c.in-Err-Memory.ensures.stopped in
    let untold = c.in-Err-Memory.ensures.untold in
    no_memory mid noted stopped c.stream.ensures.counted (record { text = ap (λ t. t.text) untold; faults = ap (λ t. t.faults) untold }) told

pub returns-in-Err-Memory-clause-cause : goal.returns-in-Err-Memory-clause-cause
returns-in-Err-Memory-clause-cause g c =
    let faults = ap (λ t. t.faults) c.in-Err-Memory.ensures.untold in
    cause_later c.tell-in-Err-Memory.result (sink_view g.O.Sink c.args.out.now) (sink_view g.O.Sink c.stream.new.out) (sink_view g.O.Sink c.tell-in-Err-Memory.new.out)
    (sink_view g.N.Sink c.args.note.now.sink) (sink_view g.N.Sink c.stream.new.report.sink) (sink_view g.N.Sink c.tell-in-Err-Memory.new.note)
    c.stream.ensures.counted (omega (arith, faults))
    (memory_cause c.no_memory.result.status c.tell-in-Err-Memory.result c.no_memory.ensures.status c.tell-in-Err-Memory.ensures.stream c.tell-in-Err-Memory.ensures.status)

pub returns-in-Err-Sink-clause-outcome : goal.returns-in-Err-Sink-clause-outcome
returns-in-Err-Sink-clause-outcome g c =
    let stopped = subst (IsStopped (g.D.Disk.content c.args.disk.now) (g.D.Disk.block_count c.args.disk.now) c.args.header (g.O.Sink.faults c.args.out.now) (g.O.Sink.faults c.stream.new.out) (g.O.Sink.taken c.args.out.now) (g.O.Sink.taken c.stream.new.out)) c.in-Err-Sink.field-0-is c.in-Err-Sink.ensures.stopped in
    let untold = c.in-Err-Sink.ensures.untold in
    cut_short (sink_view g.N.Sink c.stream.new.report.sink) c.cut_short.ensures.status stopped.1 stopped.0 (record { text = ap (λ t. t.text) untold; faults = ap (λ t. t.faults) untold }) c.cut_short.ensures.noted

pub returns-in-Err-Sink-clause-cause : goal.returns-in-Err-Sink-clause-cause
returns-in-Err-Sink-clause-cause g c =
    let stopped = subst (IsStopped (g.D.Disk.content c.args.disk.now) (g.D.Disk.block_count c.args.disk.now) c.args.header (g.O.Sink.faults c.args.out.now) (g.O.Sink.faults c.stream.new.out) (g.O.Sink.taken c.args.out.now) (g.O.Sink.taken c.stream.new.out)) c.in-Err-Sink.field-0-is c.in-Err-Sink.ensures.stopped in
    let out = sink_view g.O.Sink c.args.out.now in
    let last = sink_view g.O.Sink c.stream.new.out in
    let note = sink_view g.N.Sink c.args.note.now.sink in
    let noted = sink_view g.N.Sink c.cut_short.new.note in
    stream_blames {fails = SinksFail out last note noted} c.cut_short.result c.cut_short.ensures.status (inl stopped.0)
