use Rattle.std.proofs.Common.{inl, inr, subst, sym}
use Rattle.command_kit.specs.Told.{RunResult}
use Rattle.swsusp_cli.specs.Stops.{IsStopTold}
use Rattle.command_kit.specs.Told.{IsTold}
use Rattle.command_kit.specs.View.{SinkView}
use Rattle.swsusp_cli.specs.declared.stop.Stop.{Stop}
use Rattle.command_kit.specs.declared.status.Status.TheVariants.{Input, Memory}
use Rattle.swsusp_cli.proofs.Causes.{blameless, input_cause, memory_cause, stream_cause}
use Rattle.swsusp_cli.proofs.stop.Stop.tell.Goals as goal

pub returns-in-Script-clause-told : goal.returns-in-Script-clause-told
returns-in-Script-clause-told g c =
    let tell = c.tell-in-Script in
    let out : SinkView = record { taken = g.O.Sink.taken c.args.out.now; flushed = g.O.Sink.flushed c.args.out.now; faults = g.O.Sink.faults c.args.out.now } in
    let out' : SinkView = record { taken = g.O.Sink.taken tell.new.out; flushed = g.O.Sink.flushed tell.new.out; faults = g.O.Sink.faults tell.new.out } in
    let note : SinkView = record { taken = g.N.Sink.taken c.args.note.now; flushed = g.N.Sink.flushed c.args.note.now; faults = g.N.Sink.faults c.args.note.now } in
    let note' : SinkView = record { taken = g.N.Sink.taken tell.new.note; flushed = g.N.Sink.flushed tell.new.note; faults = g.N.Sink.faults tell.new.note } in
    subst (λ (stop : Stop). IsStopTold stop tell.result out out' note note') (sym c.in-Script.is)
    (subst (λ (told : RunResult). IsTold told tell.result out out' note note') c.no_script.ensures.told tell.ensures.told)

pub returns-in-Source-clause-cause : goal.returns-in-Source-clause-cause
returns-in-Source-clause-cause g c = stream_cause c.unread.result c.unread.ensures.status (inl c.in-Source.is)

pub returns-in-Memory-clause-cause : goal.returns-in-Memory-clause-cause
returns-in-Memory-clause-cause g c = blameless c.tell.result c.no_memory.result.status Memory memory_cause c.no_memory.ensures.status (λ is. inr (c.tell.ensures.stream is)) c.tell.ensures.status

pub returns-in-Script-clause-cause : goal.returns-in-Script-clause-cause
returns-in-Script-clause-cause g c = blameless c.tell-in-Script.result c.no_script.result.status Input input_cause c.no_script.ensures.status (λ is. inr (c.tell-in-Script.ensures.stream is)) c.tell-in-Script.ensures.status

pub returns-in-Dump-clause-cause : goal.returns-in-Dump-clause-cause
returns-in-Dump-clause-cause g c = blameless c.tell-in-Dump.result c.no_dump.result.status Input input_cause c.no_dump.ensures.status (λ is. inr (c.tell-in-Dump.ensures.stream is)) c.tell-in-Dump.ensures.status
