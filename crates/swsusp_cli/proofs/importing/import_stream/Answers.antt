use Rattle.std.proofs.Common.{inl, inr, subst}
use Rattle.command_kit.specs.Told.{RunResult}
use Rattle.swsusp_cli.specs.Imports.{imported, stopped}
use Rattle.command_kit.specs.Told.{IsTold}
use Rattle.command_kit.specs.View.{SinkView}
use Rattle.command_kit.specs.declared.status.Status.TheVariants.{Done}
use Rattle.swsusp_cli.proofs.Causes.{blameless, done_cause, stream_cause, told_cause}
use Rattle.swsusp_cli.proofs.importing.import_stream.Goals as goal

pub returns-in-Ok-clause-outcome : goal.returns-in-Ok-clause-outcome
returns-in-Ok-clause-outcome g c =
    let tell = c.tell in
    let out : SinkView = record { taken = g.O.Sink.taken c.args.out.now; flushed = g.O.Sink.flushed c.args.out.now; faults = g.O.Sink.faults c.args.out.now } in
    let note : SinkView = record { taken = g.N.Sink.taken c.args.note.now; flushed = g.N.Sink.flushed c.args.note.now; faults = g.N.Sink.faults c.args.note.now } in
    imported c.in-Ok.n c.in-Ok.ensures.ends (subst (λ (t : RunResult). IsTold t tell.result out (record { taken = g.O.Sink.taken tell.new.out; flushed = g.O.Sink.flushed tell.new.out; faults = g.O.Sink.faults tell.new.out }) note (record { taken = g.N.Sink.taken tell.new.note; flushed = g.N.Sink.flushed tell.new.note; faults = g.N.Sink.faults tell.new.note })) c.imported.ensures.told tell.ensures.told)

pub returns-in-Err-Session-clause-outcome : goal.returns-in-Err-Session-clause-outcome
returns-in-Err-Session-clause-outcome g c =
    let tell = c.tell-in-Err-Session in
    let out : SinkView = record { taken = g.O.Sink.taken c.args.out.now; flushed = g.O.Sink.flushed c.args.out.now; faults = g.O.Sink.faults c.args.out.now } in
    let note : SinkView = record { taken = g.N.Sink.taken c.args.note.now; flushed = g.N.Sink.flushed c.args.note.now; faults = g.N.Sink.faults c.args.note.now } in
    stopped c.in-Err-Session.stop (rw c.in-Err-Session.field-0-is at c.in-Err-Session.ensures.ends) (subst (λ (t : RunResult). IsTold t tell.result out (record { taken = g.O.Sink.taken tell.new.out; flushed = g.O.Sink.flushed tell.new.out; faults = g.O.Sink.faults tell.new.out }) note (record { taken = g.N.Sink.taken tell.new.note; flushed = g.N.Sink.flushed tell.new.note; faults = g.N.Sink.faults tell.new.note })) c.not_imported.ensures.told tell.ensures.told)

pub returns-in-Ok-clause-cause : goal.returns-in-Ok-clause-cause
returns-in-Ok-clause-cause g c = blameless c.tell.result c.imported.result.status Done done_cause c.imported.ensures.status (λ is. inr (c.tell.ensures.stream is)) c.tell.ensures.status

pub returns-in-Err-Session-clause-cause : goal.returns-in-Err-Session-clause-cause
returns-in-Err-Session-clause-cause g c = told_cause c.tell-in-Err-Session.result c.not_imported.result.status (λ is. inr (c.tell-in-Err-Session.ensures.stream is)) c.tell-in-Err-Session.ensures.status c.not_imported.ensures.cause (rw c.in-Err-Session.field-0-is at c.in-Err-Session.ensures.device)

pub returns-in-Err-Source-clause-cause : goal.returns-in-Err-Source-clause-cause
returns-in-Err-Source-clause-cause g c = stream_cause c.unread.result c.unread.ensures.status (inl ((rw c.in-Err-Source.field-0-is at c.in-Err-Source.ensures.source) tt))
