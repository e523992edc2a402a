use Rattle.std.proofs.Common.{inr, refl, subst, Err, ap}
use Rattle.dump_file.specs.Dump.{DumpValue}
use Rattle.command_kit.specs.Told.{RunResult}
use Rattle.command_kit.specs.Told.{IsTold}
use Rattle.command_kit.specs.View.{SinkView}
use Rattle.command_kit.specs.declared.status.Status.TheVariants.{Memory}
use Rattle.swsusp_cli.proofs.Causes.{blameless, memory_cause, stop_cause, told_cause}
use Rattle.swsusp_cli.proofs.Inputs.{without_dump}
use Rattle.machine_cli.specs.Checked.{no_dump, out_of_memory, unread, foretold}
use Rattle.machine_cli.proofs.Foretold.{few_more, foretold_by}
use Rattle.machine_cli.proofs.checking.check.Goals as goal

pub returns-in-Err-clause-outcome : goal.returns-in-Err-clause-outcome
returns-in-Err-clause-outcome g c = without_dump _ _ _ c.tell.result c.in-Err.stop c.in-Err.ensures.lacks c.tell.ensures.told refl (λ e. c.in-Err.ensures.cause (ap Err e)) no_dump
    (λ short. out_of_memory (record { told = short.told; only_read = record { content = refl; orders = refl; calls = few_more _ } })) unread

pub returns-in-Err-machine_of-clause-outcome : goal.returns-in-Err-machine_of-clause-outcome
returns-in-Err-machine_of-clause-outcome g c =
    let tell = c.tell-in-Err-machine_of in
    let out : SinkView = record { taken = g.O.Sink.taken c.args.out.now; flushed = g.O.Sink.flushed c.args.out.now; faults = g.O.Sink.faults c.args.out.now } in
    let note : SinkView = record { taken = g.N.Sink.taken c.args.note.now; flushed = g.N.Sink.flushed c.args.note.now; faults = g.N.Sink.faults c.args.note.now } in
    out_of_memory (record {
      told = subst (λ (t : RunResult). IsTold t tell.result out (record { taken = g.O.Sink.taken tell.new.out; flushed = g.O.Sink.flushed tell.new.out; faults = g.O.Sink.faults tell.new.out }) note (record { taken = g.N.Sink.taken tell.new.note; flushed = g.N.Sink.flushed tell.new.note; faults = g.N.Sink.faults tell.new.note })) c.no_memory.ensures.told tell.ensures.told;
      only_read = record { content = refl; orders = refl; calls = few_more _ };
    })

pub returns-in-Ok-would_resume-clause-outcome : goal.returns-in-Ok-would_resume-clause-outcome
returns-in-Ok-would_resume-clause-outcome g c =
    let tell = c.tell-in-Ok-would_resume in
    let out : SinkView = record { taken = g.O.Sink.taken c.args.out.now; flushed = g.O.Sink.flushed c.args.out.now; faults = g.O.Sink.faults c.args.out.now } in
    let note : SinkView = record { taken = g.N.Sink.taken c.args.note.now; flushed = g.N.Sink.flushed c.args.note.now; faults = g.N.Sink.faults c.args.note.now } in
    let dump : DumpValue = record { hw = c.in-Ok.dump.hw; memory = c.in-Ok.dump.frames } in
    let made = c.in-Ok-machine_of.ensures in
    foretold dump c.would_resume.new.world.frames c.in-Ok-would_resume.ended (record {
      dump_is = record { says = λ bytes left. c.in-Ok.ensures.dump bytes left; over = c.in-Ok.ensures.end refl };
      told = subst (λ (t : RunResult). IsTold t tell.result out (record { taken = g.O.Sink.taken tell.new.out; flushed = g.O.Sink.flushed tell.new.out; faults = g.O.Sink.faults tell.new.out }) note (record { taken = g.N.Sink.taken tell.new.note; flushed = g.N.Sink.flushed tell.new.note; faults = g.N.Sink.faults tell.new.note })) c.foretold.ensures.told tell.ensures.told;
      foretells = λ content told original. foretold_by _ _ dump.hw dump.memory made.is made.frames _ content c.would_resume.new.world.frames c.in-Ok-would_resume.ended original (c.in-Ok-would_resume.ensures.resumed content told);
      only_read = record { content = c.would_resume.ensures.untouched; orders = c.would_resume.ensures.orders; calls = c.would_resume.ensures.calls };
    })

pub returns-clause-outcome : goal.returns-clause-outcome
returns-clause-outcome g c =
    let tell = c.tell-in-Err-would_resume in
    let out : SinkView = record { taken = g.O.Sink.taken c.args.out.now; flushed = g.O.Sink.flushed c.args.out.now; faults = g.O.Sink.faults c.args.out.now } in
    let note : SinkView = record { taken = g.N.Sink.taken c.args.note.now; flushed = g.N.Sink.flushed c.args.note.now; faults = g.N.Sink.faults c.args.note.now } in
    out_of_memory (record {
      told = subst (λ (t : RunResult). IsTold t tell.result out (record { taken = g.O.Sink.taken tell.new.out; flushed = g.O.Sink.flushed tell.new.out; faults = g.O.Sink.faults tell.new.out }) note (record { taken = g.N.Sink.taken tell.new.note; flushed = g.N.Sink.flushed tell.new.note; faults = g.N.Sink.faults tell.new.note })) c.no_memory-in-Err-would_resume.ensures.told tell.ensures.told;
      only_read = record { content = c.would_resume.ensures.untouched; orders = c.would_resume.ensures.orders; calls = c.would_resume.ensures.calls };
    })

pub returns-in-Err-clause-cause : goal.returns-in-Err-clause-cause
returns-in-Err-clause-cause g c = stop_cause c.tell.result c.tell.ensures.cause (λ e. c.in-Err.ensures.cause (ap Err e))

pub returns-in-Err-machine_of-clause-cause : goal.returns-in-Err-machine_of-clause-cause
returns-in-Err-machine_of-clause-cause g c = blameless c.tell-in-Err-machine_of.result c.no_memory.result.status Memory memory_cause c.no_memory.ensures.status (λ is. inr (c.tell-in-Err-machine_of.ensures.stream is)) c.tell-in-Err-machine_of.ensures.status

pub returns-in-Ok-would_resume-clause-cause : goal.returns-in-Ok-would_resume-clause-cause
returns-in-Ok-would_resume-clause-cause g c = told_cause c.tell-in-Ok-would_resume.result c.foretold.result.status (λ is. inr (c.tell-in-Ok-would_resume.ensures.stream is)) c.tell-in-Ok-would_resume.ensures.status c.foretold.ensures.cause c.in-Ok-would_resume.ensures.cause

pub returns-clause-cause : goal.returns-clause-cause
returns-clause-cause g c = blameless c.tell-in-Err-would_resume.result c.no_memory-in-Err-would_resume.result.status Memory memory_cause c.no_memory-in-Err-would_resume.ensures.status (λ is. inr (c.tell-in-Err-would_resume.ensures.stream is)) c.tell-in-Err-would_resume.ensures.status
