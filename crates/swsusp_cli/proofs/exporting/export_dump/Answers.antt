use Rattle.std.proofs.Common.{inr, List, ℕ, [], refl, subst, Err, ap}
use Rattle.dump_file.specs.Dump.{DumpValue}
use Rattle.command_kit.specs.Told.{RunResult}
use Rattle.swsusp_cli.specs.Exports.{no_dump, out_of_memory, unread, in_use, exported}
use Rattle.command_kit.specs.Told.{IsTold}
use Rattle.command_kit.specs.View.{SinkView}
use Rattle.command_kit.specs.declared.status.Status.TheVariants.{Done, Refused, Memory}
use Rattle.swsusp_cli.proofs.Causes.{blameless, done_cause, memory_cause, refused_cause, stop_cause}
use Rattle.swsusp_cli.proofs.Inputs.{without_dump}
use Rattle.swsusp_cli.proofs.exporting.export_dump.Goals as goal

pub returns-in-Err-clause-outcome : goal.returns-in-Err-clause-outcome
returns-in-Err-clause-outcome g c disk = without_dump _ _ _ c.tell.result c.in-Err.stop c.in-Err.ensures.lacks c.tell.ensures.told (refl {a = disk}) (λ e. c.in-Err.ensures.cause (ap Err e)) no_dump out_of_memory unread

pub returns-in-Err-saveable_set-clause-outcome : goal.returns-in-Err-saveable_set-clause-outcome
returns-in-Err-saveable_set-clause-outcome g c disk =
    let tell = c.tell-in-Err-saveable_set in
    let out : SinkView = record { taken = g.O.Sink.taken c.args.out.now; flushed = g.O.Sink.flushed c.args.out.now; faults = g.O.Sink.faults c.args.out.now } in
    let note : SinkView = record { taken = g.N.Sink.taken c.args.note.now; flushed = g.N.Sink.flushed c.args.note.now; faults = g.N.Sink.faults c.args.note.now } in
    out_of_memory (record { told = subst (λ (t : RunResult). IsTold t tell.result out (record { taken = g.O.Sink.taken tell.new.out; flushed = g.O.Sink.flushed tell.new.out; faults = g.O.Sink.faults tell.new.out }) note (record { taken = g.N.Sink.taken tell.new.note; flushed = g.N.Sink.flushed tell.new.note; faults = g.N.Sink.faults tell.new.note })) c.no_memory.ensures.told tell.ensures.told; untouched = refl {a = disk} })

pub returns-in-Err-empty_piece-clause-outcome : goal.returns-in-Err-empty_piece-clause-outcome
returns-in-Err-empty_piece-clause-outcome g c disk =
    let tell = c.tell-in-Err-empty_piece in
    let out : SinkView = record { taken = g.O.Sink.taken c.args.out.now; flushed = g.O.Sink.flushed c.args.out.now; faults = g.O.Sink.faults c.args.out.now } in
    let note : SinkView = record { taken = g.N.Sink.taken c.args.note.now; flushed = g.N.Sink.flushed c.args.note.now; faults = g.N.Sink.faults c.args.note.now } in
    out_of_memory (record { told = subst (λ (t : RunResult). IsTold t tell.result out (record { taken = g.O.Sink.taken tell.new.out; flushed = g.O.Sink.flushed tell.new.out; faults = g.O.Sink.faults tell.new.out }) note (record { taken = g.N.Sink.taken tell.new.note; flushed = g.N.Sink.flushed tell.new.note; faults = g.N.Sink.faults tell.new.note })) c.no_memory-in-Err-empty_piece.ensures.told tell.ensures.told; untouched = refl {a = disk} })

pub returns-in-Ok-begin-clause-outcome : goal.returns-in-Ok-begin-clause-outcome
returns-in-Ok-begin-clause-outcome g c disk =
    let tell = c.tell_stream in
    let out : SinkView = record { taken = g.O.Sink.taken c.args.out.now; flushed = g.O.Sink.flushed c.args.out.now; faults = g.O.Sink.faults c.args.out.now } in
    let note : SinkView = record { taken = g.N.Sink.taken c.args.note.now; flushed = g.N.Sink.flushed c.args.note.now; faults = g.N.Sink.faults c.args.note.now } in
    let dump : DumpValue = record { hw = c.in-Ok.dump.hw; memory = c.in-Ok.dump.frames } in
    exported dump (record {
      dump_is = record { says = λ bytes left. c.in-Ok.ensures.dump bytes left; over = c.in-Ok.ensures.end refl };
      none = c.in-Ok-begin.ensures.ok.0 refl;
      told = subst (λ (bytes : List ℕ). let t : RunResult = record { status = Done; out = bytes; note = [] } in IsTold t tell.result out (record { taken = g.O.Sink.taken tell.new.out; flushed = g.O.Sink.flushed tell.new.out; faults = g.O.Sink.faults tell.new.out }) note (record { taken = g.N.Sink.taken tell.new.note; flushed = g.N.Sink.flushed tell.new.note; faults = g.N.Sink.faults tell.new.note })) c.in-Ok-begin.ensures.stream tell.ensures.told;
      untouched = refl {a = disk};
    })

pub returns-clause-outcome : goal.returns-clause-outcome
returns-clause-outcome g c disk =
    let tell = c.tell-in-Err-begin in
    let out : SinkView = record { taken = g.O.Sink.taken c.args.out.now; flushed = g.O.Sink.flushed c.args.out.now; faults = g.O.Sink.faults c.args.out.now } in
    let note : SinkView = record { taken = g.N.Sink.taken c.args.note.now; flushed = g.N.Sink.flushed c.args.note.now; faults = g.N.Sink.faults c.args.note.now } in
    let dump : DumpValue = record { hw = c.in-Ok.dump.hw; memory = c.in-Ok.dump.frames } in
    in_use dump c.in-Err-begin.refusal.slot (record {
      dump_is = record { says = λ bytes left. c.in-Ok.ensures.dump bytes left; over = c.in-Ok.ensures.end refl };
      first = c.in-Err-begin.ensures.refused;
      told = subst (λ (t : RunResult). IsTold t tell.result out (record { taken = g.O.Sink.taken tell.new.out; flushed = g.O.Sink.flushed tell.new.out; faults = g.O.Sink.faults tell.new.out }) note (record { taken = g.N.Sink.taken tell.new.note; flushed = g.N.Sink.flushed tell.new.note; faults = g.N.Sink.faults tell.new.note })) c.in_use.ensures.told tell.ensures.told;
      untouched = refl {a = disk};
    })

pub returns-in-Err-clause-cause : goal.returns-in-Err-clause-cause
returns-in-Err-clause-cause g c = stop_cause c.tell.result c.tell.ensures.cause (λ e. c.in-Err.ensures.cause (ap Err e))

pub returns-in-Err-saveable_set-clause-cause : goal.returns-in-Err-saveable_set-clause-cause
returns-in-Err-saveable_set-clause-cause g c = blameless c.tell-in-Err-saveable_set.result c.no_memory.result.status Memory memory_cause c.no_memory.ensures.status (λ is. inr (c.tell-in-Err-saveable_set.ensures.stream is)) c.tell-in-Err-saveable_set.ensures.status

pub returns-in-Err-empty_piece-clause-cause : goal.returns-in-Err-empty_piece-clause-cause
returns-in-Err-empty_piece-clause-cause g c = blameless c.tell-in-Err-empty_piece.result c.no_memory-in-Err-empty_piece.result.status Memory memory_cause c.no_memory-in-Err-empty_piece.ensures.status (λ is. inr (c.tell-in-Err-empty_piece.ensures.stream is)) c.tell-in-Err-empty_piece.ensures.status

pub returns-in-Ok-begin-clause-cause : goal.returns-in-Ok-begin-clause-cause
returns-in-Ok-begin-clause-cause g c = blameless c.tell_stream.result Done Done done_cause refl (λ is. inr (c.tell_stream.ensures.stream is)) c.tell_stream.ensures.status

pub returns-clause-cause : goal.returns-clause-cause
returns-clause-cause g c = blameless c.tell-in-Err-begin.result c.in_use.result.status Refused refused_cause c.in_use.ensures.status (λ is. inr (c.tell-in-Err-begin.ensures.stream is)) c.tell-in-Err-begin.ensures.status
