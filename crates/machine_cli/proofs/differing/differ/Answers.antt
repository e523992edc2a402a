use Rattle.std.proofs.Common.{inr, refl, subst, Err, ap}
use Rattle.dump_file.specs.Dump.{DumpValue}
use Rattle.command_kit.specs.Told.{RunResult}
use Rattle.command_kit.specs.Told.{IsTold}
use Rattle.command_kit.specs.View.{SinkView}
use Rattle.swsusp_cli.proofs.Causes.{told_cause}
use Rattle.machine_cli.specs.Compared.{compared}
use Rattle.machine_cli.proofs.Unread.{first_cause, lacks_first, lacks_second, second_cause}
use Rattle.machine_cli.proofs.differing.differ.Goals as goal

pub returns-in-Err-clause-outcome : goal.returns-in-Err-clause-outcome
returns-in-Err-clause-outcome g c = lacks_first _ _ _ c.tell.result _ _ _ _ c.in-Err.stop c.in-Err.ensures.lacks c.tell.ensures.told

pub returns-in-Err-dump_of_input-clause-outcome : goal.returns-in-Err-dump_of_input-clause-outcome
returns-in-Err-dump_of_input-clause-outcome g c =
    let a : DumpValue = record { hw = c.in-Ok.dump.hw; memory = c.in-Ok.dump.frames } in
    let tell = c.tell-in-Err-dump_of_input in
    lacks_second _ _ _ _ a tell.result _ _ _ _ c.in-Err-dump_of_input.stop (λ bytes left. c.in-Ok.ensures.dump bytes left, c.in-Ok.ensures.end refl) c.in-Err-dump_of_input.ensures.lacks tell.ensures.told

pub returns-clause-outcome : goal.returns-clause-outcome
returns-clause-outcome g c =
    let tell = c.tell-2 in
    let out : SinkView = record { taken = g.O.Sink.taken c.args.out.now; flushed = g.O.Sink.flushed c.args.out.now; faults = g.O.Sink.faults c.args.out.now } in
    let note : SinkView = record { taken = g.N.Sink.taken c.args.note.now; flushed = g.N.Sink.flushed c.args.note.now; faults = g.N.Sink.faults c.args.note.now } in
    let a : DumpValue = record { hw = c.in-Ok.dump.hw; memory = c.in-Ok.dump.frames } in
    let b : DumpValue = record { hw = c.in-Ok-dump_of_input.dump.hw; memory = c.in-Ok-dump_of_input.dump.frames } in
    compared a b c.first_difference.result (λ bytes left. c.in-Ok.ensures.dump bytes left, c.in-Ok.ensures.end refl) (λ bytes left. c.in-Ok-dump_of_input.ensures.dump bytes left, c.in-Ok-dump_of_input.ensures.end refl) (record { none = c.first_difference.ensures.none; first = c.first_difference.ensures.difference })
    (subst (λ (t : RunResult). IsTold t tell.result out (record { taken = g.O.Sink.taken tell.new.out; flushed = g.O.Sink.flushed tell.new.out; faults = g.O.Sink.faults tell.new.out }) note (record { taken = g.N.Sink.taken tell.new.note; flushed = g.N.Sink.flushed tell.new.note; faults = g.N.Sink.faults tell.new.note })) c.told_of.ensures.told tell.ensures.told)

pub returns-in-Err-clause-cause : goal.returns-in-Err-clause-cause
returns-in-Err-clause-cause g c = first_cause c.tell.result c.tell.ensures.cause (λ e. c.in-Err.ensures.cause (ap Err e))

pub returns-in-Err-dump_of_input-clause-cause : goal.returns-in-Err-dump_of_input-clause-cause
returns-in-Err-dump_of_input-clause-cause g c = second_cause c.tell-in-Err-dump_of_input.result c.tell-in-Err-dump_of_input.ensures.cause (λ e. c.in-Err-dump_of_input.ensures.cause (ap Err e))

pub returns-clause-cause : goal.returns-clause-cause
returns-clause-cause g c = told_cause c.tell-2.result c.told_of.result.status (λ is. inr (inr (c.tell-2.ensures.stream is))) c.tell-2.ensures.status c.told_of.ensures.cause (λ none. none)
