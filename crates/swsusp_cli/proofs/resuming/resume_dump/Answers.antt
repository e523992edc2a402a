use Rattle.std.proofs.Common.{refl, subst, inr, Err, ap}
use Rattle.dump_file.specs.Dump.{DumpValue}
use Rattle.command_kit.specs.Told.{RunResult}
use Rattle.swsusp_cli.specs.Loads.{no_dump, out_of_memory, unread, answered}
use Rattle.command_kit.specs.Told.{IsTold}
use Rattle.command_kit.specs.View.{DiskView, SinkView}
use Rattle.command_kit.specs.declared.status.Status.TheVariants as status
use Rattle.plain_machine.specs.Machine.{IsHardware, Memory}
use Rattle.world_core.specs.StandsFor.{shown}
use Rattle.command_core.specs.Runs.{IsResumption}
use Rattle.swsusp_cli.specs.Loads.{resume_told}
use Rattle.command_kit.proofs.Causes.{cause_since}
use Rattle.swsusp_cli.proofs.Causes.{blameless, memory_cause, stop_cause}
use Rattle.swsusp_cli.proofs.Dumped.{ran_as}
use Rattle.swsusp_cli.proofs.Inputs.{without_dump}
use Rattle.swsusp_cli.proofs.resuming.resume_dump.Goals as goal

pub returns-in-Err-clause-outcome : goal.returns-in-Err-clause-outcome
returns-in-Err-clause-outcome g c = without_dump _ _ _ c.tell.result c.in-Err.stop c.in-Err.ensures.lacks c.tell.ensures.told refl (λ e. c.in-Err.ensures.cause (ap Err e)) (λ fault is. no_dump fault is refl) (λ is. out_of_memory is refl) (λ is. unread is refl)

pub returns-in-Err-machine_of-clause-outcome : goal.returns-in-Err-machine_of-clause-outcome
returns-in-Err-machine_of-clause-outcome g c =
    let tell = c.tell-in-Err-machine_of in
    let out : SinkView = record { taken = g.O.Sink.taken c.args.out.now; flushed = g.O.Sink.flushed c.args.out.now; faults = g.O.Sink.faults c.args.out.now } in
    let note : SinkView = record { taken = g.N.Sink.taken c.args.note.now; flushed = g.N.Sink.flushed c.args.note.now; faults = g.N.Sink.faults c.args.note.now } in
    let before : DiskView = record { blocks = g.D.Disk.block_count c.args.disk.now; content = g.D.Disk.content c.args.disk.now; faults = g.D.Disk.faults c.args.disk.now; calls = g.D.Disk.calls c.args.disk.now; orders = g.D.Disk.orders c.args.disk.now } in
    out_of_memory (record {
      told = subst (λ (t : RunResult). IsTold t tell.result out (record { taken = g.O.Sink.taken tell.new.out; flushed = g.O.Sink.flushed tell.new.out; faults = g.O.Sink.faults tell.new.out }) note (record { taken = g.N.Sink.taken tell.new.note; flushed = g.N.Sink.flushed tell.new.note; faults = g.N.Sink.faults tell.new.note })) c.no_memory.ensures.told tell.ensures.told;
      untouched = refl {a = before};
    }) refl

pub returns-clause-outcome : goal.returns-clause-outcome
returns-clause-outcome g c =
    let tell = c.tell_end in
    let out : SinkView = record { taken = g.O.Sink.taken c.args.out.now; flushed = g.O.Sink.flushed c.args.out.now; faults = g.O.Sink.faults c.args.out.now } in
    let note : SinkView = record { taken = g.N.Sink.taken c.args.note.now; flushed = g.N.Sink.flushed c.args.note.now; faults = g.N.Sink.faults c.args.note.now } in
    let dump : DumpValue = record { hw = c.in-Ok.dump.hw; memory = c.in-Ok.dump.frames } in
    let made = c.in-Ok-machine_of.ensures in
    let ended = c.resume-ended in
    let given = c.frames.ensures.frames in
    answered dump ended.result (record {
      dump_is = record { says = λ bytes left. c.in-Ok.ensures.dump bytes left; over = c.in-Ok.ensures.end refl };
      machine = subst IsHardware made.is made.hardware;
      shown = shown c.resume-ended.new.world;
      told = subst (λ (m : Memory). IsTold (resume_told dump.hw m ended.result) tell.result out (record { taken = g.O.Sink.taken tell.new.out; flushed = g.O.Sink.flushed tell.new.out; faults = g.O.Sink.faults tell.new.out }) note (record { taken = g.N.Sink.taken tell.new.note; flushed = g.N.Sink.flushed tell.new.note; faults = g.N.Sink.faults tell.new.note })) given tell.ensures.told;
      ran = ran_as g.D.Disk (IsResumption c.args.check ended.result) _ dump.hw _ dump.memory _ c.args.disk.now ended.new.disk made.is made.frames ended.ensures.ran;
      orders = ended.ensures.orders;
    })

pub returns-in-Err-clause-cause : goal.returns-in-Err-clause-cause
returns-in-Err-clause-cause g c = stop_cause c.tell.result c.tell.ensures.cause (λ e. c.in-Err.ensures.cause (ap Err e))

pub returns-in-Err-machine_of-clause-cause : goal.returns-in-Err-machine_of-clause-cause
returns-in-Err-machine_of-clause-cause g c = blameless c.tell-in-Err-machine_of.result c.no_memory.result.status status.Memory memory_cause c.no_memory.ensures.status (λ is. inr (c.tell-in-Err-machine_of.ensures.stream is)) c.tell-in-Err-machine_of.ensures.status

pub returns-clause-cause : goal.returns-clause-cause
returns-clause-cause g c = cause_since c.tell_end.result (λ outputs. inr outputs) c.resume-ended.ensures.cause c.tell_end.ensures.cause
