use Rattle.std.proofs.Common.{inr, refl, subst, Err, ap}
use Rattle.dump_file.specs.Dump.{DumpValue}
use Rattle.command_kit.specs.Told.{RunResult}
use Rattle.swsusp_cli.specs.Loads.{written_told}
use Rattle.command_kit.specs.Told.{IsTold}
use Rattle.command_kit.specs.View.{SinkView}
use Rattle.command_kit.specs.declared.status.Status.TheVariants.{Done}
use Rattle.command_kit.specs.declared.status.Status.TheVariants as variant
use Rattle.swsusp_cli.proofs.Causes.{blameless, done_cause, memory_cause, stop_cause}
use Rattle.swsusp_cli.proofs.Inputs.{without_dump}
use Rattle.dump_tools.specs.KeptSlots.{kept_slot}
use Rattle.plain_machine.specs.Machine.{Hardware, Memory}
use Rattle.plain_machine.specs.FreshMemory.{fresh_memory}
use Rattle.machine_cli.specs.Freshened.{no_dump, out_of_memory, unread, freshened}
use Rattle.machine_cli.proofs.loading.loader.Goals as goal

pub returns-in-Err-clause-outcome : goal.returns-in-Err-clause-outcome
returns-in-Err-clause-outcome g c disk = without_dump _ _ _ c.tell.result c.in-Err.stop c.in-Err.ensures.lacks c.tell.ensures.told (refl {a = disk}) (λ e. c.in-Err.ensures.cause (ap Err e)) no_dump out_of_memory unread

pub returns-in-Ok-make_fresh-clause-outcome : goal.returns-in-Ok-make_fresh-clause-outcome
returns-in-Ok-make_fresh-clause-outcome g c disk =
    let tell = c.tell_dump in
    let out : SinkView = record { taken = g.O.Sink.taken c.args.out.now; flushed = g.O.Sink.flushed c.args.out.now; faults = g.O.Sink.faults c.args.out.now } in
    let note : SinkView = record { taken = g.N.Sink.taken c.args.note.now; flushed = g.N.Sink.flushed c.args.note.now; faults = g.N.Sink.faults c.args.note.now } in
    let dump : DumpValue = record { hw = c.in-Ok.dump.hw; memory = c.in-Ok.dump.frames } in
    freshened dump (record { says = λ bytes left. c.in-Ok.ensures.dump bytes left; over = c.in-Ok.ensures.end refl })
    (subst (λ (h : Hardware). IsTold (written_told h (fresh_memory c.in-Ok.dump.hw (kept_slot c.in-Ok.dump.hw c.in-Ok.dump.frames))) tell.result out (record { taken = g.O.Sink.taken tell.new.out; flushed = g.O.Sink.flushed tell.new.out; faults = g.O.Sink.faults tell.new.out }) note (record { taken = g.N.Sink.taken tell.new.note; flushed = g.N.Sink.flushed tell.new.note; faults = g.N.Sink.faults tell.new.note })) c.make_fresh.ensures.hardware
    (subst (λ (m : Memory). IsTold (written_told c.make_fresh.new.dump.hw m) tell.result out (record { taken = g.O.Sink.taken tell.new.out; flushed = g.O.Sink.flushed tell.new.out; faults = g.O.Sink.faults tell.new.out }) note (record { taken = g.N.Sink.taken tell.new.note; flushed = g.N.Sink.flushed tell.new.note; faults = g.N.Sink.faults tell.new.note })) c.in-Ok-make_fresh.ensures.fresh tell.ensures.told))

pub returns-clause-outcome : goal.returns-clause-outcome
returns-clause-outcome g c disk =
    let tell = c.tell-in-Err-make_fresh in
    let out : SinkView = record { taken = g.O.Sink.taken c.args.out.now; flushed = g.O.Sink.flushed c.args.out.now; faults = g.O.Sink.faults c.args.out.now } in
    let note : SinkView = record { taken = g.N.Sink.taken c.args.note.now; flushed = g.N.Sink.flushed c.args.note.now; faults = g.N.Sink.faults c.args.note.now } in
    out_of_memory (record { told = subst (λ (t : RunResult). IsTold t tell.result out (record { taken = g.O.Sink.taken tell.new.out; flushed = g.O.Sink.flushed tell.new.out; faults = g.O.Sink.faults tell.new.out }) note (record { taken = g.N.Sink.taken tell.new.note; flushed = g.N.Sink.flushed tell.new.note; faults = g.N.Sink.faults tell.new.note })) c.no_memory.ensures.told tell.ensures.told; untouched = refl {a = disk} })

pub returns-in-Err-clause-cause : goal.returns-in-Err-clause-cause
returns-in-Err-clause-cause g c = stop_cause c.tell.result c.tell.ensures.cause (λ e. c.in-Err.ensures.cause (ap Err e))

pub returns-in-Ok-make_fresh-clause-cause : goal.returns-in-Ok-make_fresh-clause-cause
returns-in-Ok-make_fresh-clause-cause g c = blameless c.tell_dump.result Done Done done_cause refl (λ is. inr (c.tell_dump.ensures.stream is)) c.tell_dump.ensures.status

pub returns-clause-cause : goal.returns-clause-cause
returns-clause-cause g c = blameless c.tell-in-Err-make_fresh.result c.no_memory.result.status variant.Memory memory_cause c.no_memory.ensures.status (λ is. inr (c.tell-in-Err-make_fresh.ensures.stream is)) c.tell-in-Err-make_fresh.ensures.status
