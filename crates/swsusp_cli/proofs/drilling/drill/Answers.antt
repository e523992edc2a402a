use Rattle.std.proofs.Common.{◌≡◌, ◌≤◌, List, [], None, length, refl, ◌∙◌, subst, ap}
use Rattle.plain_machine.specs.Machine.{Hardware}
use Rattle.plain_machine.specs.declared.event.Event.{Event}
use Rattle.world_core.specs.StandsFor.{IsNewWorld}
use Rattle.script.specs.Drill.{drill_script, summary}
use Rattle.script.specs.Grammar.{ScriptValue}
use Rattle.script.specs.declared.tally.Tally.{Tally}
use Rattle.command_kit.specs.Told.{RunResult}
use Rattle.command_kit.specs.AnswerOf.{told_by}
use Rattle.swsusp_cli.specs.Drills.{out_of_memory, summed, summary_told}
use Rattle.swsusp_cli.specs.Playing.{HasPlayed}
use Rattle.swsusp_cli.specs.SettingUp.{IsNotSetUp, IsSetUp}
use Rattle.command_kit.specs.Told.{IsTold}
use Rattle.command_kit.specs.View.{DiskView, SinkView}
use Rattle.command_kit.specs.declared.status.Status.TheVariants.{Done, Memory}
use Rattle.swsusp_cli.proofs.Causes.{blameless, done_cause, memory_cause, told_cause}
use Rattle.swsusp_cli.proofs.Drilled.{drill_not_set_up, none_failed}
use Rattle.swsusp_cli.proofs.Replays.{replies_of, risen_of}
use Rattle.swsusp_cli.proofs.drilling.drill.Goals as goal

pub returns-in-Err-set_up-clause-outcome : goal.returns-in-Err-set_up-clause-outcome
returns-in-Err-set_up-clause-outcome g c = λ left read_faults.
    let tell = c.tell-in-Err-set_up in
    let out : SinkView = record { taken = g.O.Sink.taken c.args.out.now; flushed = g.O.Sink.flushed c.args.out.now; faults = g.O.Sink.faults c.args.out.now } in
    let note : SinkView = record { taken = g.N.Sink.taken c.args.note.now; flushed = g.N.Sink.flushed c.args.note.now; faults = g.N.Sink.faults c.args.note.now } in
    let before : DiskView = record { blocks = g.D.Disk.block_count c.args.disk.now; content = g.D.Disk.content c.args.disk.now; faults = g.D.Disk.faults c.args.disk.now; calls = g.D.Disk.calls c.args.disk.now; orders = g.D.Disk.orders c.args.disk.now } in
    let now : DiskView = record { blocks = g.D.Disk.block_count c.set_up.new.disk; content = g.D.Disk.content c.set_up.new.disk; faults = g.D.Disk.faults c.set_up.new.disk; calls = g.D.Disk.calls c.set_up.new.disk; orders = g.D.Disk.orders c.set_up.new.disk } in
    drill_not_set_up c.args.number _ _ tell.result c.in-Err-set_up.why (subst (λ (s : ScriptValue). IsNotSetUp s before now c.in-Err-set_up.why) c.in-Ok.ensures.script c.in-Err-set_up.ensures.outcome)
    (subst (λ (t : RunResult). IsTold t tell.result out (record { taken = g.O.Sink.taken tell.new.out; flushed = g.O.Sink.flushed tell.new.out; faults = g.O.Sink.faults tell.new.out }) note (record { taken = g.N.Sink.taken tell.new.note; flushed = g.N.Sink.flushed tell.new.note; faults = g.N.Sink.faults tell.new.note })) c.answer.ensures.told tell.ensures.told)

pub returns-clause-outcome : goal.returns-clause-outcome
returns-clause-outcome g c = λ left read_faults.
    let tell = c.tell-2 in
    let number = c.args.number in
    let script = c.in-Ok.script in
    let script_is = c.in-Ok.ensures.script in
    let out : SinkView = record { taken = g.O.Sink.taken c.args.out.now; flushed = g.O.Sink.flushed c.args.out.now; faults = g.O.Sink.faults c.args.out.now } in
    let note : SinkView = record { taken = g.N.Sink.taken c.args.note.now; flushed = g.N.Sink.flushed c.args.note.now; faults = g.N.Sink.faults c.args.note.now } in
    let before : DiskView = record { blocks = g.D.Disk.block_count c.args.disk.now; content = g.D.Disk.content c.args.disk.now; faults = g.D.Disk.faults c.args.disk.now; calls = g.D.Disk.calls c.args.disk.now; orders = g.D.Disk.orders c.args.disk.now } in
    let between : DiskView = record { blocks = g.D.Disk.block_count c.set_up.new.disk; content = g.D.Disk.content c.set_up.new.disk; faults = g.D.Disk.faults c.set_up.new.disk; calls = g.D.Disk.calls c.set_up.new.disk; orders = g.D.Disk.orders c.set_up.new.disk } in
    let now : DiskView = record { blocks = g.D.Disk.block_count c.play_through-tally.new.disk; content = g.D.Disk.content c.play_through-tally.new.disk; faults = g.D.Disk.faults c.play_through-tally.new.disk; calls = g.D.Disk.calls c.play_through-tally.new.disk; orders = g.D.Disk.orders c.play_through-tally.new.disk } in
    let set = subst (λ (s : ScriptValue). IsSetUp s before between) script_is c.in-Ok-set_up.ensures.outcome in
    let new = subst (λ (s : ScriptValue). IsNewWorld s.hardware None c.in-Ok-create.world) script_is (subst (λ (h : Hardware). IsNewWorld h None c.in-Ok-create.world) c.hardware.ensures c.in-Ok-create.ensures) in
    let rs = c.play_through-tally.ensures.played.0 in
    let was = subst (λ (events : List Event). HasPlayed c.in-Ok-create.world c.play_through-tally.new.world events rs between now) (c.events.ensures ∙ ap (λ (s : ScriptValue). s.events) script_is) c.play_through-tally.ensures.played.1 in
    let few = subst (λ (s : ScriptValue). length s.bad ≤ 630) script_is c.in-Ok.ensures.few_bad in
    let replies = replies_of (drill_script number) c.in-Ok-create.world c.play_through-tally.new.world (drill_script number).events rs before between now
    (g.met.D.Disk.well_formed c.args.disk.now) (g.met.D.Disk.well_formed c.set_up.new.disk) set new few was c.play_through-tally.ensures.hardware in
    let answer : told_by c.summed.result ≡ summary_told number rs = c.summed.ensures.told ∙ ap (λ (t : Tally). record { status = Done; out = summary number t; note = [] }) c.play_through-tally.ensures.played.2 in
    summed (record {
      roomy = set.roomy;
      replies = rs;
      are = replies;
      faultless = none_failed rs before.faults now.faults replies.faults;
      told = subst (λ (t : RunResult). IsTold t tell.result out (record { taken = g.O.Sink.taken tell.new.out; flushed = g.O.Sink.flushed tell.new.out; faults = g.O.Sink.faults tell.new.out }) note (record { taken = g.N.Sink.taken tell.new.note; flushed = g.N.Sink.flushed tell.new.note; faults = g.N.Sink.faults tell.new.note })) answer tell.ensures.told;
    })

pub returns-in-Err-clause-outcome : goal.returns-in-Err-clause-outcome
returns-in-Err-clause-outcome g c = λ left read_faults.
    let tell = c.tell in
    let out : SinkView = record { taken = g.O.Sink.taken c.args.out.now; flushed = g.O.Sink.flushed c.args.out.now; faults = g.O.Sink.faults c.args.out.now } in
    let note : SinkView = record { taken = g.N.Sink.taken c.args.note.now; flushed = g.N.Sink.flushed c.args.note.now; faults = g.N.Sink.faults c.args.note.now } in
    let before : DiskView = record { blocks = g.D.Disk.block_count c.args.disk.now; content = g.D.Disk.content c.args.disk.now; faults = g.D.Disk.faults c.args.disk.now; calls = g.D.Disk.calls c.args.disk.now; orders = g.D.Disk.orders c.args.disk.now } in
    out_of_memory (record {
      told = subst (λ (t : RunResult). IsTold t tell.result out (record { taken = g.O.Sink.taken tell.new.out; flushed = g.O.Sink.flushed tell.new.out; faults = g.O.Sink.faults tell.new.out }) note (record { taken = g.N.Sink.taken tell.new.note; flushed = g.N.Sink.flushed tell.new.note; faults = g.N.Sink.faults tell.new.note })) c.no_memory.ensures.told tell.ensures.told;
      untouched = refl {a = before};
    })

pub returns-in-Err-create-clause-outcome : goal.returns-in-Err-create-clause-outcome
returns-in-Err-create-clause-outcome g c = λ left read_faults.
    let tell = c.tell-in-Err-create in
    let out : SinkView = record { taken = g.O.Sink.taken c.args.out.now; flushed = g.O.Sink.flushed c.args.out.now; faults = g.O.Sink.faults c.args.out.now } in
    let note : SinkView = record { taken = g.N.Sink.taken c.args.note.now; flushed = g.N.Sink.flushed c.args.note.now; faults = g.N.Sink.faults c.args.note.now } in
    let before : DiskView = record { blocks = g.D.Disk.block_count c.args.disk.now; content = g.D.Disk.content c.args.disk.now; faults = g.D.Disk.faults c.args.disk.now; calls = g.D.Disk.calls c.args.disk.now; orders = g.D.Disk.orders c.args.disk.now } in
    out_of_memory (record {
      told = subst (λ (t : RunResult). IsTold t tell.result out (record { taken = g.O.Sink.taken tell.new.out; flushed = g.O.Sink.flushed tell.new.out; faults = g.O.Sink.faults tell.new.out }) note (record { taken = g.N.Sink.taken tell.new.note; flushed = g.N.Sink.flushed tell.new.note; faults = g.N.Sink.faults tell.new.note })) c.no_memory-in-Err-create.ensures.told tell.ensures.told;
      untouched = refl {a = before};
    })

pub returns-in-Err-clause-cause : goal.returns-in-Err-clause-cause
returns-in-Err-clause-cause g c = blameless c.tell.result c.no_memory.result.status Memory memory_cause c.no_memory.ensures.status c.tell.ensures.stream c.tell.ensures.status

pub returns-in-Err-create-clause-cause : goal.returns-in-Err-create-clause-cause
returns-in-Err-create-clause-cause g c = blameless c.tell-in-Err-create.result c.no_memory-in-Err-create.result.status Memory memory_cause c.no_memory-in-Err-create.ensures.status c.tell-in-Err-create.ensures.stream c.tell-in-Err-create.ensures.status

pub returns-in-Err-set_up-clause-cause : goal.returns-in-Err-set_up-clause-cause
returns-in-Err-set_up-clause-cause g c = told_cause c.tell-in-Err-set_up.result c.answer.result.status c.tell-in-Err-set_up.ensures.stream c.tell-in-Err-set_up.ensures.status c.answer.ensures.cause (risen_of c.in-Ok.script _ _ c.in-Err-set_up.why c.in-Err-set_up.ensures.outcome)

pub returns-clause-cause : goal.returns-clause-cause
returns-clause-cause g c = blameless c.tell-2.result c.summed.result.status Done done_cause c.summed.ensures.status c.tell-2.ensures.stream c.tell-2.ensures.status
