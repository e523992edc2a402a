use Rattle.std.proofs.Common.{inr, ◌∙◌, List, refl, subst}
use Rattle.plain_machine.specs.Machine.{Hardware}
use Rattle.plain_machine.specs.declared.event.Event.{Event}
use Rattle.command_kit.specs.Told.{IsTold}
use Rattle.command_kit.specs.View.{View, disk_view, sink_view, view}
use Rattle.command_kit.specs.declared.status.Status.TheVariants.{Done, Refused}
use Rattle.swsusp_cli.specs.Loads.{written_told}
use Rattle.swsusp_cli.specs.Playing.{HasPlayed}
use Rattle.swsusp_cli.proofs.Begun.{begun_by, cause_begun, since_begun}
use Rattle.swsusp_cli.proofs.Causes.{blameless, done_cause, refused_cause}
use Rattle.swsusp_cli.proofs.Prints.{told_as}
use Rattle.machine_cli.specs.Made.{IsMade, RunsNot, RunsWith, idle, unplayed, written}
use Rattle.machine_cli.proofs.Ending.{has_played, runs_not, runs_with}
use Rattle.machine_cli.proofs.making.make.Goals as goal

pub returns-in-Err-clause-outcome : goal.returns-in-Err-clause-outcome
returns-in-Err-clause-outcome g c = unplayed c.in-Err.ensures.outcome

pub returns-in-Some-clause-outcome : goal.returns-in-Some-clause-outcome
returns-in-Some-clause-outcome g c =
    let tell = c.tell_dump in
    let script = c.in-Ok.begun.0 in
    let begun = begun_by c.deref_mut.ensures.value c.in-Ok.ensures.outcome in
    let played = c.play_through.ensures in
    let rs = played.played.0 in
    let was = subst (λ (events : List Event). HasPlayed c.deref_mut.result.now c.play_through.new.world events rs (disk_view g.D.Disk c.begin.new.disk) (disk_view g.D.Disk c.play_through.new.disk)) c.events.ensures played.played.1 in
    let dump = c.in-Some.dump in
    let hw = played.hardware ∙ begun.new.hardware in
    let after : View = view g.I.Source g.O.Sink g.N.Sink g.D.Disk c.begin.new.input c.tell_dump.new.out c.tell_dump.new.note c.play_through.new.disk in
    since_begun begun (λ (x : View). IsMade x after tell.result) (written script dump.frames
    (has_played begun _ c.play_through.new.world rs refl (g.met.D.Disk.well_formed c.args.disk.now) (g.met.D.Disk.well_formed c.begin.new.disk) was played.hardware (RunsWith script.hardware dump.frames)
    (λ content end stands. runs_with c.play_through.new.world content end script.hardware dump.frames (c.in-Some.ensures.runs.0 refl) hw c.in-Some.ensures.frames stands))
    (subst (λ (h : Hardware). IsTold (written_told h dump.frames) tell.result (sink_view g.O.Sink c.begin.new.out) (sink_view g.O.Sink tell.new.out) (sink_view g.N.Sink c.begin.new.note) (sink_view g.N.Sink tell.new.note)) (c.in-Some.ensures.hardware ∙ hw) tell.ensures.told))

pub returns-clause-outcome : goal.returns-clause-outcome
returns-clause-outcome g c =
    let script = c.in-Ok.begun.0 in
    let begun = begun_by c.deref_mut.ensures.value c.in-Ok.ensures.outcome in
    let played = c.play_through.ensures in
    let rs = played.played.0 in
    let was = subst (λ (events : List Event). HasPlayed c.deref_mut.result.now c.play_through.new.world events rs (disk_view g.D.Disk c.begin.new.disk) (disk_view g.D.Disk c.play_through.new.disk)) c.events.ensures played.played.1 in
    let after : View = view g.I.Source g.O.Sink g.N.Sink g.D.Disk c.begin.new.input c.tell.new.out c.tell.new.note c.play_through.new.disk in
    since_begun begun (λ (x : View). IsMade x after c.tell.result) (idle script
    (has_played begun _ c.play_through.new.world rs refl (g.met.D.Disk.well_formed c.args.disk.now) (g.met.D.Disk.well_formed c.begin.new.disk) was played.hardware RunsNot
    (λ content end stands. runs_not c.play_through.new.world content end (c.in-None.ensures.idle refl) stands))
    (told_as c.idle.ensures.told c.tell.ensures.told))

pub returns-in-Err-clause-cause : goal.returns-in-Err-clause-cause
returns-in-Err-clause-cause g c = c.in-Err.ensures.cause

pub returns-in-Some-clause-cause : goal.returns-in-Some-clause-cause
returns-in-Some-clause-cause g c =
    cause_begun c.in-Ok.ensures.outcome
    (blameless c.tell_dump.result Done Done done_cause refl (λ is. inr (c.tell_dump.ensures.stream is)) c.tell_dump.ensures.status)

pub returns-clause-cause : goal.returns-clause-cause
returns-clause-cause g c =
    cause_begun c.in-Ok.ensures.outcome
    (blameless c.tell.result c.idle.result.status Refused refused_cause c.idle.ensures.status (λ is. inr (c.tell.ensures.stream is)) c.tell.ensures.status)
