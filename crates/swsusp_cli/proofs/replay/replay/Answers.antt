use Rattle.std.proofs.Common.{inl, inr, List, refl, subst, take}
use Rattle.plain_machine.specs.declared.event.Event.{Event}
use Rattle.command_kit.specs.View.{View, disk_view, sink_view, view}
use Rattle.command_kit.specs.declared.status.Status.TheVariants.{Done}
use Rattle.swsusp_cli.specs.Outcome.{IsReplayed, cut_off, unplayed}
use Rattle.swsusp_cli.specs.Playing.{HasPlayed}
use Rattle.swsusp_cli.proofs.Begun.{begun_by, cause_begun, replies_begun, script_begun, since_begun}
use Rattle.swsusp_cli.proofs.Causes.{blameless, done_cause, since_text, stream_cause}
use Rattle.swsusp_cli.proofs.Prints.{told_as}
use Rattle.swsusp_cli.proofs.Replays.{played_whole}
use Rattle.swsusp_cli.proofs.replay.replay.Goals as goal

pub returns-in-Err-clause-outcome : goal.returns-in-Err-clause-outcome
returns-in-Err-clause-outcome g c = unplayed c.in-Err.ensures.outcome

pub returns-in-Ok-play-clause-outcome : goal.returns-in-Ok-play-clause-outcome
returns-in-Ok-play-clause-outcome g c =
    let script = c.in-Ok.begun.0 in
    let begun = begun_by c.deref_mut.ensures.value c.in-Ok.ensures.outcome in
    let now = disk_view g.D.Disk c.play.new.disk in
    let rs = c.in-Ok-play.ensures.played.0 in
    let was = subst (λ (events : List Event). HasPlayed c.deref_mut.result.now c.play.new.world events rs (disk_view g.D.Disk c.begin.new.disk) now) c.events.ensures c.in-Ok-play.ensures.played.1 in
    let replies = replies_begun begun c.play.new.world script.events rs now (g.met.D.Disk.well_formed c.args.disk.now) (g.met.D.Disk.well_formed c.begin.new.disk) was c.play.ensures.hardware in
    let after : View = view g.I.Source g.O.Sink g.N.Sink g.D.Disk c.begin.new.input c.tell.new.out c.tell.new.note c.play.new.disk in
    since_begun begun (λ (x : View). IsReplayed x after c.tell.result)
    (played_whole _ _ c.tell.result script (sink_view g.O.Sink c.play.new.out) rs (script_begun begun _ refl) begun.set_up.roomy replies c.in-Ok-play.ensures.played.2 c.play.ensures.stream_faults
    (told_as c.done.ensures.told c.tell.ensures.told))

pub returns-clause-outcome : goal.returns-clause-outcome
returns-clause-outcome g c =
    let script = c.in-Ok.begun.0 in
    let begun = begun_by c.deref_mut.ensures.value c.in-Ok.ensures.outcome in
    let now = disk_view g.D.Disk c.play.new.disk in
    let k = c.in-Err-play.ensures.played.0 in
    let rs = c.in-Err-play.ensures.played.1 in
    let was = subst (λ (events : List Event). HasPlayed c.deref_mut.result.now c.play.new.world (take k events) rs (disk_view g.D.Disk c.begin.new.disk) now) c.events.ensures c.in-Err-play.ensures.played.2 in
    let replies = replies_begun begun c.play.new.world (take k script.events) rs now (g.met.D.Disk.well_formed c.args.disk.now) (g.met.D.Disk.well_formed c.begin.new.disk) was c.play.ensures.hardware in
    let after : View = view g.I.Source g.O.Sink g.N.Sink g.D.Disk c.begin.new.input c.play.new.out c.cut_off.new.note c.play.new.disk in
    since_begun begun (λ (x : View). IsReplayed x after c.cut_off.result) (cut_off script (record {
      script_is = script_begun begun _ refl;
      roomy = begun.set_up.roomy;
      status_is = c.cut_off.ensures.status;
      prints = (k, rs, replies, c.in-Err-play.ensures.played.3);
      whose = inl c.in-Err-play.ensures.stream;
      note = c.cut_off.ensures.note;
    }))

pub returns-in-Err-clause-cause : goal.returns-in-Err-clause-cause
returns-in-Err-clause-cause g c = c.in-Err.ensures.cause

pub returns-in-Ok-play-clause-cause : goal.returns-in-Ok-play-clause-cause
returns-in-Ok-play-clause-cause g c =
    cause_begun c.in-Ok.ensures.outcome
    (blameless c.tell.result c.done.result.status Done done_cause c.done.ensures.status (λ is. since_text _ _ _ c.play.ensures.stream_faults (c.tell.ensures.stream is)) c.tell.ensures.status)

pub returns-clause-cause : goal.returns-clause-cause
returns-clause-cause g c =
    cause_begun c.in-Ok.ensures.outcome
    (stream_cause c.cut_off.result c.cut_off.ensures.status (inr (inl c.in-Err-play.ensures.stream)))
