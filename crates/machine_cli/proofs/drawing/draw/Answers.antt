use Rattle.std.proofs.Common.{inl, inr, List, length, refl, subst, take}
use Rattle.definitions.specs.Streams.{TakesAll, TakesFront}
use Rattle.plain_machine.specs.declared.event.Event.{Event}
use Rattle.run_picture.specs.Picture.{picture, pictured}
use Rattle.command_kit.specs.View.{View, disk_view, sink_view, view}
use Rattle.command_kit.specs.declared.status.Status.TheVariants.{Done}
use Rattle.swsusp_cli.specs.Playing.{HasPlayed}
use Rattle.swsusp_cli.proofs.Begun.{begun_by, cause_begun, replies_begun, script_begun, since_begun}
use Rattle.swsusp_cli.proofs.Causes.{blameless, done_cause, since_text, stream_cause}
use Rattle.machine_cli.specs.Drawn.{IsDrawn, cut_off, unplayed}
use Rattle.machine_cli.proofs.Pictures.{drawn_whole}
use Rattle.machine_cli.proofs.drawing.draw.Goals as goal

pub returns-in-Err-clause-outcome : goal.returns-in-Err-clause-outcome
returns-in-Err-clause-outcome g c = unplayed c.in-Err.ensures.outcome

pub returns-in-Ok-draw_run-clause-outcome : goal.returns-in-Ok-draw_run-clause-outcome
returns-in-Ok-draw_run-clause-outcome g c =
    let script = c.in-Ok.begun.0 in
    let begun = begun_by c.deref_mut.ensures.value c.in-Ok.ensures.outcome in
    let now = disk_view g.D.Disk c.draw_run.new.disk in
    let rs = c.in-Ok-draw_run.ensures.drawn.0 in
    let was = subst (λ (events : List Event). HasPlayed c.deref_mut.result.now c.draw_run.new.world events rs (disk_view g.D.Disk c.begin.new.disk) now) c.events.ensures c.in-Ok-draw_run.ensures.drawn.1 in
    let replies = replies_begun begun c.draw_run.new.world script.events rs now (g.met.D.Disk.well_formed c.args.disk.now) (g.met.D.Disk.well_formed c.begin.new.disk) was c.draw_run.ensures.hardware in
    let after : View = view g.I.Source g.O.Sink g.N.Sink g.D.Disk c.begin.new.input c.tell.new.out c.tell.new.note c.draw_run.new.disk in
    since_begun begun (λ (x : View). IsDrawn x after c.tell.result)
    (drawn_whole _ _ c.tell.result script (sink_view g.O.Sink c.draw_run.new.out) rs (script_begun begun _ refl) begun.set_up.roomy replies
    (subst (λ (events : List Event). TakesAll (picture events rs) (g.O.Sink.taken c.begin.new.out) (g.O.Sink.taken c.draw_run.new.out)) c.events.ensures c.in-Ok-draw_run.ensures.drawn.2)
    c.draw_run.ensures.stream_faults c.tell.ensures.told)

pub returns-clause-outcome : goal.returns-clause-outcome
returns-clause-outcome g c =
    let script = c.in-Ok.begun.0 in
    let begun = begun_by c.deref_mut.ensures.value c.in-Ok.ensures.outcome in
    let now = disk_view g.D.Disk c.draw_run.new.disk in
    let k = c.in-Err-draw_run.ensures.drawn.0 in
    let rs = c.in-Err-draw_run.ensures.drawn.1 in
    let was = subst (λ (events : List Event). HasPlayed c.deref_mut.result.now c.draw_run.new.world (take k events) rs (disk_view g.D.Disk c.begin.new.disk) now) c.events.ensures c.in-Err-draw_run.ensures.drawn.2 in
    let replies = replies_begun begun c.draw_run.new.world (take k script.events) rs now (g.met.D.Disk.well_formed c.args.disk.now) (g.met.D.Disk.well_formed c.begin.new.disk) was c.draw_run.ensures.hardware in
    let after : View = view g.I.Source g.O.Sink g.N.Sink g.D.Disk c.begin.new.input c.draw_run.new.out c.cut_off.new.note c.draw_run.new.disk in
    since_begun begun (λ (x : View). IsDrawn x after c.cut_off.result) (cut_off script (record {
      script_is = script_begun begun _ refl;
      roomy = begun.set_up.roomy;
      status_is = c.cut_off.ensures.status;
      draws = (k, rs, replies, subst (λ (events : List Event). TakesFront (pictured (length events) (take k events) rs) (g.O.Sink.taken c.begin.new.out) (g.O.Sink.taken c.draw_run.new.out)) c.events.ensures c.in-Err-draw_run.ensures.drawn.3);
      whose = inl c.in-Err-draw_run.ensures.stream;
      note = c.cut_off.ensures.note;
    }))

pub returns-in-Err-clause-cause : goal.returns-in-Err-clause-cause
returns-in-Err-clause-cause g c = c.in-Err.ensures.cause

pub returns-in-Ok-draw_run-clause-cause : goal.returns-in-Ok-draw_run-clause-cause
returns-in-Ok-draw_run-clause-cause g c =
    cause_begun c.in-Ok.ensures.outcome
    (blameless c.tell.result Done Done done_cause refl (λ is. since_text _ _ _ c.draw_run.ensures.stream_faults (c.tell.ensures.stream is)) c.tell.ensures.status)

pub returns-clause-cause : goal.returns-clause-cause
returns-clause-cause g c =
    cause_begun c.in-Ok.ensures.outcome
    (stream_cause c.cut_off.result c.cut_off.ensures.status (inr (inl c.in-Err-draw_run.ensures.stream)))
