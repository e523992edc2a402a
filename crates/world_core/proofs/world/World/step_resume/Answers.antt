use Rattle.std.proofs.Common.{rules, ◌<◌, inl, inr, ap, sym, ◌∙◌, subst, ⊎_elim, arith}
use Rattle.std.proofs.lemmas.Bool.{false≢true}
use Rattle.protocol_laws.specs.Rows.{is_idle}
use Rattle.plain_machine.specs.declared.event.Event.TheVariants as event
use Rattle.plain_machine.specs.declared.event.Actor.TheVariants as actor
use Rattle.plain_machine.specs.Machine.{Hardware}
use Rattle.world_core.specs.StandsFor.{core_loading}
use Rattle.resume_core.specs.StepsLeft.{loading_steps_left}
use Rattle.world_core.specs.StepsLeft.{steps_left}
use Rattle.world_core.specs.declared.world.Core.TheVariants.{Loading}
use Rattle.world_core.proofs.StepsLeft.{fewer_from, loading_left}
use Rattle.world_core.specs.World.{World}
use Rattle.world_core.specs.Kept.{IsDown, kept_world}
use Rattle.protocol_laws.specs.Rows.{TellsNewFault}
use Rattle.sector_disk.specs.Called.{AtMostOneCall}
use Rattle.sector_disk.proofs.Called.{called_as}
use Rattle.world_core.specs.Row.{SimulatesWhereTold, CallsAtMostOnce, Restores}
use Rattle.world_core.proofs.Readiness.{can_run-resumed, no_tables_after}
use Rattle.world_core.proofs.Resuming.{IsAfter, off_after, row_of_step, awake_after, busy_after, idle_after, runs_after, restores_at}
use Rattle.world_core.proofs.world.World.step_resume.Goals as goal

pub invariant_of-self : goal.invariant_of-self
invariant_of-self g c =
    let after : IsAfter c.step-reply.new.self c.step-reply.result c.core_in-self-inside.result = record { loader = c.self.inside.load.loader; core_is = c.core_in-self-inside.ensures ∙ ap core_loading c.phase-phase.ensures; told = c.step-reply.ensures.stepped.activity } in
    let over = c.step-reply.ensures.stepped.ready.over in
    record {
      size = over.size;
      zones = c.self.invariant.zones ∙ sym (ap (λ (h : Hardware). h.zones) c.step-reply.ensures.stepped.machine.hw);
      origs = over.origs;
      zeros = over.zeros;
      waiting = over.waiting;
      room = over.room;
      tables = λ has. no_tables_after c.step-reply.new.self c.step-reply.result c.core_in-self-inside.result after has;
      run = λ up. can_run-resumed c.step-reply.new.machine c.step-reply.new.frames c.step-reply.new.runs c.step-reply.new.self c.step-reply.ensures.stepped.ready (runs_after c.step-reply.new.machine c.step-reply.new.frames c.step-reply.new.runs c.step-reply.new.self c.step-reply.result c.core_in-self-inside.result after c.step-reply.ensures.stepped.ready up);
      header = λ up some. absurd (some (runs_after c.step-reply.new.machine c.step-reply.new.frames c.step-reply.new.runs c.step-reply.new.self c.step-reply.result c.core_in-self-inside.result after c.step-reply.ensures.stepped.ready up).unheld);
      place = λ down. awake_after c.step-reply.new.self c.step-reply.result c.core_in-self-inside.result after down;
      wakes = λ e. awake_after c.step-reply.new.self c.step-reply.result c.core_in-self-inside.result after (subst IsDown (sym e) tt);
      busy = λ e. idle_after c.step-reply.new.self c.step-reply.result c.core_in-self-inside.result after e;
      loads = λ e. (c.step-reply.ensures.stepped.ready, busy_after c.step-reply.new.self c.step-reply.result c.core_in-self-inside.result after e);
    }

pub returns-clause-stepped : goal.returns-clause-stepped
returns-clause-stepped g c = record {
  row =
      let new = kept_world (record { machine = c.step-reply.new.machine; frames = c.step-reply.new.frames; runs = c.step-reply.new.runs; hib = c.self.inside.hib; load = c.step-reply.new.self; waker = c.self.inside.waker; core = c.core_in-self-inside.result }) in
      subst (λ (old : World). SimulatesWhereTold (event.Step actor.Core) old new c.step-reply.result (g.D.Disk.content c.args.disk.now) (g.D.Disk.content c.step-reply.new.disk)) c.self.view_is
      (row_of_step (kept_world c.self.inside) new c.step-reply.result (g.D.Disk.content c.args.disk.now) (g.D.Disk.content c.step-reply.new.disk) (ap (λ (w : World). w.core) c.self.view_is ∙ c.requires.resumes)
      (record { loader = c.self.inside.load.loader; core_is = c.core_in-self-inside.ensures ∙ ap core_loading c.phase-phase.ensures; told = c.step-reply.ensures.stepped.activity }) c.step-reply.ensures.stepped.row);
  restored =
      let new = kept_world (record { machine = c.step-reply.new.machine; frames = c.step-reply.new.frames; runs = c.step-reply.new.runs; hib = c.self.inside.hib; load = c.step-reply.new.self; waker = c.self.inside.waker; core = c.core_in-self-inside.result }) in
      subst (λ (old : World). Restores (event.Step actor.Core) old new c.step-reply.result (g.D.Disk.content c.args.disk.now) (g.D.Disk.content c.step-reply.new.disk)) c.self.view_is
      (restores_at (kept_world c.self.inside) new c.step-reply.result (g.D.Disk.content c.args.disk.now) (g.D.Disk.content c.step-reply.new.disk) (ap (λ (w : World). w.core) c.self.view_is ∙ c.requires.resumes) c.step-reply.ensures.stepped.row);
  image = search rules;
  works = search rules;
  fewer =
      let old = kept_world c.self.inside in
      let new = kept_world (record { machine = c.step-reply.new.machine; frames = c.step-reply.new.frames; runs = c.step-reply.new.runs; hib = c.self.inside.hib; load = c.step-reply.new.self; waker = c.self.inside.waker; core = c.core_in-self-inside.result }) in
      let after : IsAfter new.load c.step-reply.result new.core = record { loader = old.load.loader; core_is = c.core_in-self-inside.ensures ∙ ap core_loading c.phase-phase.ensures; told = c.step-reply.ensures.stepped.activity } in
      let left = loading_left c.step-reply.result new.core new.hib new.load new.waker after in
      let fewer : loading_steps_left new.load < loading_steps_left old.load = c.step-reply.ensures.stepped.fewer in
      let less : steps_left new < loading_steps_left old.load = omega arith in
      subst (λ (w : World). steps_left new < steps_left w) c.self.view_is (fewer_from (steps_left new) old Loading (ap (λ (w : World). w.core) c.self.view_is ∙ c.requires.resumes) less);
  hardware = search rules;
  blocks = search rules;
}

pub returns-clause-called : goal.returns-clause-called
returns-clause-called g c =
    called_as g.D.Disk AtMostOneCall (CallsAtMostOnce (event.Step actor.Core) c.step-reply.result) (TellsNewFault c.step-reply.result) c.args.disk.now c.step-reply.new.disk
    (λ made. ⊎_elim (λ same. inl same) (λ one. inr (tt, (λ e. false≢true (sym c.step-reply.ensures.stepped.works ∙ ap is_idle e)), one)) made) c.step-reply.ensures.called

pub returns-clause-stopped : goal.returns-clause-stopped
returns-clause-stopped g c = λ goes_on ends.
    off_after c.step-reply.new.self c.step-reply.result c.core_in-self-inside.result (record { loader = c.self.inside.load.loader; core_is = c.core_in-self-inside.ensures ∙ ap core_loading c.phase-phase.ensures; told = c.step-reply.ensures.stepped.activity }) goes_on ends
