use Rattle.std.proofs.Common.{rules, ◌<◌, inr, ap, sym, ◌∙◌, subst}
use Rattle.std.proofs.lemmas.Bool.{false≢true}
use Rattle.protocol_laws.specs.Rows.{is_idle}
use Rattle.plain_machine.specs.declared.event.Event.TheVariants as event
use Rattle.plain_machine.specs.declared.event.Actor.TheVariants as actor
use Rattle.plain_machine.specs.Machine.{Hardware}
use Rattle.world_core.specs.World.{World}
use Rattle.world_core.specs.Kept.{kept_world}
use Rattle.protocol_laws.specs.Rows.{TellsNewFault}
use Rattle.sector_disk.specs.Called.{OneCall}
use Rattle.sector_disk.proofs.Called.{called_as}
use Rattle.world_core.specs.Row.{SimulatesWhereTold, CallsAtMostOnce, Restores, KeepsUsedFrames}
use Rattle.hib_core.specs.Leaving.{change_of}
use Rattle.hib_core.proofs.BeginTables.{slot_table_lies}
use Rattle.hib_core.proofs.Keeping.{step_keeps, given_back, stayed}
use Rattle.hib_core.proofs.Leaving.{entries_left}
use Rattle.protocol_laws.specs.Slots.{IsMemoryOf}
use Rattle.world_core.proofs.Hibernating.{row_of_step, busy_told, never_loads, never_wakes, restores_none}
use Rattle.world_core.proofs.Readiness.{can_run-same, no_tables_told}
use Rattle.world_core.proofs.Rows.{is_up}
use Rattle.hib_core.specs.StepsLeft.{saving_steps_left}
use Rattle.world_core.specs.StandsFor.{core_in}
use Rattle.world_core.specs.StepsLeft.{steps_left}
use Rattle.world_core.specs.declared.world.Core.TheVariants.{Hibernating}
use Rattle.world_core.proofs.StepsLeft.{fewer_from, saving_fewer}
use Rattle.world_core.proofs.world.World.step_hibernation.Goals as goal

pub invariant_of-self : goal.invariant_of-self
invariant_of-self g c =
    let core = ap (λ (w : World). w.core) c.self.view_is ∙ c.requires.hibernates in
    let same = sym (ap (λ (h : Hardware). h.zones) c.step-reply.ensures.stepped.machine.hw) in
    record {
      size = c.step-reply.ensures.stepped.ready.size;
      zones = c.step-reply.ensures.stepped.zones ∙ c.self.invariant.zones ∙ same;
      origs = c.self.invariant.origs ∙ same;
      zeros = c.self.invariant.zeros ∙ same;
      waiting = c.self.invariant.waiting ∙ same;
      room = c.step-reply.ensures.stepped.ready.matches.room;
      tables = λ has. no_tables_told c.step-reply.result c.core_in-self-inside.result (c.core_in-self-inside.ensures ∙ ap core_in (c.phase-phase.ensures ∙ c.step-reply.ensures.stepped.phase)) has;
      run = λ up.
          can_run-same c.self.inside.machine c.step-reply.new.machine c.self.inside.frames c.step-reply.new.frames c.self.inside.runs c.step-reply.new.runs (c.self.invariant.busy core).0.hardware c.step-reply.ensures.stepped.machine c.step-reply.ensures.stepped.ready.size c.step-reply.ensures.stepped.ready.matches
          (entries_left c.self.inside.machine.hw (change_of c.step-reply.result c.self.inside.hib.stage) c.self.inside.frames c.step-reply.new.frames (c.self.invariant.busy core).0.hardware c.step-reply.ensures.stepped.memory) (c.self.invariant.run (is_up c.self.inside.core core));
      header = λ up some. c.step-reply.ensures.stepped.ready.header;
      place = λ down. c.step-reply.ensures.stepped.ready.header;
      wakes = λ e. never_wakes c.step-reply.result c.core_in-self-inside.result (c.core_in-self-inside.ensures ∙ ap core_in (c.phase-phase.ensures ∙ c.step-reply.ensures.stepped.phase)) e;
      busy = λ e. (c.step-reply.ensures.stepped.ready, busy_told c.step-reply.new.self c.step-reply.result c.core_in-self-inside.result (c.core_in-self-inside.ensures ∙ ap core_in (c.phase-phase.ensures ∙ c.step-reply.ensures.stepped.phase)) c.step-reply.ensures.stepped.phase e);
      loads = λ e. never_loads c.step-reply.result c.core_in-self-inside.result (c.core_in-self-inside.ensures ∙ ap core_in (c.phase-phase.ensures ∙ c.step-reply.ensures.stepped.phase)) e;
    }

pub returns-clause-stepped : goal.returns-clause-stepped
returns-clause-stepped g c = record {
  row =
      let new = kept_world (record { machine = c.step-reply.new.machine; frames = c.step-reply.new.frames; runs = c.step-reply.new.runs; hib = c.step-reply.new.self; load = c.self.inside.load; waker = c.self.inside.waker; core = c.core_in-self-inside.result }) in
      subst (λ (old : World). SimulatesWhereTold (event.Step actor.Core) old new c.step-reply.result (g.D.Disk.content c.args.disk.now) (g.D.Disk.content c.step-reply.new.disk)) c.self.view_is
      (row_of_step (kept_world c.self.inside) new c.step-reply.result (g.D.Disk.content c.args.disk.now) (g.D.Disk.content c.step-reply.new.disk) (ap (λ (w : World). w.core) c.self.view_is ∙ c.requires.hibernates) (c.core_in-self-inside.ensures ∙ ap core_in (c.phase-phase.ensures ∙ c.step-reply.ensures.stepped.phase)) c.step-reply.ensures.stepped.phase c.step-reply.ensures.stepped.row);
  restored =
      let new = kept_world (record { machine = c.step-reply.new.machine; frames = c.step-reply.new.frames; runs = c.step-reply.new.runs; hib = c.step-reply.new.self; load = c.self.inside.load; waker = c.self.inside.waker; core = c.core_in-self-inside.result }) in
      subst (λ (old : World). Restores (event.Step actor.Core) old new c.step-reply.result (g.D.Disk.content c.args.disk.now) (g.D.Disk.content c.step-reply.new.disk)) c.self.view_is
      (restores_none (kept_world c.self.inside) new c.step-reply.result (g.D.Disk.content c.args.disk.now) (g.D.Disk.content c.step-reply.new.disk) (ap (λ (w : World). w.core) c.self.view_is ∙ c.requires.hibernates));
  image = search rules;
  works = search rules;
  fewer =
      let old = kept_world c.self.inside in
      let new = kept_world (record { machine = c.step-reply.new.machine; frames = c.step-reply.new.frames; runs = c.step-reply.new.runs; hib = c.step-reply.new.self; load = c.self.inside.load; waker = c.self.inside.waker; core = c.core_in-self-inside.result }) in
      let less = saving_fewer c.step-reply.result c.core_in-self-inside.result (saving_steps_left old.hib) new.hib new.load new.waker (c.core_in-self-inside.ensures ∙ ap core_in (c.phase-phase.ensures ∙ c.step-reply.ensures.stepped.phase)) c.step-reply.ensures.stepped.fewer in
      subst (λ (w : World). steps_left new < steps_left w) c.self.view_is (fewer_from (steps_left new) old Hibernating (ap (λ (w : World). w.core) c.self.view_is ∙ c.requires.hibernates) less);
  hardware = search rules;
  blocks = search rules;
}

pub returns-clause-called : goal.returns-clause-called
returns-clause-called g c =
    called_as g.D.Disk OneCall (CallsAtMostOnce (event.Step actor.Core) c.step-reply.result) (TellsNewFault c.step-reply.result) c.args.disk.now c.step-reply.new.disk
    (λ one. inr (tt, (λ e. false≢true (sym c.step-reply.ensures.stepped.works ∙ ap is_idle e)), one)) c.step-reply.ensures.called

pub returns-clause-memory : goal.returns-clause-memory
returns-clause-memory g c =
    let core = ap (λ (w : World). w.core) c.self.view_is ∙ c.requires.hibernates in
    let new = kept_world (record { machine = c.step-reply.new.machine; frames = c.step-reply.new.frames; runs = c.step-reply.new.runs; hib = c.step-reply.new.self; load = c.self.inside.load; waker = c.self.inside.waker; core = c.core_in-self-inside.result }) in
    let h = c.self.inside.machine.hw in
    let change = change_of c.step-reply.result c.self.inside.hib.stage in
    let memory : IsMemoryOf h c.self.inside.frames = record { pages = c.are_pages.ensures.pages; table = slot_table_lies h c.self.inside.frames (c.self.invariant.busy core).0.hardware c.self.invariant.size } in
    let keeps : KeepsUsedFrames (kept_world c.self.inside) new c.step-reply.result = record {
      used = step_keeps h change c.self.inside.frames c.step-reply.new.frames memory c.step-reply.ensures.stepped.memory;
      given = λ e. given_back h change c.self.inside.frames c.step-reply.new.frames memory c.step-reply.ensures.stepped.memory e;
      unsure = λ e. stayed h change c.self.inside.frames c.step-reply.new.frames c.step-reply.ensures.stepped.memory e;
    } in
    subst (λ (old : World). KeepsUsedFrames old new c.step-reply.result) c.self.view_is keeps
