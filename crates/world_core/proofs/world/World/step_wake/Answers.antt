use Rattle.std.proofs.Common.{rules, ◌<◌, sym, ap, ◌∙◌, subst}
use Rattle.plain_machine.specs.declared.event.Event.TheVariants as event
use Rattle.plain_machine.specs.declared.event.Actor.TheVariants as actor
use Rattle.definitions.specs.Zones.{top}
use Rattle.plain_machine.specs.Machine.{Hardware}
use Rattle.hib_core.proofs.BeginTables.{slot_table_lies}
use Rattle.protocol_laws.specs.Slots.{IsMemoryOf}
use Rattle.world_core.specs.Kept.{kept_world, HasTables, IsDown, IsUp}
use Rattle.world_core.specs.Row.{SimulatesWhereTold, Restores, WakesWith}
use Rattle.hib_core.specs.Waking.{waking_steps_left}
use Rattle.world_core.specs.StandsFor.{core_waking}
use Rattle.world_core.specs.StepsLeft.{steps_left, steps_left_in}
use Rattle.world_core.specs.declared.world.Core.{Core}
use Rattle.world_core.specs.declared.world.Core.TheVariants.{Waking}
use Rattle.world_core.proofs.StepsLeft.{fewer_from, waking_fewer}
use Rattle.world_core.specs.World.{World}
use Rattle.world_core.proofs.Readiness.{can_run-same}
use Rattle.world_core.proofs.Wakes.{in_place, left_entries, left_machine, restores_none, row_of_step, wakes_on, wakes_with, woken_loads_not, woken_no_tables, woken_not_busy}
use Rattle.world_core.proofs.world.World.step_wake.Goals as goal

pub step-reply-requires-clause-under_way : goal.step-reply-requires-clause-under_way
step-reply-requires-clause-under_way g c = c.self.invariant.wakes (ap (λ (w : World). w.core) c.self.view_is ∙ c.requires.wakes)

pub step-reply-requires-clause-header : goal.step-reply-requires-clause-header
step-reply-requires-clause-header g c = c.self.invariant.place (subst IsDown (sym (ap (λ (w : World). w.core) c.self.view_is ∙ c.requires.wakes)) tt)

pub invariant_of-self : goal.invariant_of-self
invariant_of-self g c =
    let kept = c.self.invariant in
    let core = ap (λ (w : World). w.core) c.self.view_is ∙ c.requires.wakes in
    let up : IsUp c.self.inside.core = subst IsUp (sym core) tt in
    let r = c.step-reply.result in
    let left = c.leave.ensures.left in
    let same = left_machine r c.self.inside.machine c.leave.new.machine c.self.inside.frames c.leave.new.frames left in
    let zones = ap (λ (h : Hardware). h.zones) same.hw in
    let after = c.core_in-self-inside.ensures ∙ ap core_waking (c.phase-phase.ensures ∙ c.step-reply.ensures.stepped.phase) in
    let size = c.leave.ensures.size ∙ kept.size ∙ sym (ap (λ (h : Hardware). top h.zones) same.hw) in
    record {
      size = size;
      zones = kept.zones ∙ sym zones;
      origs = kept.origs ∙ sym zones;
      zeros = kept.zeros ∙ sym zones;
      waiting = kept.waiting ∙ sym zones;
      room = c.leave.ensures.matches.room;
      tables = λ has. woken_no_tables r (subst HasTables after has);
      run = λ now.
          can_run-same c.self.inside.machine c.leave.new.machine c.self.inside.frames c.leave.new.frames c.self.inside.runs c.leave.new.runs c.is_hardware.ensures.hardware same size c.leave.ensures.matches
          (left_entries r c.self.inside.machine c.leave.new.machine c.self.inside.frames c.leave.new.frames c.is_hardware.ensures.hardware left) (kept.run up);
      header = λ now some. in_place c.self.inside.machine c.leave.new.machine same (kept.place (subst IsDown (sym core) tt));
      place = λ down. in_place c.self.inside.machine c.leave.new.machine same (kept.place (subst IsDown (sym core) tt));
      busy = λ e. woken_not_busy r (sym after ∙ e);
      wakes = λ e. c.step-reply.ensures.stepped.phase ∙ wakes_on r (sym after ∙ e);
      loads = λ e. woken_loads_not r (sym after ∙ e);
    }

pub returns-clause-stepped : goal.returns-clause-stepped
returns-clause-stepped g c = record {
  row =
      let old = kept_world c.self.inside in
      let new = record old { machine = c.leave.new.machine; frames = c.leave.new.frames; waker = c.step-reply.new.self; core = c.core_in-self-inside.result } in
      let memory : IsMemoryOf c.self.inside.machine.hw c.self.inside.frames =
      record { pages = c.are_pages.ensures.pages; table = slot_table_lies c.self.inside.machine.hw c.self.inside.frames c.is_hardware.ensures.hardware c.self.invariant.size } in
      subst (λ (w : World). SimulatesWhereTold (event.Step actor.Core) w new c.step-reply.result (g.D.Disk.content c.args.disk.now) (g.D.Disk.content c.step-reply.new.disk)) c.self.view_is
      (row_of_step old new c.step-reply.result (g.D.Disk.content c.args.disk.now) (g.D.Disk.content c.step-reply.new.disk) (ap (λ (w : World). w.core) c.self.view_is ∙ c.requires.wakes) (c.core_in-self-inside.ensures ∙ ap core_waking (c.phase-phase.ensures ∙ c.step-reply.ensures.stepped.phase)) c.leave.ensures.left memory c.step-reply.ensures.stepped.row);
  restored =
      let old = kept_world c.self.inside in
      let new = record old { machine = c.leave.new.machine; frames = c.leave.new.frames; waker = c.step-reply.new.self; core = c.core_in-self-inside.result } in
      subst (λ (w : World). Restores (event.Step actor.Core) w new c.step-reply.result (g.D.Disk.content c.args.disk.now) (g.D.Disk.content c.step-reply.new.disk)) c.self.view_is
      (restores_none old new c.step-reply.result (g.D.Disk.content c.args.disk.now) (g.D.Disk.content c.step-reply.new.disk) (ap (λ (w : World). w.core) c.self.view_is ∙ c.requires.wakes));
  image = search rules;
  works = search rules;
  fewer =
      let old = kept_world c.self.inside in
      let new = record old { machine = c.leave.new.machine; frames = c.leave.new.frames; waker = c.step-reply.new.self; core = c.core_in-self-inside.result } in
      let less = subst (λ (k : Core). steps_left_in k new.hib new.load new.waker < waking_steps_left old.waker) (sym (c.core_in-self-inside.ensures ∙ ap core_waking (c.phase-phase.ensures ∙ c.step-reply.ensures.stepped.phase))) (waking_fewer c.step-reply.result (waking_steps_left old.waker) new.hib new.load new.waker c.step-reply.ensures.stepped.fewer) in
      subst (λ (w : World). steps_left new < steps_left w) c.self.view_is (fewer_from (steps_left new) old Waking (ap (λ (w : World). w.core) c.self.view_is ∙ c.requires.wakes) less);
  hardware = search rules;
  blocks = search rules;
}

pub returns-clause-memory : goal.returns-clause-memory
returns-clause-memory g c =
    let old = kept_world c.self.inside in
    let new = record old { machine = c.leave.new.machine; frames = c.leave.new.frames; waker = c.step-reply.new.self; core = c.core_in-self-inside.result } in
    subst (λ (w : World). WakesWith w new c.step-reply.result) c.self.view_is (wakes_with old new c.step-reply.result c.leave.ensures.left)

pub leave-requires-clause-table : goal.leave-requires-clause-table
leave-requires-clause-table g c = slot_table_lies c.self.inside.machine.hw c.self.inside.frames c.is_hardware.ensures.hardware c.self.invariant.size
