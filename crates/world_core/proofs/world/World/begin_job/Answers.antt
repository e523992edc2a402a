use Rattle.std.proofs.Common.{◌<◌, ◌≤◌, ap, refl, sym, ◌∙◌, subst}
use Rattle.definitions.specs.Zones.{top}
use Rattle.machine.specs.Running.{CanRun}
use Rattle.hib_core.specs.Leaving.{KeepsUsed}
use Rattle.hib_core.specs.Row.{event_of}
use Rattle.hib_core.proofs.Keeping.{at_begin_keeps}
use Rattle.machine.specs.declared.machine.Machine.{Machine}
use Rattle.plain_machine.specs.Machine.{block_of_slot}
use Rattle.world_core.specs.World.{World}
use Rattle.world_core.specs.Kept.{kept_world, IsUp}
use Rattle.world_core.specs.Row.{Simulates}
use Rattle.world_core.specs.StandsFor.{core_in}
use Rattle.world_core.proofs.Hibernating.{row_of_begin, busy_told, never_loads, never_sleeps, never_wakes}
use Rattle.world_core.proofs.Readiness.{can_run-same, entries_at_begin, no_tables_told}
use Rattle.world_core.proofs.world.World.begin_job.Goals as goal

pub invariant_of-self : goal.invariant_of-self
invariant_of-self c =
    let core = ap (λ (w : World). w.core) c.self.view_is ∙ c.requires.running in
    let up : IsUp c.self.inside.core = subst IsUp (sym core) tt in
    let can = c.self.invariant.run up in
    let same = sym (ap (λ (m : Machine). m.hw.zones) c.begin-reply.ensures.machine) in
    record {
      size = c.begin-reply.ensures.size ∙ c.self.invariant.size ∙ ap (λ (m : Machine). top m.hw.zones) (sym c.begin-reply.ensures.machine);
      zones = c.begin-reply.ensures.zones ∙ c.self.invariant.zones ∙ same;
      origs = c.self.invariant.origs ∙ same;
      zeros = c.self.invariant.zeros ∙ same;
      waiting = c.self.invariant.waiting ∙ same;
      room = subst (λ (m : Machine). m.hw.slots ≤ c.begin-reply.new.runs.room) (sym c.begin-reply.ensures.machine) c.begin-reply.ensures.matches.room;
      tables = λ has. no_tables_told c.begin-reply.result c.core_in-self-inside.result (c.core_in-self-inside.ensures ∙ ap core_in (c.phase-phase.ensures ∙ c.begin-reply.ensures.phase)) has;
      run = λ now.
          subst (λ (m : Machine). CanRun m c.begin-reply.new.frames c.begin-reply.new.runs) (sym c.begin-reply.ensures.machine)
          (can_run-same c.self.inside.machine c.self.inside.machine c.self.inside.frames c.begin-reply.new.frames c.self.inside.runs c.begin-reply.new.runs c.is_hardware.ensures.hardware (record { hw = refl; area = refl; blocks = refl; flights = refl })
          (c.begin-reply.ensures.size ∙ c.self.invariant.size) c.begin-reply.ensures.matches
          (entries_at_begin c.args.job c.self.inside.machine.hw c.self.inside.frames c.begin-reply.new.frames c.is_hardware.ensures.hardware can.reserved c.begin-reply.ensures.memory) can);
      header = λ now some.
          subst (λ (m : Machine). block_of_slot m.hw 0 < m.blocks) (sym c.begin-reply.ensures.machine) (c.self.invariant.header up (λ none. some (ap (λ (m : Machine). m.held) c.begin-reply.ensures.machine ∙ none)));
      place = λ down. never_sleeps c.begin-reply.result c.core_in-self-inside.result (c.core_in-self-inside.ensures ∙ ap core_in (c.phase-phase.ensures ∙ c.begin-reply.ensures.phase)) c.begin-reply.ensures.begun down;
      wakes = λ e. never_wakes c.begin-reply.result c.core_in-self-inside.result (c.core_in-self-inside.ensures ∙ ap core_in (c.phase-phase.ensures ∙ c.begin-reply.ensures.phase)) e;
      busy = λ e.
          let busy = busy_told c.begin-reply.new.self c.begin-reply.result c.core_in-self-inside.result (c.core_in-self-inside.ensures ∙ ap core_in (c.phase-phase.ensures ∙ c.begin-reply.ensures.phase)) c.begin-reply.ensures.phase e in
          (c.begin-reply.ensures.ready busy, busy);
      loads = λ e. never_loads c.begin-reply.result c.core_in-self-inside.result (c.core_in-self-inside.ensures ∙ ap core_in (c.phase-phase.ensures ∙ c.begin-reply.ensures.phase)) e;
    }

pub returns-clause-row : goal.returns-clause-row
returns-clause-row c = λ k.
    let new = kept_world (record { machine = c.begin-reply.new.machine; frames = c.begin-reply.new.frames; runs = c.begin-reply.new.runs; hib = c.begin-reply.new.self; load = c.self.inside.load; waker = c.self.inside.waker; core = c.core_in-self-inside.result }) in
    subst (λ (old : World). Simulates (event_of c.args.job) old new c.begin-reply.result k k) c.self.view_is
    (row_of_begin (kept_world c.self.inside) new c.args.job c.begin-reply.result k (ap (λ (w : World). w.core) c.self.view_is ∙ c.requires.running) (c.core_in-self-inside.ensures ∙ ap core_in (c.phase-phase.ensures ∙ c.begin-reply.ensures.phase)) c.begin-reply.ensures.machine c.begin-reply.ensures.phase (c.begin-reply.ensures.row k))

pub returns-clause-memory : goal.returns-clause-memory
returns-clause-memory c =
    let up : IsUp c.self.inside.core = subst IsUp (sym (ap (λ (w : World). w.core) c.self.view_is ∙ c.requires.running)) tt in
    subst (λ (old : World). KeepsUsed old.machine.hw old.frames c.begin-reply.new.frames) c.self.view_is
    (at_begin_keeps c.self.inside.machine.hw c.args.job c.self.inside.frames c.begin-reply.new.frames c.is_hardware.ensures.hardware c.self.invariant.size (c.self.invariant.run up).reserved c.begin-reply.ensures.memory)
