-- What the machine that runs has: its free slots are read from the slot table, and no task has an unfinished operation.
use Rattle.std.proofs.Common.{◌<◌, ◌≤◌, ℕ, refl, ap, sym, ◌∙◌, subst}
use Rattle.definitions.specs.FreeRuns.{free_runs}
use Rattle.swap_slots.specs.Runs.{SlotRuns}
use Rattle.swap_slots.specs.Table.{LiesIn, Matches}
use Rattle.swap_slots.specs.declared.table.SlotTable.{SlotTable}
use Rattle.plain_machine.specs.Machine.{block_of_slot}
use Rattle.protocol_laws.specs.Headers.{is_image}
use Rattle.machine.specs.Running.{AreReserved, slot_table_of}
use Rattle.hib_core.proofs.BeginTables.{slot_table_lies}
use Rattle.world_core.specs.World.{World}
use Rattle.world_core.specs.Kept.{HasTables}
use Rattle.world_core.proofs.Readiness.{can_run-started, reserved-at_start}
use Rattle.world_core.proofs.world.World.start.Goals.{then-image-2, else-image-2}
use Rattle.world_core.proofs.world.World.start.Goals as goal

pub rebuild-requires-clause-table : goal.rebuild-requires-clause-table
rebuild-requires-clause-table c =
    subst (λ (t : SlotTable). LiesIn c.area_at_start-self-inside.new.frames t) (sym c.slot_table.ensures.table)
    (slot_table_lies c.self.inside.machine.hw c.area_at_start-self-inside.new.frames c.slot_table.ensures.hardware (c.area_at_start-self-inside.ensures.size ∙ c.self.invariant.size))

pub invariant_of-self : goal.invariant_of-self
invariant_of-self c =
    let kept = c.self.invariant in
    let h = c.self.inside.machine.hw in
    let core = ap (λ (w : World). w.core) c.self.view_is ∙ c.requires.synced in
    let frames = c.area_at_start-self-inside.new.frames in
    let size = c.area_at_start-self-inside.ensures.size ∙ kept.size in
    let room : h.slots ≤ c.rebuild.new.self.room = subst (λ (n : ℕ). h.slots ≤ n) (sym (ap (λ (x : SlotRuns). x.room) c.rebuild.ensures)) kept.room in
    let matches : Matches frames (slot_table_of h) c.rebuild.new.self = record {
      room = room;
      runs = ap (λ (x : SlotRuns). x.runs) c.rebuild.ensures ∙ ap (λ (t : SlotTable). free_runs t.slots t.first frames) c.slot_table.ensures.table;
    } in
    let reserved : AreReserved h frames =
    subst (AreReserved h) (sym c.area_at_start-self-inside.ensures.frames)
    (reserved-at_start c.args.from h c.area_at_start-self-inside.result c.self.inside.frames c.slot_table.ensures.hardware (kept.tables (subst HasTables (sym core) tt))) in
    record {
      size = size;
      zones = kept.zones;
      origs = kept.origs;
      zeros = kept.zeros;
      waiting = kept.waiting;
      room = room;
      tables = λ has. absurd has;
      run = λ up. can_run-started _ frames c.rebuild.new.self size matches c.area_at_start-self-inside.ensures.fits reserved refl;
      header = λ up some.
          elim c.if-image-2.branch [
            | then-image-2 w ↦
                subst (λ (x : World). block_of_slot x.machine.hw 0 < x.machine.blocks) (sym c.self.view_is)
                (c.requires.on_disk (ap is_image (sym c.read-kind.ensures) ∙ sym c.is_image-image.ensures ∙ w.if-image-2.true))
            | else-image-2 w ↦ absurd (some w.self-is)
          ];
      place = λ down. absurd down;
      wakes = λ e. absurd (cc);
      busy = λ e. absurd (cc);
      loads = λ e. absurd (cc);
    }
