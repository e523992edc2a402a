use Rattle.std.proofs.Common.{refl, ap, ◌∙◌, subst}
use Rattle.plain_machine.specs.declared.event.Event.TheVariants as event
use Rattle.plain_machine.specs.declared.reply.Reply.TheVariants as reply
use Rattle.world_core.specs.declared.world.Core.TheVariants.{BootBegun}
use Rattle.world_core.specs.World.{World}
use Rattle.world_core.specs.Kept.{kept_world}
use Rattle.world_core.specs.Row.{Simulates}
use Rattle.world_core.specs.StandsFor.{is_off, keeps_dump}
use Rattle.plain_machine.specs.Refusals.{asks_dump_to_boot}
use Rattle.world_core.proofs.Booting.{boot_begins}
use Rattle.world_core.proofs.Readiness.{reserved-set, tables_kept}
use Rattle.world_core.proofs.world.World.begin_boot.Goals as goal

pub invariant_of-self : goal.invariant_of-self
invariant_of-self c =
    let kept = c.self.invariant in
    let h = c.self.inside.machine.hw in
    record {
      size = c.set_memory.ensures.size ∙ kept.size;
      zones = kept.zones;
      origs = kept.origs;
      zeros = kept.zeros;
      waiting = kept.waiting;
      room = kept.room;
      tables = λ has.
          reserved-set c.args.from h c.self.inside.frames c.set_memory.new.frames c.is_hardware.ensures.hardware c.set_memory.ensures.fresh c.set_memory.ensures.kept
          (λ e. kept.tables (tables_kept c.self.inside.core (ap (λ (w : World). keeps_dump w.core) c.self.view_is ∙ c.requires.dump (ap asks_dump_to_boot e))));
      run = λ up. absurd up;
      header = λ up some. absurd up;
      place = λ down. absurd down;
      wakes = λ e. absurd (cc);
      busy = λ e. absurd (cc);
      loads = λ e. absurd (cc);
    }

pub returns-clause-row : goal.returns-clause-row
returns-clause-row c = λ k.
    let old = kept_world c.self.inside in
    let new = record old { machine = record c.self.inside.machine { blocks = c.args.blocks }; frames = c.set_memory.new.frames; core = BootBegun c.args.from } in
    subst (λ (w : World). Simulates (event.Boot c.args.from) w new (reply.More 0 2) k k) c.self.view_is
    (boot_begins old new k c.args.from
    (record {
      off = ap (λ (w : World). is_off w.core) c.self.view_is ∙ c.requires.off;
      core = refl;
      hardware = refl;
      fresh = c.set_memory.ensures.fresh;
      kept = c.set_memory.ensures.kept;
      dump = λ asks. ap (λ (w : World). keeps_dump w.core) c.self.view_is ∙ c.requires.dump asks;
    }))
