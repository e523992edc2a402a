use Rattle.std.proofs.Common.{rules, ◌≡◌, ℕ, inl, inr, false, List, Option, refl, ap, ◌∙◌, subst, arith}
use Rattle.std.proofs.lemmas.Bool.{cases_lt}
use Rattle.definitions.specs.SwapHeader.{IsMarked}
use Rattle.protocol_laws.proofs.HeaderBack.{zeros_unmarked}
use Rattle.protocol_laws.proofs.Signatures.{marked_true}
use Rattle.std.specs.Option.{IfSome}
use Rattle.definitions.specs.Slots.{block_of}
use Rattle.plain_machine.specs.Machine.{Hardware, IsHardware, block_of_slot}
use Rattle.plain_machine.specs.declared.event.Event.TheVariants as event
use Rattle.plain_machine.specs.declared.event.Actor.TheVariants as actor
use Rattle.plain_machine.specs.declared.reply.Left.TheVariants.{Same}
use Rattle.plain_machine.specs.declared.reply.Reply.TheVariants as reply
use Rattle.world_core.specs.declared.world.Core.TheVariants.{Off}
use Rattle.world_core.specs.World.{World}
use Rattle.world_core.specs.Kept.{kept_world}
use Rattle.world_core.specs.Row.{Simulates}
use Rattle.plain_machine.specs.Chain.{header_of}
use Rattle.world_core.specs.Started.{header_at}
use Rattle.world_core.proofs.Headers.{header_read, blocks_told}
use Rattle.world_core.proofs.New.{ends_of_started}
use Rattle.definitions.specs.Disk as disk
use Rattle.world_core.proofs.Ending.{boot_ends, boot_read_fails, tells_mark}
use Rattle.protocol_laws.proofs.Told.{whole_content}
use Rattle.world_core.proofs.world.World.finish_boot.Goals as goal

-- a marked block isn't one of zeros
pub start-requires-clause-on_disk : goal.start-requires-clause-on_disk
start-requires-clause-on_disk g c = λ e.
    let h = c.self.inside.machine.hw in
    let same = ap (λ (w : World). w.machine.hw) c.self.view_is in
    let block_is : c.block-block.result ≡ block_of_slot h 0 = c.block-block.ensures.block ∙ ap (λ (es : List (ℕ × ℕ × ℕ)). block_of es 0) c.extents.ensures.extents in
    let here : c.block-block.result ≡ block_of_slot c.args.self.now.machine.hw 0 = block_is ∙ ap (λ (x : Hardware). block_of_slot x 0) same in
    let count = c.requires.blocks in
    elim (cases_lt c.block-block.result (g.D.Disk.block_count c.args.disk.now)) [
      | inl lt ↦ omega arith
      | inr past ↦ absurd (zeros_unmarked (subst IsMarked (c.read_header.ensures.beyond past) (marked_true c.read_header.new.into e)))
    ]

pub returns-in-Err-clause-stepped : goal.returns-in-Err-clause-stepped
returns-in-Err-clause-stepped g c = record {
  row = λ k told.
      let old = kept_world c.self.inside in
      let core = ap (λ (w : World). w.core) c.self.view_is ∙ c.requires.synced in
      (k, c.read_header.ensures.content ∙ told, subst (λ (w : World). Simulates (event.Step actor.Core) w (record old { core = Off false }) (reply.ReadFault Same) k k) c.self.view_is (boot_read_fails old (record old { core = Off false }) k c.args.from core refl refl));
  restored = search rules;
  image = search rules;
  works = search rules;
  fewer = search rules;
  hardware = search rules;
  blocks = search rules;
}

pub returns-in-Ok-clause-stepped : goal.returns-in-Ok-clause-stepped
returns-in-Ok-clause-stepped g c = record {
  row = λ k told.
      let whole = whole_content (g.D.Disk.block_count c.args.disk.now) (g.D.Disk.content c.args.disk.now) k told (g.met.D.Disk.well_formed c.args.disk.now) in
      let h = c.self.inside.machine.hw in
      let same = ap (λ (w : World). w.machine.hw) c.self.view_is in
      let v = disk.as_it_reads k in
      let blocks = g.D.Disk.block_count c.args.disk.now in
      let block_is : c.block-block.result ≡ block_of_slot h 0 = c.block-block.ensures.block ∙ ap (λ (es : List (ℕ × ℕ × ℕ)). block_of es 0) c.extents.ensures.extents in
      let P : Option disk.Content → Type 0 = λ o. IfSome o (λ held. c.read_header.new.into ≡ header_at c.block-block.result blocks (disk.as_it_reads held)) in
      let read : c.read_header.new.into ≡ header_at c.block-block.result blocks v = subst P told c.in-Ok.ensures.header in
      let header : c.read_header.new.into ≡ header_of h v = read ∙ ap (λ (b : ℕ). header_at b blocks v) block_is ∙ header_read h blocks k whole in
      let header' : c.read_header.new.into ≡ header_of c.args.self.now.machine.hw v = subst (λ (g : Hardware). c.read_header.new.into ≡ header_of g v) same header in
      let ends = ends_of_started c.args.from c.args.self.now c.start.new.self c.read_header.new.into c.start.result v (blocks_told blocks k whole ∙ c.requires.blocks) header' c.start.ensures.started in
      (k, c.read_header.ensures.content ∙ told, boot_ends c.args.self.now c.start.new.self blocks k c.args.from c.start.result whole c.requires.synced ends (subst IsHardware same c.extents.ensures.hardware));
  restored = search rules;
  image = λ k told.
      let whole = whole_content (g.D.Disk.block_count c.args.disk.now) (g.D.Disk.content c.args.disk.now) k told (g.met.D.Disk.well_formed c.args.disk.now) in
      let h = c.self.inside.machine.hw in
      let same = ap (λ (w : World). w.machine.hw) c.self.view_is in
      let v = disk.as_it_reads k in
      let blocks = g.D.Disk.block_count c.args.disk.now in
      let block_is : c.block-block.result ≡ block_of_slot h 0 = c.block-block.ensures.block ∙ ap (λ (es : List (ℕ × ℕ × ℕ)). block_of es 0) c.extents.ensures.extents in
      let P : Option disk.Content → Type 0 = λ o. IfSome o (λ held. c.read_header.new.into ≡ header_at c.block-block.result blocks (disk.as_it_reads held)) in
      let read : c.read_header.new.into ≡ header_at c.block-block.result blocks v = subst P told c.in-Ok.ensures.header in
      let header : c.read_header.new.into ≡ header_of h v = read ∙ ap (λ (b : ℕ). header_at b blocks v) block_is ∙ header_read h blocks k whole in
      let header' : c.read_header.new.into ≡ header_of c.args.self.now.machine.hw v = subst (λ (g : Hardware). c.read_header.new.into ≡ header_of g v) same header in
      tells_mark c.args.from c.args.self.now c.start.new.self v c.start.result c.requires.synced
      (ends_of_started c.args.from c.args.self.now c.start.new.self c.read_header.new.into c.start.result v (blocks_told blocks k whole ∙ c.requires.blocks) header' c.start.ensures.started);
  works = search rules;
  fewer = search rules;
  hardware = search rules;
  blocks = search rules;
}
