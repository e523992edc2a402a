use Rattle.std.proofs.Common.{◌<◌, refl, sym, ◌∙◌, arith}
use Rattle.std.proofs.lemmas.Bool.{both_ways}
use Rattle.image_read.proofs.Blocks.{sound_block, block_sound}
use Rattle.image_read.proofs.area.Area.checked.Goals as goal

pub returns-then-not-has_slot_on-clause-ok : goal.returns-then-not-has_slot_on-clause-ok
returns-then-not-has_slot_on-clause-ok c =
    let a = c.args.self.now in (
      λ x. cc,
      λ ok. absurd (both_ways c.has_slot_on.result c.if-not-has_slot_on.true (c.has_slot_on.ensures.1 (block_sound a.map a.blocks a.last c.args.block ok).on)),
    )

pub returns-clause-ok : goal.returns-clause-ok
returns-clause-ok c =
    let a = c.args.self.now in
    let below : c.args.block < a.blocks = omega arith in (
      λ x. sound_block a.map a.blocks a.last c.args.block (λ e. c.if-block.false (e ∙ sym c.block.ensures.block)) below (c.has_slot_on.ensures.0 c.if-not-has_slot_on.false),
      λ ok. refl,
    )
