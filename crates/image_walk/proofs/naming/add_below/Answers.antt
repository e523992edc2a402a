use Rattle.std.proofs.Common.{◌≡◌, ℕ, ◌+◌, get_or, refl, arith, ap, sym, ◌∙◌, subst, List, length, take}
use Rattle.std.proofs.Math.Seq.{take-length}
use Rattle.image_walk.specs.Taken.{HasBlocks}
use Rattle.image_walk.proofs.Reserve.{reserve_one, reserve_none}
use Rattle.image_walk.proofs.naming.add_below.Goals.{then-block-blocks, else-block-blocks}
use Rattle.image_walk.proofs.naming.add_below.Goals as goal

pub loop-block-preserved : goal.loop-block-preserved
loop-block-preserved c =
    let members = c.args.members.now in
    let blocks = c.args.blocks in
    let index = c.loop-block.block-index in
    let i = c.loop-block.invariant in
    elim c.if-block-blocks.branch [
      | then-block-blocks w ↦ record {
        has = subst (λ (x : List ℕ). HasBlocks blocks (take (index + 1) members) x) (sym w.named-is)
            (reserve_one blocks index (get_or members index 0) members c.loop-block.named w.add_block.new.words i.has c.loop-block-test.true refl w.add_block.ensures.added w.add_block.ensures.room);
        room = ap length w.named-is ∙ w.add_block.ensures.room ∙ i.room;
      }
      | else-block-blocks w ↦ record {
        has = subst (λ (x : List ℕ). HasBlocks blocks (take (index + 1) members) x) (sym w.named-is)
            (reserve_none blocks index (get_or members index 0) members c.loop-block.named i.has c.loop-block-test.true refl w.if-block-blocks.false);
        room = ap length w.named-is ∙ i.room;
      }
    ]

pub returns-clause-has : goal.returns-clause-has
returns-clause-has c =
    let members = c.args.members.now in
    let all : c.loop-block.block-index ≡ length members = omega arith in
    subst (λ (x : List ℕ). HasBlocks c.args.blocks x c.loop-block.named) (ap (λ n. take n members) all ∙ take-length members) c.loop-block.invariant.has
