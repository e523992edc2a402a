use Rattle.std.proofs.Common.{◌≡◌, ◌-◌, ap, ◌∙◌, arith}
use Rattle.std.proofs.lemmas.Bool.{eq-eqb}
use Rattle.definitions.specs.Slots.{block_of, slots_of}
use Rattle.image_read.proofs.PastSlots.{past_apart}
use Rattle.image_read.proofs.area.Area.is_past_end.Goals as goal

pub returns-then-block-end-clause-past : goal.returns-then-block-end-clause-past
returns-then-block-end-clause-past c = λ s le some last is.
    let map = c.args.self.now.map in
    let apart = past_apart map (slots_of map) s c.args.self.now.last c.block-end.ensures.map le last in
    let end_is = c.block-end.ensures.block in
    absurd (omega arith)

pub returns-then-back-from-clause-past : goal.returns-then-back-from-clause-past
returns-then-back-from-clause-past c = λ s le some last is.
    let map = c.args.self.now.map in
    let apart = past_apart map (slots_of map) s c.args.self.now.last c.block-end.ensures.map le last in
    let end_is = c.block-end.ensures.block in
    absurd (omega arith)

pub returns-clause-past : goal.returns-clause-past
returns-clause-past c = λ s le some last is.
    let map = c.args.self.now.map in
    let apart = past_apart map (slots_of map) s c.args.self.now.last c.block-end.ensures.map le last in
    let end_is = c.block-end.ensures.block in
    let back : c.args.self.now.last - (c.block-end.result - c.args.block) ≡ s = omega arith in
    eq-eqb c.block.result c.args.block (c.block.ensures.block ∙ ap (block_of map) back ∙ is)
