use Rattle.image_walk.proofs.Reserve.{taken_with, taken_without}
use Rattle.image_walk.proofs.naming.reserve.Goals as goal

pub returns-then-limits-clause-taken : goal.returns-then-limits-clause-taken
returns-then-limits-clause-taken c =
    taken_with c.args.limits.now c.add_below.new.named c.add_block.new.words c.add_below.ensures.has c.add_block.ensures.added c.add_block.ensures.room

pub returns-else-limits-clause-taken : goal.returns-else-limits-clause-taken
returns-else-limits-clause-taken c =
    taken_without c.args.limits.now c.add_below.new.named c.add_below.ensures.has c.if-limits.false
