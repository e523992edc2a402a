use Rattle.definitions.specs.Moves.{pass_over, paths_over, ascending, descending}
use Rattle.placement.specs.Pending.{begun}
use Rattle.placement.specs.Tables.{HasPass}
use Rattle.placement.proofs.Taking.{HasPass-follows}
use Rattle.placement.proofs.Arranging.{IsArranged, arranged}
use Rattle.placement.proofs.relocation.order.Order.arrange.Goals as goal
use Rattle.placement.proofs.relocation.order.Order.arrange.Goals.{After-descend, After-ascend, After-follow_paths, After-break_cycles}

down : (c : After-descend) → HasPass c.descend.new.self
down c =
    let loaded : HasPass c.load.new.self = record { pass = begun c.args.moves.now; at = c.load.ensures.at } in
    HasPass-follows c.load.new.self c.descend.new.self (pass_over (descending c.load.new.self.top)) c.descend.ensures.follows loaded

pub ascend-requires-clause-pass : goal.ascend-requires-clause-pass
ascend-requires-clause-pass c = down (goal.at.ascend-requires-clause-pass c).After-descend

pub follow_paths-requires-clause-pass : goal.follow_paths-requires-clause-pass
follow_paths-requires-clause-pass c =
    HasPass-follows c.descend.new.self c.ascend.new.self (pass_over (ascending c.descend.new.self.top)) c.ascend.ensures.follows
    (down (goal.at.follow_paths-requires-clause-pass c).After-descend)

pub break_cycles-requires-clause-pass : goal.break_cycles-requires-clause-pass
break_cycles-requires-clause-pass c =
    HasPass-follows c.ascend.new.self c.follow_paths.new.self (paths_over (ascending c.ascend.new.self.top)) c.follow_paths.ensures.follows
    (HasPass-follows c.descend.new.self c.ascend.new.self (pass_over (ascending c.descend.new.self.top)) c.ascend.ensures.follows
    (down (goal.at.break_cycles-requires-clause-pass c).After-descend))

all : (c : After-break_cycles) → IsArranged c.break_cycles.new.self c.args.self.now.top c.args.bounce c.args.moves.now
all c =
    arranged c.load.new.self c.descend.new.self c.ascend.new.self c.follow_paths.new.self c.break_cycles.new.self c.args.self.now.top c.args.bounce c.args.moves.now
    c.load.ensures.at c.load.ensures.sized c.load.ensures.top c.descend.ensures.follows c.ascend.ensures.follows c.follow_paths.ensures.follows c.break_cycles.ensures.follows

pub returns-clause-order : goal.returns-clause-order
returns-clause-order c = (all (goal.at.returns-clause-order c).After-break_cycles).order

pub returns-clause-sized : goal.returns-clause-sized
returns-clause-sized c = (all (goal.at.returns-clause-sized c).After-break_cycles).sized
