use Rattle.std.proofs.Common.{refl, arith}
use Rattle.definitions.proofs.ZoneNumbers.{below_top}
use Rattle.image_machine.proofs.Adding.{plan_added}
use Rattle.image_machine.proofs.plan.Plan.add.Goals as goal

pub returns-then-number-from-clause-outside : goal.returns-then-number-from-clause-outside
returns-then-number-from-clause-outside c = (
  refl,
  λ in'.
      let below = below_top c.args.self.now.zones c.args.number c.top.ensures.zones.apart in' in
      let top = c.top.ensures.top in
      let from = c.from.ensures in
      let test = c.if-number-from.true in
      omega arith,
)

pub returns-clause-plan : goal.returns-clause-plan
returns-clause-plan c =
    plan_added c.args.self.now c.args.number c.set.new.self c.requires (c.valid.ensures.valid.0 c.if-not-valid.false) c.set.ensures
