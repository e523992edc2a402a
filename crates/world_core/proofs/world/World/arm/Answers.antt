use Rattle.std.proofs.Common.{◌∙◌}
use Rattle.world_core.proofs.Cutting.{row_of_arm}
use Rattle.world_core.proofs.world.World.arm.Goals as goal

pub returns-clause-row : goal.returns-clause-row
returns-clause-row g c = λ k told. (k, c.arm.ensures.content ∙ told, row_of_arm c.args.self.now c.args.first c.args.count c.args.pick k)
