use Rattle.std.proofs.Common.{true, Some, refl}
use Rattle.world_core.proofs.New.{new_of}
use Rattle.world_core.proofs.world.World.from_dump.Goals as goal

pub returns-clause-new : goal.returns-clause-new
returns-clause-new c = new_of c.args.dump.hw c.args.dump.frames true (Some c.args.dump.frames) c.over.result c.over.ensures.new (refl, refl, c.requires)
