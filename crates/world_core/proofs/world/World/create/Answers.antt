use Rattle.std.proofs.Common.{false, None, refl}
use Rattle.world_core.proofs.New.{new_of}
use Rattle.world_core.proofs.world.World.create.Goals as goal

pub returns : goal.returns
returns c = new_of c.args.hw c.in_ok-frames.frames false None c.over.result c.over.ensures.new refl
