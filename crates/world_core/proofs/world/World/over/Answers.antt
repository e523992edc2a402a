use Rattle.std.proofs.Common.{refl}
use Rattle.world_core.proofs.New.{stands_new, stands_marked}
use Rattle.world_core.proofs.world.World.over.Goals as goal

pub returns-clause-new : goal.returns-clause-new
returns-clause-new c = λ kept keeps. record {
  hardware = c.of.ensures.hw;
  at_rest = refl;
  blocks = c.of.ensures.blocks;
  unmarked = λ v un. stands_new _ c.args.hw kept v (record { hardware = c.of.ensures.hw; is_off = refl; memory = keeps }) un;
  marked = λ v marked un. stands_marked _ c.args.hw kept v (record { hardware = c.of.ensures.hw; is_off = refl; memory = keeps }) marked un;
}
