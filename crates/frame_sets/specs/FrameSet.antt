-- What a contract sees of a bitmap: the zones that it was made over, and the set of page frames.
use Rattle.std.specs.Prelude.{ℕ, List, All, Contains}
use Rattle.std.specs.List.Sorted.{IsStrictlyIncreasing}
use Rattle.definitions.specs.Zones.{numbers}
use Rattle.definitions.specs.ZoneFacts.{AreZones}

pub record FrameSet : Type 0 where
  pub zones : List (ℕ × ℕ)
  pub members : List ℕ

-- the members ascend, and each is valid
pub record IsFrameSet (set : FrameSet) : Type 0 where
  pub zones : AreZones set.zones
  pub ascending : IsStrictlyIncreasing set.members
  pub valid : All (Contains (numbers set.zones)) set.members
