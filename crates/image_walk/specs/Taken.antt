-- The blocks that may not be named again, as a set.
use Rattle.std.specs.List.{list_any}
use Rattle.std.specs.Prelude.{◌≡◌, ℕ, ◌*◌, ◌<◌, ◌≤◌, ◌==◌, ◌||◌, List, length}
use Rattle.image_walk.specs.BlockSets.{has_block}
use Rattle.image_walk.specs.Names.{Name, is_named, is_bad}
use Rattle.image_walk.specs.declared.limits.Limits.{Limits}

-- of the disk's blocks except block 0, the set has exactly the bad pages, the header's block and those that were named
pub record IsTaken (l : Limits) (words : List ℕ) (h : List Name) : Type 0 where
  pub room : l.blocks ≤ 64 * length words
  pub has : (b : ℕ) → 0 < b → b < l.blocks → has_block words b ≡ (is_bad l b || ((b == l.header) || is_named b h))

-- of the blocks below a number, the set has exactly these
pub record HasBlocks (blocks : ℕ) (members words : List ℕ) : Type 0 where
  pub room : blocks ≤ 64 * length words
  pub has : (b : ℕ) → b < blocks → has_block words b ≡ list_any (λ x. x == b) members
