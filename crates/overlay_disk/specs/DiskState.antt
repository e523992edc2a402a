-- The state of a disk at a moment.
use Rattle.std.specs.Prelude.{◌≡◌, ◌≢◌, ◌<◌, ℕ, List, Option}
use Rattle.definitions.specs.Disk.{Content, last_count}
use Rattle.sector_disk.specs.declared.orders.Order.{Order}

-- which disk it is, its number of blocks, its content if the disk tells it, how many calls failed and how many were
-- made, and the restarts and arms that it was asked for
pub record DiskState : Type 0 where
  pub which : ℕ
  pub blocks : ℕ
  pub content : Option Content
  pub faults : ℕ
  pub calls : ℕ
  pub orders : List Order

-- It is the same disk with the same content: there was no write, sync, restart or arm in between.
pub record IsSame (old new : DiskState) : Type 0 where
  pub which : new.which ≡ old.which
  pub blocks : new.blocks ≡ old.blocks
  pub content : new.content ≡ old.content
  pub orders : new.orders ≡ old.orders

-- the count has risen, unless it is at its last value
abbrev pub RisesBelowLast : ℕ → ℕ → Type 0
RisesBelowLast before now = now ≢ last_count → before < now
