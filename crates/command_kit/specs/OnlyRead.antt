-- A disk that a command only reads. It has no counterpart in Linux.
use Rattle.std.specs.Prelude.{◌≡◌, ◌≤◌}
use Rattle.sector_disk.specs.declared.disk.Disk.{Ghosts}

-- The disk keeps its content and its size, failures only add up, and no restart or arm is asked for.
pub record IsOnlyRead {X : Type 0} (D : Ghosts X) (before after : X) : Type 0 where
  pub content : D.content after ≡ D.content before
  pub faults : D.faults before ≤ D.faults after
  pub orders : D.orders after ≡ D.orders before
  pub blocks : D.block_count after ≡ D.block_count before
