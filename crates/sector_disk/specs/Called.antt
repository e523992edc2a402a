-- What one call of a disk leaves, or at most one, in terms of the trait's meanings (src/disk.rt). It has no counterpart
-- in Linux.
use Rattle.std.specs.Prelude.{◌≡◌, ◌≤◌, ◌⊎◌, ℕ, IsTrue}
use Rattle.definitions.specs.Disk.{Changes, Elapses, HasRisen, raised}
use Rattle.sector_disk.specs.declared.disk.Disk.{Ghosts}

-- one read, write or sync was made; at most one
abbrev pub OneCall : ℕ → ℕ → Type 0
OneCall before after = after ≡ raised before

abbrev pub AtMostOneCall : ℕ → ℕ → Type 0
AtMostOneCall before after = (after ≡ before) ⊎ (after ≡ raised before)

-- Reads, writes and syncs were made, but no restart or arm. If the operation fails because a call did, the disk has
-- counted a failure. The disk keeps its size and still tells what it told. If it tells moments, the clock doesn't fall,
-- and what a cut may leave now it may have left since `before`.
pub record Called {X : Type 0} (D : Ghosts X) (made : ℕ → ℕ → Type 0) (fails : Type 0) (before after : X) : Type 0 where
  pub cause : fails → HasRisen (D.faults before) (D.faults after)
  pub faults : D.faults before ≤ D.faults after
  pub calls : made (D.calls before) (D.calls after)
  pub orders : D.orders after ≡ D.orders before
  pub blocks : D.block_count after ≡ D.block_count before
  pub telling : D.tells_moments after ≡ D.tells_moments before
  pub time : IsTrue (D.tells_moments before) →
      Changes (Elapses (D.moment before) (D.moment after) (D.left_since before) (D.left_since after)) (D.content before)
      (D.content after)
