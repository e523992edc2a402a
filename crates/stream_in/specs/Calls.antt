-- What consecutive disk calls leave, in terms of the `Disk` trait.
use Rattle.std.specs.Prelude.{◌≡◌, ◌≤◌, ℕ, ◌+◌}
use Rattle.definitions.specs.Disk.{HasRisen}
use Rattle.sector_disk.specs.declared.disk.Disk.{Ghosts}

-- at most `most` reads, writes and syncs
abbrev pub AtMost : ℕ → ℕ → ℕ → Type 0
AtMost most before after = after ≤ before + most

-- The number of calls meets `made`, and there was no restart or arm. If a call fails, the disk has counted a failure.
-- The disk is as large as before, and tells_moments is as before. What a cut may leave is said separately, as it
-- depends on what was written.
pub record HasCalled {X : Type 0} (D : Ghosts X) (made : ℕ → ℕ → Type 0) (fails : Type 0)
    (before after : X) : Type 0 where
  pub cause : fails → HasRisen (D.faults before) (D.faults after)
  pub faults : D.faults before ≤ D.faults after
  pub calls : made (D.calls before) (D.calls after)
  pub orders : D.orders after ≡ D.orders before
  pub blocks : D.block_count after ≡ D.block_count before
  pub telling : D.tells_moments after ≡ D.tells_moments before
