-- What contracts say of a disk in a file, besides what it says as a disk.
use Rattle.std.specs.Prelude.{◌≡◌, ◌<ℤ◌, ℤ, pos, []}
use Rattle.file_disk.specs.declared.file_disk.FileDisk.{FileDisk}

-- nothing was counted yet, and no call was made
pub record IsNewFileDisk {F : Type 0} (d : FileDisk F) : Type 0 where
  pub calls : d.calls ≡ 0
  pub faults : d.faults ≡ 0
  pub orders : d.orders.list ≡ []

-- not the descriptor of a standard stream: those are 0, 1 and 2 (unistd.h)
abbrev pub IsNoStream : ℤ → Type 0
IsNoStream fd = pos 2 <ℤ fd
