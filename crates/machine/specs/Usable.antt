-- Areas that a machine can use.
use Rattle.std.specs.Prelude.{◌≡◌, ◌≤◌, ◌<◌, ℕ, ◌+◌, ◌-◌}
use Rattle.image_format.specs.declared.signature.area.Area.{Area}
use Rattle.image_format.specs.declared.signature.area.AreaKind.{AreaKind}
use Rattle.image_format.specs.declared.signature.area.AreaKind.TheVariants.{Swap}

-- the kind of a header block is this area
abbrev pub HasKind : AreaKind → Area → Type 0
HasKind kind area = kind ≡ Swap area

-- an extent (first slot, length, first block) has a slot up to `last` past the end of a disk of `blocks` blocks
abbrev pub Passes : ℕ × ℕ × ℕ → ℕ → ℕ → Type 0
Passes e last blocks = (blocks - e.2 < e.1) × (e.0 + (blocks - e.2) ≤ last)
