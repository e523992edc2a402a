-- An image whose maps don't lie on the disk that is searched for them.
use Rattle.std.specs.Prelude.{ℕ, nat_le, Option, Some, None, if◌then◌else◌}
use Rattle.image_format.specs.declared.signature.area.AreaKind.{AreaKind}
use Rattle.image_format.specs.declared.signature.area.AreaKind.TheVariants as kind

-- the block of the first map (`image` of struct swsusp_header), if the disk ends before it
abbrev pub map_beyond : ℕ → AreaKind → Option ℕ
map_beyond blocks (kind.Image mark) = if nat_le blocks mark.first then Some mark.first else None
map_beyond blocks kind.Old = None
map_beyond blocks (kind.Other sig) = None
map_beyond blocks (kind.BadArea why) = None
map_beyond blocks (kind.Swap area) = None
