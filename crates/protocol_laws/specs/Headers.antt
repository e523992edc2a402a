-- What a header block is (union swap_header, include/linux/swap.h).
use Rattle.std.specs.Prelude.{Bool, true, false}
use Rattle.image_format.specs.declared.signature.area.AreaKind.{AreaKind}
use Rattle.image_format.specs.declared.signature.area.AreaKind.TheVariants.{Image, Old, Other, BadArea, Swap}

-- whether the header block is that of an image
abbrev pub is_image : AreaKind → Bool
is_image (Image mark) = true
is_image Old = false
is_image (Other sig) = false
is_image (BadArea why) = false
is_image (Swap area) = false
