-- How an image saves pages of zeros.
use Rattle.std.specs.Prelude.{◌≡◌, ℕ, List, Option, Some, None}
use Rattle.page_core.specs.declared.format.Format.{Format}
use Rattle.page_core.specs.declared.format.Format.TheVariants.{Plain}
use Rattle.definitions.specs.Disk.{Content, DiskImage, block}
use Rattle.image_format.specs.AreaKind.{area_kind}
use Rattle.image_format.specs.declared.signature.area.Mark.{Mark}
use Rattle.image_check.specs.Checked.{format_of, mark_in}
use Rattle.image_pages.specs.Clean.{Start, IsStart}

-- nothing is wrong with the header block, and its flags say that the image saves pages of zeros this way
abbrev pub SavesThere : Format → Option Content → (blocks header : ℕ) → Type 0
SavesThere format content blocks header =
    (start : Start) × IsStart content blocks header start × (start.format ≡ format)

-- the format by the flags of a mark; without a mark there is no image either
abbrev pub format_marked : Option Mark → Format
format_marked None = Plain
format_marked (Some mark) = format_of mark.flags

-- the format by the header block of an area, as the disk reads
abbrev pub chain_format : DiskImage → ℕ → Format
chain_format v header = format_marked (mark_in (area_kind (block v header)))
