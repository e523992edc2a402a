-- What the header block of an image (struct swsusp_header, kernel/power/swap.c) says, and what is wrong with it.
use Rattle.std.specs.Prelude.{ℕ, ◌/◌, ◌%◌, ◌==◌, ◌&&◌, Bool, List, ◌++◌, nat_le, replicate, if◌then◌else◌, Option, Some}
use Rattle.std.specs.Prelude.{None}
use Rattle.definitions.specs.SwapHeader.{taken_back}
use Rattle.image_format.specs.AreaKind.{area_kind}
use Rattle.image_format.specs.declared.signature.area.AreaFault.TheVariants as fault
use Rattle.image_format.specs.declared.signature.area.AreaKind.{AreaKind}
use Rattle.image_format.specs.declared.signature.area.AreaKind.TheVariants as kind
use Rattle.image_walk.specs.declared.limits.Limits.{Limits}
use Rattle.image_check.specs.declared.finding.Finding.{Finding}
use Rattle.image_check.specs.declared.finding.Finding.TheVariants as finding
use Rattle.image_check.specs.Told.{list_of}

-- What is wrong with the area that the header describes once its mark is taken back. No kernel swaps on an area of
-- version 0 (SWAP-SPACE), whose header has other bytes in the place of the last page. The end is known only of an area
-- that begins at block 0.
abbrev pub area_fault : ℕ → ℕ → AreaKind → Option Finding
area_fault blocks header (kind.Image mark) = Some finding.OriginalSignature
area_fault blocks header kind.Old = Some (finding.Area (fault.Version 0))
area_fault blocks header (kind.Other sig) = Some finding.OriginalSignature
area_fault blocks header (kind.BadArea why) = Some (finding.Area why)
area_fault blocks header (kind.Swap area) =
    if (header == 0) && nat_le blocks area.last then Some (finding.LastPage area.last blocks) else None

-- the blocks that the image may name: those of an area that begins at block 0, else all blocks of the file
abbrev pub any_block : ℕ → ℕ → Limits
any_block blocks header = record { blocks = blocks; header = header; last = 4294967295; bad = replicate 630 0 }

abbrev pub limits_of : ℕ → ℕ → AreaKind → Limits
limits_of blocks header (kind.Image mark) = any_block blocks header
limits_of blocks header kind.Old = any_block blocks header
limits_of blocks header (kind.Other sig) = any_block blocks header
limits_of blocks header (kind.BadArea why) = any_block blocks header
limits_of blocks header (kind.Swap area) =
    if header == 0 then record { blocks = blocks; header = header; last = area.last; bad = area.bad }
    else any_block blocks header

-- the image is compressed: SF_NOCOMPRESS_MODE, which is 2, isn't set
abbrev pub is_compressed : ℕ → Bool
is_compressed flags = (flags / 2) % 2 == 0

abbrev pub compressed_fault : ℕ → Option Finding
compressed_fault flags = if is_compressed flags then Some (finding.Compressed flags) else None

-- all that is wrong with a header block whose mark has these flags
abbrev pub header_findings : (blocks header flags : ℕ) → List ℕ → List Finding
header_findings blocks header flags page =
    list_of (area_fault blocks header (area_kind (taken_back page))) ++ list_of (compressed_fault flags)
