-- What the header block of a swap area says (union swap_header, include/linux/swap.h; swsusp_check,
-- kernel/power/swap.c).
use Rattle.std.specs.Prelude.{ℕ, ◌-◌, ◌==◌, ◌++◌, List, Bool, nat_eq, nat_lt, if◌then◌else◌, replicate, Option, Some}
use Rattle.std.specs.Prelude.{None}
use Rattle.std.specs.Cmp.Lexicographic.{pointwise}
use Rattle.definitions.specs.SwapHeader.{image_signature, old_signature, area_signature, version_of, last_page_of}
use Rattle.definitions.specs.SwapHeader.{bad_count_of, bad_pages_of, hw_sig_of, image_of, flags_of, sig_of}
use Rattle.definitions.specs.SwapHeader.{first_outside}
use Rattle.image_format.specs.declared.signature.area.Area.{Area}
use Rattle.image_format.specs.declared.signature.area.Mark.{Mark}
use Rattle.image_format.specs.declared.signature.area.AreaFault.{AreaFault}
use Rattle.image_format.specs.declared.signature.area.AreaFault.TheVariants.{Version, BadCount, LastZero, BadEntry}
use Rattle.image_format.specs.declared.signature.area.AreaKind.{AreaKind}
use Rattle.image_format.specs.declared.signature.area.AreaKind.TheVariants.{Image, Old, Other, BadArea, Swap}

-- whether two signatures are the same
abbrev pub same_bytes : List ℕ → List ℕ → Bool
same_bytes xs ys = pointwise nat_eq xs ys

-- the mark's fields, untested
abbrev pub mark_of : List ℕ → Mark
mark_of page = record {
  last = last_page_of page;
  count = bad_count_of page;
  first = image_of page;
  flags = flags_of page;
  hw_sig = hw_sig_of page;
}

-- the area of a header block without a fault
unfoldable pub area_of : List ℕ → Area
area_of page = record {
  last = last_page_of page;
  count = bad_count_of page;
  bad = bad_pages_of page (bad_count_of page) ++ replicate (630 - bad_count_of page) 0;
}

-- the version 1 area of a block, or its first fault
abbrev pub area_with : List ℕ → Option ℕ → AreaKind
area_with page (Some slot) = BadArea (BadEntry slot)
area_with page None = Swap (area_of page)

abbrev pub version_1_kind : List ℕ → AreaKind
version_1_kind page =
    if version_of page == 1 then
    (if nat_lt 630 (bad_count_of page) then BadArea (BadCount (bad_count_of page))
    else (if last_page_of page == 0 then BadArea LastZero
    else area_with page (first_outside (last_page_of page) (bad_pages_of page (bad_count_of page)))))
    else BadArea (Version (version_of page))

-- what a header block says, tested in this order
unfoldable pub area_kind : List ℕ → AreaKind
area_kind page =
    if same_bytes (sig_of page) image_signature then Image (mark_of page)
    else (if same_bytes (sig_of page) old_signature then Old
    else (if same_bytes (sig_of page) area_signature then version_1_kind page
    else Other (sig_of page)))
