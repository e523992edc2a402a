-- What the header block of an area says (union swap_header, include/linux/swap.h; struct swsusp_header,
-- kernel/power/swap.c).
use Rattle.std.specs.Prelude.{ℕ, ◌/◌, ◌%◌, ◌==◌, true, false, List, [], ◌∷◌, ◌++◌, length, map, take, if◌then◌else◌}
use Rattle.std.specs.Prelude.{Option, Some, None}
use Rattle.definitions.specs.Bytes.{bytes_at, number_at}
use Rattle.definitions.specs.InfoPage.{text_of_name}
use Rattle.definitions.specs.SwapHeader.{taken_back}
use Rattle.image_format.specs.AreaKind.{area_kind}
use Rattle.image_format.specs.declared.signature.area.Area.{Area}
use Rattle.image_format.specs.declared.signature.area.AreaKind.{AreaKind}
use Rattle.image_format.specs.declared.signature.area.AreaKind.TheVariants as kind
use Rattle.image_format.specs.declared.signature.area.Mark.{Mark}
use Rattle.image_check.specs.Checked.{mark_in}
use Rattle.image_show.specs.declared.facts.fact.Fact.{Fact}
use Rattle.image_show.specs.declared.facts.fact.Fact.TheVariants as fact
use Rattle.image_show.specs.declared.facts.fact.Flag.{Flag}
use Rattle.image_show.specs.declared.facts.fact.Flag.TheVariants as flag

-- a label (sws_volume), if it isn't empty
abbrev pub label_facts : List ℕ → List Fact
label_facts label = if length (text_of_name label) == 0 then [] else fact.Label label ∷ []

-- a version 1 area: its last page, its bad pages, and sws_uuid and sws_volume, 16 bytes each
abbrev pub swap_facts : List ℕ → Area → List Fact
swap_facts page area =
    (fact.AreaSwap ∷ fact.LastPage area.last ∷ fact.BadPages area.count ∷ [])
    ++ map fact.BadPage (take area.count area.bad)
    ++ fact.Uuid (bytes_at 16 page 1036) ∷ label_facts (bytes_at 16 page 1052)

-- what a header block says of its area
abbrev pub area_facts : List ℕ → AreaKind → List Fact
area_facts page (kind.Image mark) = fact.AreaImage ∷ []
area_facts page kind.Old = fact.AreaOld ∷ []
area_facts page (kind.Other sig) = fact.AreaOther sig ∷ []
area_facts page (kind.BadArea why) = fact.AreaBad why ∷ []
area_facts page (kind.Swap area) = swap_facts page area

-- the flags that are set (SF_PLATFORM_MODE and the next, kernel/power/power.h; 256 is this project's own)
abbrev pub flag_fact : ℕ → ℕ → Flag → List Fact
flag_fact flags bit f = if flags / bit % 2 == 1 then fact.Flag f ∷ [] else []

abbrev pub flag_facts : ℕ → List Fact
flag_facts flags =
    flag_fact flags 1 flag.PlatformMode ++ flag_fact flags 2 flag.NoCompress ++ flag_fact flags 4 flag.Crc32
    ++ flag_fact flags 8 flag.HwSig ++ flag_fact flags 256 flag.ZerosSkipped

-- the mark of an image
abbrev pub mark_facts : List ℕ → Mark → List Fact
mark_facts page mark =
    (fact.FirstMap mark.first ∷ fact.Flags mark.flags ∷ []) ++ flag_facts mark.flags
    ++ fact.HwSig mark.hw_sig ∷ fact.Crc32 (number_at 4 page 4060) ∷ []

-- if a header block has a mark, the area is the one that it describes once its mark is taken back
abbrev pub facts_by_mark : List ℕ → Option Mark → List Fact
facts_by_mark page None = fact.Image false ∷ area_facts page (area_kind page)
facts_by_mark page (Some mark) = fact.Image true ∷ area_facts (taken_back page) (area_kind (taken_back page))
    ++ mark_facts page mark

-- all that a header block says, in a file with the given number of blocks
abbrev pub header_facts : ℕ → List ℕ → List Fact
header_facts blocks page = fact.Blocks blocks ∷ facts_by_mark page (mark_in (area_kind page))
