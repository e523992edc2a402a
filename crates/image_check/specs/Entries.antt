-- What is wrong with a name of a history, and with the page that it names.
use Rattle.std.specs.Prelude.{ℕ, ◌+◌, ◌*◌, ◌-◌, ◌/◌, ◌==◌, ◌&&◌, not, min, Bool, List, [], ◌∷◌, nat_le, nat_lt}
use Rattle.std.specs.Prelude.{if◌then◌else◌, Option, Some, None, Result, Ok, Err}
use Rattle.page_core.specs.declared.format.Format.{Format}
use Rattle.page_core.specs.declared.format.Format.TheVariants.{Plain, SkipZeros}
use Rattle.definitions.specs.Bytes.{word}
use Rattle.definitions.specs.Disk.{last_count}
use Rattle.definitions.specs.NumberPages.{meta_of}
use Rattle.image_walk.specs.Names.{Name, map_at, page_at, maps_in, newest_map, left_in}
use Rattle.image_walk.specs.declared.visit.BlockFault.{BlockFault}
use Rattle.image_check.specs.declared.finding.Counts.{Counts}
use Rattle.image_check.specs.declared.finding.Finding.{Finding}
use Rattle.image_check.specs.declared.finding.Finding.TheVariants as finding
use Rattle.image_check.specs.declared.finding.Place.{Place}
use Rattle.image_check.specs.Info.{counts_in, info_findings}
use Rattle.image_check.specs.Numbers.{data_words, number_findings}
use Rattle.image_check.specs.Told.{list_of}
use Rattle.definitions.specs.declared.counts.TheConstants.{MAP_PAGE_ENTRIES}

-- the position in the image of the page that the next entry names: 0 is the info page
abbrev pub position_of : List Name → ℕ
position_of h = MAP_PAGE_ENTRIES * (maps_in h - 1) + (MAP_PAGE_ENTRIES - left_in h)

abbrev pub place_of : List Name → Place
place_of h = record { map = maps_in h; at = newest_map h; entry = MAP_PAGE_ENTRIES - left_in h }

abbrev pub counts_seen : Result (List ℕ) BlockFault → Option Counts
counts_seen (Ok page) = Some (counts_in page)
counts_seen (Err why) = None

-- what the info page says, once it was read
abbrev pub counts_of : List Name → Option Counts
counts_of [] = None
counts_of (map_at b answer ∷ h) = counts_of h
counts_of (page_at b answer ∷ h) = if position_of h == 0 then counts_seen answer else counts_of h

abbrev pub last_word : Result (List ℕ) BlockFault → Option ℕ
last_word (Ok page) = Some (word page MAP_PAGE_ENTRIES)
last_word (Err why) = None

-- the last word of the previous page, unless that is the info page
abbrev pub previous_of : List Name → Option ℕ
previous_of [] = None
previous_of (map_at b answer ∷ h) = previous_of h
previous_of (page_at b answer ∷ h) = if position_of h == 0 then None else last_word answer

-- How many numbers on the number pages have a data page, so far; unknown once one of these pages wasn't read. The count
-- saturates.
abbrev pub counted_with : Option ℕ → Option ℕ → Option ℕ
counted_with None more = None
counted_with (Some d) None = None
counted_with (Some d) (Some more) = Some (min (d + more) last_count)

abbrev pub data_seen : (n position : ℕ) → Result (List ℕ) BlockFault → Option ℕ
data_seen n position (Ok page) = Some (data_words n position page)
data_seen n position (Err why) = None

abbrev pub data_after : Option Counts → (position : ℕ) → Option ℕ → Result (List ℕ) BlockFault → Option ℕ
data_after None position counted answer = counted
data_after (Some c) position counted answer =
    if nat_le position (meta_of c.image_pages) then counted_with counted (data_seen c.image_pages position answer)
    else counted

abbrev pub data_of : List Name → Option ℕ
data_of [] = Some 0
data_of (map_at b answer ∷ h) = data_of h
data_of (page_at b answer ∷ h) = data_after (counts_of h) (position_of h) (data_of h) answer

-- no page is wanted: the image has no more, or, if its number of pages isn't known, none is named
abbrev pub is_unused : Option Counts → (position b : ℕ) → Bool
is_unused None position b = nat_lt 0 position && (b == 0)
is_unused (Some c) position b = nat_le c.pages position

abbrev pub wanted_fault : {A : Type 0} → Place → Result A BlockFault → Option Finding
wanted_fault place (Ok page) = None
wanted_fault place (Err why) = Some (finding.Entry place why)

-- what is wrong with the block that an entry names
abbrev pub entry_fault : {A : Type 0} → Option Counts → ℕ → Place → ℕ → Result A BlockFault → Option Finding
entry_fault counts position place b answer =
    if is_unused counts position b then (if b == 0 then None else Some (finding.AfterPages place b))
    else wanted_fault place answer

-- what is wrong with a page of the image: the info page is followed by the number pages, and these by the saved pages
abbrev pub listed_findings : Format → Option Counts → ℕ → Option ℕ → List ℕ → List Finding
listed_findings format None position previous page = []
listed_findings format (Some c) position previous page =
    if nat_le position (meta_of c.image_pages) then number_findings format c.image_pages position previous page else []

abbrev pub page_findings : Format → Option Counts → ℕ → Option ℕ → List ℕ → List Finding
page_findings format counts position previous page =
    if position == 0 then info_findings format page else listed_findings format counts position previous page

abbrev pub read_findings : Format → Option Counts → (position b : ℕ) → Option ℕ → Result (List ℕ) BlockFault →
    List Finding
read_findings format counts position b previous (Err why) = []
read_findings format counts position b previous (Ok page) =
    if is_unused counts position b then [] else page_findings format counts position previous page

-- After the last number page: if pages of zeros have no data page, the number of pages must follow from the numbers
-- that have one.
abbrev pub data_fault : Format → Option Counts → ℕ → Option ℕ → Option Finding
data_fault Plain counts position counted = None
data_fault SkipZeros None position counted = None
data_fault SkipZeros (Some c) position None = None
data_fault SkipZeros (Some c) position (Some d) =
    if (position == meta_of c.image_pages) && not (c.pages == d + (meta_of c.image_pages + 1))
    then Some (finding.DataPages d c.pages) else None

abbrev pub data_findings : Format → Option Counts → ℕ → Option ℕ → Result (List ℕ) BlockFault → List Finding
data_findings format counts position counted (Err why) = []
data_findings format counts position counted (Ok page) = list_of (data_fault format counts position counted)

-- the chain has ended too early
abbrev pub ends_fault : Option Counts → ℕ → Option Finding
ends_fault None maps = None
ends_fault (Some c) maps = if nat_lt (MAP_PAGE_ENTRIES * maps) c.pages then Some (finding.Ends maps c.pages) else None

-- A writer makes one map for each full 511 pages, and one more (swap_write_page).
abbrev pub after_fault : Option Counts → (map b : ℕ) → Option Finding
after_fault None map b = None
after_fault (Some c) map b =
    if nat_lt (c.pages / MAP_PAGE_ENTRIES + 1) map then Some (finding.AfterMaps map b) else None

-- What is wrong with the block that is named as a map. The last map names no block.
abbrev pub map_fault : {A : Type 0} → Option Counts → (map b : ℕ) → Result A BlockFault → Option Finding
map_fault counts map b (Ok page) = after_fault counts map b
map_fault counts map b (Err why) =
    if (b == 0) && nat_lt 1 map then ends_fault counts (map - 1) else Some (finding.Map map why)
