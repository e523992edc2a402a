-- What a map writer keeps.
use Rattle.std.specs.Prelude.{◌≡◌, ℕ, ◌≤◌, List, map}
use Rattle.std.specs.List.{range_with_len}
use Rattle.definitions.specs.SwapMap.{map_page, map_entry, map_link}
use Rattle.image_format.specs.MapPages.{MapEntries}
use Rattle.image_format.specs.declared.map.writer.MapWriter.TheInside.{Inside}
use Rattle.definitions.specs.declared.counts.TheConstants.{MAP_PAGE_ENTRIES}

-- the first entries of a page
abbrev pub entries_of : List ℕ → ℕ → List ℕ
entries_of page count = map (map_entry page) (range_with_len 0 count)

abbrev pub kept_entries : Inside → MapEntries
kept_entries a = record { entries = entries_of a.page a.count; link = map_link a.page }

-- the page is the one with its entries and its link
pub record IsKept (a : Inside) : Type 0 where
  pub room : a.count ≤ MAP_PAGE_ENTRIES
  pub page : a.page ≡ map_page (entries_of a.page a.count) (map_link a.page)
