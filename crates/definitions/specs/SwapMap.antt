-- A page of the swap map (struct swap_map_page, kernel/power/swap.c): 511 entries and the link to the next page.
use Rattle.std.specs.Prelude.{ℕ, List}
use Rattle.definitions.specs.Bytes.{word, with_word}
use Rattle.definitions.specs.NumberPages.{page_of_words}
use Rattle.definitions.specs.declared.counts.TheConstants.{MAP_PAGE_ENTRIES}

-- the map page with these entries, at most 511, and this link; unused entries are 0
unfoldable pub map_page : List ℕ → ℕ → List ℕ
map_page entries link = with_word (page_of_words entries) MAP_PAGE_ENTRIES link

-- entry k, below 511, and the link
abbrev pub map_entry : List ℕ → ℕ → ℕ
map_entry page k = word page k

abbrev pub map_link : List ℕ → ℕ
map_link page = word page MAP_PAGE_ENTRIES
