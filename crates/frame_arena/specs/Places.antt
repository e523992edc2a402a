-- Page frames whose pages lie in places: their contents, and what holds of the places.
use Rattle.std.specs.Prelude.{◌≡◌, ◌<◌, ◌≤◌, ◌+◌, ◌^◌, ℕ, zero, suc, List, [], length, map, slice_index, slice_index_or}
use Rattle.std.specs.Prelude.{nat_le}
use Rattle.std.specs.List.{count_by}
use Rattle.definitions.specs.Bytes.{zero_page, filled_page}
use Rattle.frame_arena.specs.Whole.{whole}

-- the page in a place
abbrev pub page_in : List (List ℕ) → ℕ → List ℕ
page_in pages place = whole (slice_index_or pages place [])

-- the contents of the page frames that have these places
unfoldable pub contents : List ℕ → List (List ℕ) → List (List ℕ)
contents places pages = map (page_in pages) places

-- the page in place 0 or 1, which any number of page frames may share
unfoldable pub shared_page : ℕ → List ℕ
shared_page zero = zero_page
shared_page (suc place) = filled_page 165

-- how many page frames have a page of their own
abbrev pub own_count : List ℕ → ℕ
own_count places = count_by (nat_le 2) places

-- Places 0 and 1 have the shared pages. Each page frame has one of these, or a place of its own; there are no more
-- pages than these need, and there is room for as many as all page frames could need.
pub record AreKept (places : List ℕ) (pages : List (List ℕ)) (capacity : ℕ) : Type 0 where
  pub few : 2 + length places < 2 ^ 32
  pub shared : (place : ℕ) → place < 2 → slice_index_or pages place [] ≡ shared_page place
  pub inside : (p : ℕ) → p < length places → slice_index places p < length pages
  pub apart : (p q : ℕ) → p < length places → q < length places → slice_index places p ≡ slice_index places q →
      2 ≤ slice_index places p → p ≡ q
  pub counted : length pages ≡ 2 + own_count places
  pub room : capacity ≡ 2 + length places
