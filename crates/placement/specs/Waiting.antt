-- Pages of an image that wait until all of them can go to their own page frames (prepare_image and get_buffer,
-- kernel/power/snapshot.c).
use Rattle.std.specs.Prelude.{◌≡◌, ◌≤◌, ◌<◌, ◌+◌, ◌++◌, length, Contains, ℕ, ◌==◌, ◌||◌, not, List, [], ◌∷◌, Option}
use Rattle.std.specs.Prelude.{Some, None, map, take, filter, if◌then◌else◌}
use Rattle.std.specs.List.{list_any, zip}
use Rattle.definitions.specs.Bytes.{zero_page}
use Rattle.definitions.specs.Tables.{frame, with_frame}
use Rattle.definitions.specs.Zones.{top}
use Rattle.placement.specs.Placed.{Placed, sources}

-- The page frames that are free to the loader, the last plan's originals with data, where their pages wait, and how
-- many of them wait so far.
pub record Awaiting : Type 0 where
  pub zones : List (ℕ × ℕ)
  pub free : List ℕ
  pub originals : List ℕ
  pub placement : Placed
  pub loaded : ℕ

-- the originals except those without data
unfoldable pub with_data : List ℕ → List ℕ → List ℕ
with_data origs zeros = filter (λ p. not (list_any (λ q. q == p) zeros)) origs

-- the waiting pages, in the order of their originals
abbrev pub waiting_pages : List (List ℕ) → Awaiting → List (List ℕ)
waiting_pages frames w = map (frame frames) (take w.loaded (sources w.placement.moves))

-- The next page waits in page frame p, one that is free to the loader. Whatever is written there, the pages that
-- already wait stay.
pub record WaitsNext (w : Awaiting) (p : ℕ) : Type 0 where
  pub free : Contains w.free p
  pub within : (frames : List (List ℕ)) → top w.zones ≤ length frames → p < length frames
  pub before : (frames : List (List ℕ)) (page : List ℕ) →
      waiting_pages (with_frame frames p page) w ≡ waiting_pages frames w
  pub after : (frames : List (List ℕ)) (page : List ℕ) → top w.zones ≤ length frames →
      waiting_pages (with_frame frames p page) (record w { loaded = w.loaded + 1 }) ≡ waiting_pages frames w ++ page
      ∷ []

-- the page of the first pair whose number is p
abbrev pub saved_page : List (ℕ × List ℕ) → ℕ → Option (List ℕ)
saved_page [] p = None
saved_page (s ∷ saved) p = if s.0 == p then Some s.1 else saved_page saved p

abbrev pub page_or : Option (List ℕ) → List ℕ → List ℕ
page_or (Some page) other = page
page_or None other = other

-- What page frame p holds once the image is back: an original with data has the page that waited for it, any other page
-- frame that is to be cleared or was free to the loader is zero, and all others are as before.
unfoldable pub restored_page : List (List ℕ) → Awaiting → List ℕ → ℕ → List ℕ
restored_page frames w cleared p =
    page_or (saved_page (zip w.originals (waiting_pages frames w)) p)
    (if list_any (λ q. q == p) cleared || list_any (λ q. q == p) w.free then zero_page else frame frames p)
