-- What a disk in memory keeps: for each sector its durable bytes and its live ones.
use Rattle.std.specs.Prelude.{◌≡◌, ℕ, ◌+◌, ◌-◌, ◌*◌, ◌%◌, ◌<◌, ◌≤◌, Bool, ◌==◌, if◌then◌else◌, List, [], ◌∷◌, ◌++◌}
use Rattle.std.specs.Prelude.{length, replicate, All, slice_index_or}
use Rattle.std.specs.Int.{bit_at}
use Rattle.std.specs.Str.{bytes_eq}
use Rattle.definitions.specs.Disk.{Content, DiskImage, sector_bytes}
use Rattle.definitions.specs.declared.counts.TheConstants.{SECTOR_SIZE}

-- the sector of zeros
abbrev pub zero_sector : List ℕ
zero_sector = replicate SECTOR_SIZE 0

-- `count` sectors: first the kept ones, then zeros
unfoldable pub padded : ℕ → DiskImage → DiskImage
padded count kept = kept ++ replicate (count - length kept) zero_sector

-- a power cut leaves the durable bytes of a sector or its live ones, which may be the same
unfoldable pub candidates_of : List ℕ → List ℕ → List (List ℕ)
candidates_of durable live = if bytes_eq durable live then live ∷ [] else durable ∷ live ∷ []

abbrev pub content_of : DiskImage → DiskImage → Content
content_of (d ∷ durable) (l ∷ live) = record { live = l; candidates = candidates_of d l } ∷ content_of durable live
content_of durable live = []

-- bit s mod 64 of a pick is 1, where bit 0 is the lowest
abbrev pub picks : ℕ → ℕ → Bool
picks pick s = bit_at pick (s % 64) == 1

-- the picked sectors of new and the others of old, in a run of sectors whose first has the number `first`
pub record IsPickedFrom (first pick : ℕ) (old new image : DiskImage) : Type 0 where
  pub size : length image ≡ length old
  pub each : (s : ℕ) → s < length image →
      slice_index_or image s [] ≡ (if picks pick (first + s) then slice_index_or new s [] else slice_index_or old s [])

-- the picked sectors of new and the others of old
abbrev pub IsPicked : ℕ → DiskImage → DiskImage → DiskImage → Type 0
IsPicked pick old new image = IsPickedFrom 0 pick old new image

-- the picked sectors of block b have their bytes of the page, the others are as before
abbrev pub TakesPicked : ℕ → ℕ → List ℕ → DiskImage → DiskImage → Type 0
TakesPicked pick b page old new =
    (j : ℕ) → j < 8 →
    slice_index_or new (8 * b + j) [] ≡ (if picks pick (8 * b + j) then sector_bytes page j
    else slice_index_or old (8 * b + j) [])

-- each sector of block b has its bytes of the page
abbrev pub TakesPage : ℕ → List ℕ → DiskImage → Type 0
TakesPage b page new = (j : ℕ) → j < 8 → slice_index_or new (8 * b + j) [] ≡ sector_bytes page j

-- each sector outside block b is as before
pub record SameOutsideBlock (b : ℕ) (old new : DiskImage) : Type 0 where
  pub size : length new ≡ length old
  pub below : (s : ℕ) → s < 8 * b → slice_index_or new s [] ≡ slice_index_or old s []
  pub above : (s : ℕ) → 8 * b + 8 ≤ s → slice_index_or new s [] ≡ slice_index_or old s []

-- `count` sectors of 512 bytes
pub record AreSectors (count : ℕ) (sectors : DiskImage) : Type 0 where
  pub size : length sectors ≡ count
  pub whole : All (λ bytes. length bytes ≡ SECTOR_SIZE) sectors

-- below sector `low` and from `high` on the two are the same
pub record SameOutsideRange (low high : ℕ) (durable live : DiskImage) : Type 0 where
  pub below : (s : ℕ) → s < low → slice_index_or durable s [] ≡ slice_index_or live s []
  pub above : (s : ℕ) → high ≤ s → slice_index_or durable s [] ≡ slice_index_or live s []
