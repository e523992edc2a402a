-- What a disk holds, and what a power cut may leave of it. A sector has 512 bytes, and block b consists of the sectors
-- 8b to 8b+7. The disk keeps a sector whole: a cut leaves, for each sector, one of its candidates.
use Rattle.std.specs.Prelude.{◌≡◌, ℕ, ◌+◌, ◌*◌, ◌^◌, ◌-◌, ◌<◌, ◌≤◌, ◌⊎◌, List, [], ◌∷◌, length, map, take, drop, min}
use Rattle.std.specs.Prelude.{Contains, All, Option, Some, None, slice_index_or}
use Rattle.std.specs.List.{concat}
use Rattle.definitions.specs.Bytes.{bytes_at}
use Rattle.definitions.specs.declared.counts.TheConstants.{SECTOR_SIZE}

-- A sector: the bytes that a read gives, and the candidates, one of which a cut leaves.
pub record Sector : Type 0 where
  pub live : List ℕ
  pub candidates : List (List ℕ)

abbrev pub no_sector : Sector
no_sector = record { live = []; candidates = [] }

-- the content of a disk, sector by sector
abbrev pub Content : Type 0
Content = List Sector

-- One content for each sector: what a disk reads as, or what it holds after a cut.
abbrev pub DiskImage : Type 0
DiskImage = List (List ℕ)

-- each candidate has 512 bytes, and the live bytes are one of them
pub record IsSector (s : Sector) : Type 0 where
  pub each : All (λ bytes. length bytes ≡ SECTOR_SIZE) s.candidates
  pub live : Contains s.candidates s.live

-- the content of a disk of `blocks` blocks
pub record IsContent (blocks : ℕ) (c : Content) : Type 0 where
  pub size : length c ≡ 8 * blocks
  pub sectors : All IsSector c

abbrev pub sector : Content → ℕ → Sector
sector c s = slice_index_or c s no_sector

-- the image that reads give
abbrev pub as_it_reads : Content → DiskImage
as_it_reads c = map (λ s. s.live) c

-- v has, for each sector, one of its candidates
pub record IsImage (c : Content) (v : DiskImage) : Type 0 where
  pub size : length v ≡ length c
  pub chosen : (s : ℕ) → s < length c → Contains (sector c s).candidates (slice_index_or v s [])

-- the content of a disk whose only image is v
abbrev pub settled : DiskImage → Content
settled v = map (λ bytes. record { live = bytes; candidates = bytes ∷ [] }) v

-- block b of an image
unfoldable pub block : DiskImage → ℕ → List ℕ
block v b = concat (take 8 (drop (8 * b) v))

-- The calls of a disk, as relations between its content before and after.

-- each sector outside block b is as before
pub record SameOutside (b : ℕ) (old new : Content) : Type 0 where
  pub size : length new ≡ length old
  pub below : (s : ℕ) → s < 8 * b → sector new s ≡ sector old s
  pub above : (s : ℕ) → 8 * b + 8 ≤ s → sector new s ≡ sector old s

-- these bytes are live, and each candidate is an earlier one or these bytes
pub record TakesBytes (bytes : List ℕ) (old new : Sector) : Type 0 where
  pub live : new.live ≡ bytes
  pub candidates : (x : List ℕ) → Contains new.candidates x → Contains old.candidates x ⊎ (x ≡ bytes)

-- sector j of a page
abbrev pub sector_bytes : List ℕ → ℕ → List ℕ
sector_bytes page j = bytes_at SECTOR_SIZE page (SECTOR_SIZE * j)

-- a write: each sector of block b takes its bytes of the page
pub record Writes (b : ℕ) (page : List ℕ) (old new : Content) : Type 0 where
  pub others : SameOutside b old new
  pub within : (j : ℕ) → j < 8 → TakesBytes (sector_bytes page j) (sector old (8 * b + j)) (sector new (8 * b + j))

-- a write that failed: each sector of block b takes its bytes of the page, or is as before
pub record FailsToWrite (b : ℕ) (page : List ℕ) (old new : Content) : Type 0 where
  pub others : SameOutside b old new
  pub within : (j : ℕ) → j < 8 →
      (sector new (8 * b + j) ≡ sector old (8 * b + j))
      ⊎ TakesBytes (sector_bytes page j) (sector old (8 * b + j)) (sector new (8 * b + j))

-- a sync: the live bytes of each sector are its only candidate
abbrev pub Syncs : Content → Content → Type 0
Syncs old new = new ≡ settled (as_it_reads old)

-- a restart: one of the disk's images is its only image from now on
abbrev pub Restarts : Content → Content → Type 0
Restarts old new = (v : DiskImage) × IsImage old v × (new ≡ settled v)

-- What a call does to the content of a disk, if the disk tells it. Whether the disk tells its content doesn't change.
abbrev pub Changes : (Content → Content → Type 0) → Option Content → Option Content → Type 0
Changes R None None = Unit {0}
Changes R None (Some new) = ⊥
Changes R (Some old) None = ⊥
Changes R (Some old) (Some new) = R old new

-- Moments, for a disk that tells them: a clock, and the images that a crash since a moment might have left.

-- each sector of v is a candidate from before or from after
pub record IsMixture (old new : Content) (v : DiskImage) : Type 0 where
  pub size : length v ≡ length old
  pub each : (s : ℕ) → s < length v → Contains (sector old s).candidates (slice_index_or v s [])
      ⊎ Contains (sector new s).candidates (slice_index_or v s [])

-- Time passes during a call: a crash since t might have left what it might have left before the call, or a mixture,
-- sector by sector, of what crashes right before and right after the call may leave.
pub record Elapses (before now : ℕ) (past since : ℕ → DiskImage → Type 0) (old new : Content) : Type 0 where
  pub later : before ≤ now
  pub keeps : (t : ℕ) (v : DiskImage) → t ≤ before → past t v → since t v
  pub nothing_else : (t : ℕ) (v : DiskImage) → t ≤ before → since t v → past t v ⊎ IsMixture old new v

-- Counts of a disk, a source or a sink. They saturate at 2^64-1.
abbrev pub last_count : ℕ
last_count = 18446744073709551615

-- the count raised by one
abbrev pub raised : ℕ → ℕ
raised count = min (count + 1) last_count

-- the count has risen, or is saturated
abbrev pub HasRisen : ℕ → ℕ → Type 0
HasRisen before now = (before < now) ⊎ (now ≡ last_count)
