-- What a disk that began with one image holds, by its recorded calls.
use Rattle.std.specs.Prelude.{◌≡◌, ℕ, ◌+◌, ◌-◌, ◌*◌, Bool, true, ◌&&◌, nat_le, nat_lt, if◌then◌else◌, List, []}
use Rattle.std.specs.Prelude.{◌∷◌, length, map, slice_index_or}
use Rattle.std.specs.List.{fold, range_with_len}
use Rattle.definitions.specs.Disk.{Sector, Content, DiskImage, sector, as_it_reads, settled, sector_bytes}
use Rattle.sector_disk.specs.Sectors.{picks}
use Rattle.sector_disk.specs.declared.recorded.Recorded.{Recorded}
use Rattle.sector_disk.specs.declared.recorded.Recorded.TheVariants.{Write, FailedWrite, Sync, FailedSync}

-- sector s is one of block b
abbrev pub lies_in : ℕ → ℕ → Bool
lies_in b s = nat_le (8 * b) s && nat_lt s (8 * b + 8)

-- the sector with these bytes live, and one more candidate
abbrev pub with_live : List ℕ → Sector → Sector
with_live bytes x = record { live = bytes; candidates = bytes ∷ x.candidates }

-- sector s after a write to block b that takes only some sectors
abbrev pub sector_after : (ℕ → Bool) → ℕ → List ℕ → Content → ℕ → Sector
sector_after takes b page c s =
    if lies_in b s && takes s then with_live (sector_bytes page (s - 8 * b)) (sector c s) else sector c s

-- the content after such a write
unfoldable pub written : (ℕ → Bool) → ℕ → List ℕ → Content → Content
written takes b page c = map (sector_after takes b page c) (range_with_len 0 (length c))

-- the content after a recorded call
abbrev pub after : Content → Recorded → Content
after c (Write b page) = written (λ s. true) b page c
after c (FailedWrite b page pick) = written (picks pick) b page c
after c Sync = settled (as_it_reads c)
after c FailedSync = c

-- the content after these calls of a disk that began with this image: each sector has every candidate since the last
-- sync
abbrev pub held_after : DiskImage → List Recorded → Content
held_after start log = fold after (settled start) log

-- the image as the last sync or restart left it: the oldest candidate of each sector
abbrev pub as_synced : Content → DiskImage
as_synced c = map (λ x. slice_index_or x.candidates (length x.candidates - 1) []) c

-- how many bytes a call was given to write, or those of a page if it writes none
abbrev pub page_size : Recorded → ℕ
page_size (Write b page) = length page
page_size (FailedWrite b page pick) = length page
page_size Sync = 4096
page_size FailedSync = 4096

-- how many blocks a disk needs for this call
abbrev pub blocks_needed : Recorded → ℕ
blocks_needed (Write b page) = b + 1
blocks_needed (FailedWrite b page pick) = b + 1
blocks_needed Sync = 0
blocks_needed FailedSync = 0

-- durable and live sectors of a disk with this content
pub record AreKept (c : Content) (durable live : DiskImage) : Type 0 where
  pub live_is : live ≡ as_it_reads c
  pub durable_is : durable ≡ as_synced c
