-- The next read that a page of the stream needs.
use Rattle.std.specs.Prelude.{◌≡◌, ℕ, ◌/◌, ◌%◌, ◌-◌, ◌<◌, ◌==◌, ◌⊎◌, List, [], ◌∷◌, Result, Ok, Err, if◌then◌else◌}
use Rattle.definitions.specs.Disk.{DiskImage, block}
use Rattle.definitions.specs.SwapMap.{map_entry, map_link}
use Rattle.image_format.specs.declared.signature.area.Mark.{Mark}
use Rattle.boot_resume.specs.OnDisk.{map_at, page_at}
use Rattle.boot_resume.specs.Calls.{Turn, asks, entry_then}
use Rattle.boot_resume.specs.declared.call.Call.{Call}
use Rattle.boot_resume.specs.declared.call.Call.TheVariants.{Sync, Read, Write, Page, Done, Refused, Failed}
use Rattle.boot_resume.specs.declared.cause.Cause.{Cause}
use Rattle.boot_resume.specs.declared.machine.Machine.{Machine}
use Rattle.boot_resume.specs.declared.stage.Move.{Move}
use Rattle.boot_resume.specs.declared.stage.Stage.{Stage}
use Rattle.definitions.specs.declared.counts.TheConstants.{MAP_PAGE_ENTRIES}

-- the entry of page k in its map
abbrev pub entry_of : List ℕ → ℕ → ℕ
entry_of map k = map_entry map (k % MAP_PAGE_ENTRIES)

-- the block of the map whose first page is page k: the header names the first map, each map the next one
abbrev pub begun_map : Mark → ℕ → List ℕ → ℕ
begun_map mark k map = if k == 0 then mark.first else map_link map

-- map j of the chain
abbrev pub IsMap : Machine → DiskImage → List ℕ → ℕ → Type 0
IsMap m v map j = map ≡ block v (map_at m v j)

-- the map of the page before page k, if there is one
abbrev pub HasMapBefore : Machine → DiskImage → List ℕ → ℕ → Type 0
HasMapBefore m v map k = 0 < k → IsMap m v map ((k - 1) / MAP_PAGE_ENTRIES)

-- the next read is that of page k's map, or that of page k through its map
pub record WantsMap (m : Machine) (v : DiskImage) (k : ℕ) (stages : Stage
    × Stage) (rest turns : List Turn) (to : Move) : Type 0 where
  pub stage : to.stage ≡ stages.0
  pub call : to.call ≡ Read (map_at m v (k / MAP_PAGE_ENTRIES))
  pub left : turns ≡ asks (Read (map_at m v (k / MAP_PAGE_ENTRIES))) ∷ entry_then m v k rest

pub record WantsPage (m : Machine) (v : DiskImage) (map : List ℕ) (k : ℕ) (stages : Stage
    × Stage) (rest turns : List Turn) (to : Move) : Type 0 where
  pub stage : to.stage ≡ stages.1
  pub call : to.call ≡ Read (page_at m v k)
  pub left : turns ≡ asks (Read (page_at m v k)) ∷ rest
  pub has_map : IsMap m v map (k / MAP_PAGE_ENTRIES)

abbrev pub Wants : Machine → DiskImage → List ℕ → ℕ → Stage × Stage → List Turn → List Turn → Result Move Cause → Type 0
Wants m v map k stages rest turns (Ok to) =
    WantsMap m v k stages rest turns to ⊎ WantsPage m v map k stages rest turns to
Wants m v map k stages rest turns (Err cause) = turns ≡ asks (Refused cause) ∷ []

abbrev pub IsRead : Call → Type 0
IsRead (Read b) = Unit {0}
IsRead Sync = ⊥
IsRead (Write b) = ⊥
IsRead (Page p) = ⊥
IsRead (Done n) = ⊥
IsRead (Refused why) = ⊥
IsRead (Failed call left) = ⊥

-- a read for one of these stages
abbrev pub IsReadAt : Stage × Stage → Move → Type 0
IsReadAt stages to = IsRead to.call × ((to.stage ≡ stages.0) ⊎ (to.stage ≡ stages.1))
