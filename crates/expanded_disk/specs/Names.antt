-- The chain of a compressed image as it is read, up to the first named block that has a fault.
use Rattle.std.specs.Prelude.{◌≡◌, ℕ, ◌+◌, ◌-◌, ◌/◌, ◌%◌, ◌==◌, ◌&&◌, nat_lt, true, ⊤, if◌then◌else◌, List, [], ◌∷◌}
use Rattle.std.specs.Prelude.{Option, None, Some, Ok, Err}
use Rattle.definitions.specs.Disk.{Content, DiskImage, HasRisen, block}
use Rattle.plain_machine.specs.Chain.{entry_block, map_block}
use Rattle.image_walk.specs.declared.limits.Limits.{Limits}
use Rattle.image_walk.specs.declared.visit.BlockFault.{BlockFault}
use Rattle.image_walk.specs.Names.{Name, map_at, page_at, maps_in, answer_of, block_of, is_unread, IsNext, IsReading}
use Rattle.image_walk.specs.Names.{IsReadFrom, AreReadFrom}
use Rattle.image_check.specs.Entries.{place_of}
use Rattle.image_check.specs.declared.finding.Finding.{Finding}
use Rattle.image_check.specs.declared.finding.Finding.TheVariants as finding
use Rattle.image_check.specs.declared.finding.Place.{Place}
use Rattle.definitions.specs.declared.counts.TheConstants.{MAP_PAGE_ENTRIES}

-- page k of the chain whose first map is block `first`, and the entry that names it
abbrev pub chain_of : DiskImage → (first k : ℕ) → List ℕ
chain_of v first k = block v (entry_block v first k)

abbrev pub place_in : DiskImage → (first k : ℕ) → Place
place_in v first k =
    record {
      map = k / MAP_PAGE_ENTRIES + 1;
      at = map_block v first (k / MAP_PAGE_ENTRIES);
      entry = k % MAP_PAGE_ENTRIES;
    }

-- each name has a page
abbrev pub AreAllRead : List Name → Type 0
AreAllRead [] = ⊤
AreAllRead (map_at b (Ok page) ∷ h) = AreAllRead h
AreAllRead (map_at b (Err why) ∷ h) = ⊥
AreAllRead (page_at b (Ok page) ∷ h) = AreAllRead h
AreAllRead (page_at b (Err why) ∷ h) = ⊥

-- how many entries were named
abbrev pub entries_in : List Name → ℕ
entries_in [] = 0
entries_in (map_at b answer ∷ h) = entries_in h
entries_in (page_at b answer ∷ h) = entries_in h + 1

-- the first k pages were read, each map before its entries
pub record HasRead (l : Limits) (first : ℕ) (content : Option Content) (k : ℕ) (h : List Name) : Type 0 where
  pub reading : IsReading l first h
  pub pages : AreReadFrom content h
  pub all : AreAllRead h
  pub count : entries_in h ≡ k

-- what is wrong with a block that is named as a map and isn't read: if it is block 0, the chain has ended
abbrev pub found_map : (map b : ℕ) → BlockFault → (pages : ℕ) → Finding
found_map map b why pages =
    if (b == 0) && nat_lt 1 map then finding.Ends (map - 1) pages else finding.Map map why

-- what is wrong with a name that follows a history, in an image with the given number of pages
abbrev pub name_fault : ℕ → List Name → Name → Option Finding
name_fault pages h (map_at b (Ok page)) = None
name_fault pages h (map_at b (Err why)) = Some (found_map (maps_in h + 1) b why pages)
name_fault pages h (page_at b (Ok page)) = None
name_fault pages h (page_at b (Err why)) = Some (finding.Entry (place_of h) why)

-- The first k pages were read, and the next block that is named has this fault; if it can't be read, a call of the disk
-- failed.
pub record IsNameFault (l : Limits) (first : ℕ) (content : Option Content) (k pages before now : ℕ)
    (f : Finding) : Type 0 where
  pub history : List Name
  pub name : Name
  pub read : HasRead l first content k history
  pub next : IsNext l first history name
  pub page : IsReadFrom content (block_of name) (answer_of name)
  pub wrong : name_fault pages history name ≡ Some f
  pub unread : is_unread (answer_of name) ≡ true → HasRisen before now
