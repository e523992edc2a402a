-- What a walk keeps of a history, and what a step of a walk shows.
use Rattle.std.specs.Prelude.{◌≡◌, ℕ, ◌+◌, ◌*◌, ◌-◌, ◌<◌, nat_lt, min, true, List, ◌∷◌, Option, Some, None, Result, Ok}
use Rattle.std.specs.Prelude.{Err}
use Rattle.std.specs.Prelude.{if◌then◌else◌}
use Rattle.definitions.specs.Disk.{Content, HasRisen}
use Rattle.definitions.specs.SwapMap.{map_entry, map_link}
use Rattle.image_walk.specs.Taken.{IsTaken}
use Rattle.image_walk.specs.Names.{Name, map_at, page_at, seen, block_of, answer_of, maps_in, newest_map, newest_page}
use Rattle.image_walk.specs.Names.{left_in, next_map, is_over, is_unread, IsNext, IsReading, IsReadFrom}
use Rattle.image_walk.specs.declared.limits.Limits.{Limits}
use Rattle.image_walk.specs.declared.visit.BlockFault.{BlockFault}
use Rattle.image_walk.specs.declared.visit.BlockFault.TheVariants as fault
use Rattle.image_walk.specs.declared.visit.Visit.{Visit}
use Rattle.image_walk.specs.declared.visit.Visit.TheVariants as visit
use Rattle.image_walk.specs.declared.walk.Named.{Named}
use Rattle.image_walk.specs.declared.walk.Walk.{Walk}
use Rattle.image_walk.specs.declared.walker.Walker.{Walker}
use Rattle.definitions.specs.declared.counts.TheConstants.{BLOCKS_PER_MAP, MAP_PAGE_ENTRIES}

-- the walk is at the end of the history, and the set has the blocks that may not be named again
pub record Stands (l : Limits) (first : ℕ) (k : Walk) (words : List ℕ) (h : List Name) : Type 0 where
  pub reading : IsReading l first h
  pub taken : IsTaken l words h
  pub maps : k.maps ≡ maps_in h
  pub at : k.at ≡ newest_map h
  pub page : k.entry < MAP_PAGE_ENTRIES → k.map ≡ newest_page h
  pub left : MAP_PAGE_ENTRIES - k.entry ≡ left_in h
  pub next : k.next ≡ next_map first h
  pub over : k.over ≡ is_over h

-- the walker is at the end of the history
abbrev pub Follows : ℕ → Walker → List Name → Type 0
Follows first w h = Stands w.limits first w.walk w.named.items h

-- the block that is named next: by an entry of the newest map, or else by the map's link, unless the chain has ended
abbrev pub block_asked : Walk → Option ℕ
block_asked k =
    if nat_lt k.entry MAP_PAGE_ENTRIES then Some (map_entry k.map k.entry)
    else if k.over then None
    else Some k.next

-- a block without a fault is one of the disk's, and a fault isn't that of a read
pub record IsAsked (blocks : ℕ) (n : Named) : Type 0 where
  pub inside : n.fault ≡ None → n.block < blocks
  pub other : (b : ℕ) → n.fault ≡ Some (fault.Unread b) → ⊥

-- the walk after a map: its entries come next if it was read, and nothing if it wasn't
abbrev pub opened : List ℕ → Walk → Walk
opened page k = record k { map = page; entry = 0; next = map_link page }

abbrev pub closed : Walk → Walk
closed k = record k { next = 0; over = true }

abbrev pub named_map : ℕ → Walk → Walk
named_map b k = record k { maps = min (k.maps + 1) 4294967295; at = b }

abbrev pub after_map : ℕ → Result (Unit {0}) BlockFault → List ℕ → Walk → Walk
after_map b (Ok done) page k = opened page (named_map b k)
after_map b (Err why) page k = closed (named_map b k)

-- the name that a step shows, with the page that it read
abbrev pub name_of : Visit → List ℕ → Name
name_of (visit.Map number b answer) page = map_at b (seen answer page)
name_of (visit.Entry number at index b answer) page = page_at b (seen answer page)

-- the place of that name: for a map its number, for an entry its map's number and block and the entry's index
abbrev pub IsPlaced : List Name → Visit → Type 0
IsPlaced h (visit.Map number b answer) = number ≡ maps_in h + 1
IsPlaced h (visit.Entry number at index b answer) =
    (number ≡ maps_in h) × (at ≡ newest_map h) × (index ≡ MAP_PAGE_ENTRIES - left_in h)

-- a name is the next one, with the page that the disk holds; if its read failed, the disk has counted a fault
pub record IsSeen (l : Limits) (first : ℕ) (content : Option Content) (before now : ℕ) (h : List Name)
    (x : Name) : Type 0 where
  pub next : IsNext l first h x
  pub page : IsReadFrom content (block_of x) (answer_of x)
  pub unread : is_unread (answer_of x) ≡ true → HasRisen before now

-- how many more names there may be
abbrev pub walk_left : Limits → Walk → ℕ
walk_left l k = BLOCKS_PER_MAP * (l.blocks + 1 - k.maps) + (MAP_PAGE_ENTRIES - k.entry)

abbrev pub names_left : Walker → ℕ
names_left w = walk_left w.limits w.walk

-- how many more names there may be if none of them is read
abbrev pub unread_left : Walk → ℕ
unread_left k = (MAP_PAGE_ENTRIES - k.entry) + (if k.over then 0 else 1)

-- a walk takes the next name, which is block b's, with the outcome of its read
pub record Takes (l : Limits) (first : ℕ) (h : List Name) (b : ℕ) (told : Result (Unit {0}) BlockFault) (old new : Walk)
    (words : List ℕ) (v : Visit) (page : List ℕ) : Type 0 where
  pub next : IsNext l first h (name_of v page)
  pub block : block_of (name_of v page) ≡ b
  pub answer : answer_of (name_of v page) ≡ seen told page
  pub place : IsPlaced h v
  pub stands : Stands l first new words (name_of v page ∷ h)
  pub fewer : walk_left l new < walk_left l old

-- a step shows the next name in its place, and the walker follows it
pub record StepsTo (first : ℕ) (content : Option Content) (before now : ℕ) (h : List Name) (old new : Walker)
    (v : Visit) (page : List ℕ) : Type 0 where
  pub seen : IsSeen old.limits first content before now h (name_of v page)
  pub place : IsPlaced h v
  pub follows : Follows first new (name_of v page ∷ h)
  pub fewer : names_left new < names_left old
