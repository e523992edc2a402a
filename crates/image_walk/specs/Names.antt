-- The blocks that an image names, in the order in which they are read: the first map, its entries, the map that it
-- links to, and so on (get_swap_reader, swap_read_page, kernel/power/swap.c). A history is what has been named so far,
-- the newest name first.
use Rattle.std.specs.Prelude.{◌≡◌, ℕ, ◌+◌, ◌-◌, ◌<◌, Bool, true, false, ◌==◌, ◌||◌, nat_le, nat_lt, List, [], ◌∷◌}
use Rattle.std.specs.Prelude.{if◌then◌else◌, ⊤, Option, Some, None, Result, Ok, Err}
use Rattle.std.specs.Option.{IfSome}
use Rattle.std.specs.List.{list_any}
use Rattle.definitions.specs.Disk.{Content, as_it_reads, block}
use Rattle.definitions.specs.SwapMap.{map_entry, map_link}
use Rattle.image_walk.specs.declared.limits.Limits.{Limits}
use Rattle.image_walk.specs.declared.visit.BlockFault.{BlockFault}
use Rattle.image_walk.specs.declared.visit.BlockFault.TheVariants as fault
use Rattle.definitions.specs.declared.counts.TheConstants.{MAP_PAGE_ENTRIES}

-- a block that the header or a link names as a map, or an entry as a page; with its content, or why it has none
pub data Name : Type 0 where
  map_at : (b : ℕ) → (answer : Result (List ℕ) BlockFault) → Name
  page_at : (b : ℕ) → (answer : Result (List ℕ) BlockFault) → Name

abbrev pub block_of : Name → ℕ
block_of (map_at b answer) = b
block_of (page_at b answer) = b

-- what is known of a block: its page, or why it has none
abbrev pub seen : Result (Unit {0}) BlockFault → List ℕ → Result (List ℕ) BlockFault
seen (Ok done) page = Ok page
seen (Err why) page = Err why

abbrev pub answer_of : Name → Result (List ℕ) BlockFault
answer_of (map_at b answer) = answer
answer_of (page_at b answer) = answer

-- how many maps were named
abbrev pub maps_in : List Name → ℕ
maps_in [] = 0
maps_in (map_at b answer ∷ h) = maps_in h + 1
maps_in (page_at b answer ∷ h) = maps_in h

-- the block and the page of the newest map
abbrev pub newest_map : List Name → ℕ
newest_map [] = 0
newest_map (map_at b answer ∷ h) = b
newest_map (page_at b answer ∷ h) = newest_map h

abbrev pub newest_page : List Name → List ℕ
newest_page [] = []
newest_page (map_at b (Ok page) ∷ h) = page
newest_page (map_at b (Err why) ∷ h) = []
newest_page (page_at b answer ∷ h) = newest_page h

-- how many of the newest map's 511 entries haven't been read yet
abbrev pub left_in : List Name → ℕ
left_in [] = 0
left_in (map_at b (Ok page) ∷ h) = MAP_PAGE_ENTRIES
left_in (map_at b (Err why) ∷ h) = 0
left_in (page_at b answer ∷ h) = left_in h - 1

-- the block that is named as the next map: by the header, or by the newest map's link
abbrev pub next_map : ℕ → List Name → ℕ
next_map first [] = first
next_map first (map_at b (Ok page) ∷ h) = map_link page
next_map first (map_at b (Err why) ∷ h) = 0
next_map first (page_at b answer ∷ h) = next_map first h

-- the chain of maps has ended: the newest one has no page
abbrev pub is_over : List Name → Bool
is_over [] = false
is_over (map_at b (Ok page) ∷ h) = false
is_over (map_at b (Err why) ∷ h) = true
is_over (page_at b answer ∷ h) = is_over h

abbrev pub is_named : ℕ → List Name → Bool
is_named b h = list_any (λ x. b == block_of x) h

abbrev pub is_bad : Limits → ℕ → Bool
is_bad l b = list_any (λ x. x == b) l.bad

-- why a block that is named after a history isn't read: each block is read at most once
abbrev pub fault_of : Limits → List Name → ℕ → Option BlockFault
fault_of l h b =
    if b == 0 then Some fault.Zero
    else if nat_le l.blocks b then Some (fault.BeyondFile b)
    else if nat_lt l.last b then Some (fault.BeyondLast b)
    else if is_bad l b then Some (fault.Bad b)
    else if (b == l.header) || is_named b h then Some (fault.Again b)
    else None

-- a block without a fault has a page, unless its read fails
abbrev pub IsAnswer : Option BlockFault → ℕ → Result (List ℕ) BlockFault → Type 0
IsAnswer (Some why) b answer = answer ≡ Err why
IsAnswer None b (Ok page) = ⊤
IsAnswer None b (Err why) = why ≡ fault.Unread b

-- A name follows a history: an entry if the newest map has one left, else the next map, unless the chain has ended.
abbrev pub IsNext : Limits → ℕ → List Name → Name → Type 0
IsNext l first h (map_at b answer) =
    (left_in h ≡ 0) × (is_over h ≡ false) × (b ≡ next_map first h) × IsAnswer (fault_of l h b) b answer
IsNext l first h (page_at b answer) =
    (0 < left_in h) × (b ≡ map_entry (newest_page h) (MAP_PAGE_ENTRIES - left_in h))
    × IsAnswer (fault_of l h b) b answer

-- each name follows those before it
abbrev pub IsReading : Limits → ℕ → List Name → Type 0
IsReading l first [] = ⊤
IsReading l first (x ∷ h) = IsReading l first h × IsNext l first h x

-- a page is what the disk holds, if the disk's content is known
abbrev pub IsReadFrom : Option Content → ℕ → Result (List ℕ) BlockFault → Type 0
IsReadFrom content b (Ok page) = IfSome content (λ held. page ≡ block (as_it_reads held) b)
IsReadFrom content b (Err why) = ⊤

abbrev pub AreReadFrom : Option Content → List Name → Type 0
AreReadFrom content [] = ⊤
AreReadFrom content (x ∷ h) = AreReadFrom content h × IsReadFrom content (block_of x) (answer_of x)

-- a read of the block failed
abbrev pub is_unread : Result (List ℕ) BlockFault → Bool
is_unread (Err (fault.Unread b)) = true
is_unread answer = false
