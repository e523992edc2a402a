-- What the reader of a chain keeps of what it has read, and what it returns.
use Rattle.std.specs.Prelude.{◌≡◌, ℕ, ◌+◌, ◌*◌, ◌<◌, ◌≤◌, List, length, slice_index, Option, None, Some, IfSome}
use Rattle.definitions.specs.Disk.{Content, DiskImage, as_it_reads}
use Rattle.plain_machine.specs.Chain.{entry_block, map_block}
use Rattle.image_walk.specs.Names.{Name, maps_in}
use Rattle.image_walk.specs.Walking.{Follows, names_left}
use Rattle.expanded_disk.specs.Names.{HasRead, IsNameFault, chain_of, place_in}
use Rattle.image_check.specs.declared.finding.Place.{Place}
use Rattle.expanded_disk.specs.declared.units.chain.Chain.{Chain}
use Rattle.expanded_disk.specs.declared.units.chain.Read.{Read}
use Rattle.expanded_disk.specs.declared.units.chain.Read.TheVariants.{Page, Wrong}
use Rattle.definitions.specs.declared.counts.TheConstants.{MAP_PAGE_ENTRIES}

-- these are the blocks of the first maps, and all blocks of the maps and pages so far are blocks of the disk
pub record IsChain (blocks : ℕ) (v : DiskImage) (first count : ℕ) (maps : List ℕ) : Type 0 where
  pub maps_are : (m : ℕ) → m < length maps → slice_index maps m ≡ map_block v first m
  pub maps_inside : (m : ℕ) → m < length maps → map_block v first m < blocks
  pub pages_inside : (k : ℕ) → k < count → entry_block v first k < blocks

-- the given number of pages was read
pub record StandsAt (content : Option Content) (c : Chain) : Type 0 where
  pub history : List Name
  pub follows : Follows c.first c.walker history
  pub read : HasRead c.walker.limits c.first content c.count history
  pub mapped : length c.maps.items ≡ maps_in history
  pub enough : c.count ≤ MAP_PAGE_ENTRIES * length c.maps.items
  pub chain : IfSome content (λ held. IsChain c.walker.limits.blocks (as_it_reads held) c.first c.count c.maps.items)

-- the chain that is read stays the same
pub record IsSameChain (old new : Chain) : Type 0 where
  pub limits : new.walker.limits ≡ old.walker.limits
  pub first : new.first ≡ old.first

-- a page is the next one of the chain, if the disk tells what it holds
abbrev pub IsNextPage : Option Content → Chain → List ℕ → Place → Type 0
IsNextPage content c page place =
    IfSome content (λ held. (page ≡ chain_of (as_it_reads held) c.first c.count)
    × (place ≡ place_in (as_it_reads held) c.first c.count))

-- what each result says
abbrev pub Gives : Option Content → (pages before now : ℕ) → (old new : Chain) → List ℕ → Read → Type 0
Gives content pages before now old new page (Page place) =
    StandsAt content new × (new.count ≡ old.count + 1) × IsNextPage content old page place
Gives content pages before now old new page (Wrong f) =
    IsNameFault old.walker.limits old.first content old.count pages before now f

abbrev pub Goes : Option Content → (pages before now : ℕ) → (old new : Chain) → List ℕ → Option Read → Type 0
Goes content pages before now old new page None =
    StandsAt content new × (new.count ≡ old.count) × (names_left new.walker < names_left old.walker)
Goes content pages before now old new page (Some read) = Gives content pages before now old new page read
