-- What is wrong with the units of an image, in the order of reading, and what is known if nothing is.
use Rattle.std.specs.Prelude.{◌≡◌, ℕ, ◌+◌, ◌*◌, ◌<◌, ◌≤◌, ◌⊎◌, true, List, take, ◌++◌, slice_index, if◌then◌else◌}
use Rattle.std.specs.Prelude.{Option, None, Some, IfSome}
use Rattle.definitions.specs.Disk.{Content, DiskImage, as_it_reads}
use Rattle.image_walk.specs.declared.limits.Limits.{Limits}
use Rattle.image_walk.specs.Names.{Name}
use Rattle.image_check.specs.declared.finding.Finding.{Finding}
use Rattle.expanded_disk.specs.Chains.{StandsAt}
use Rattle.expanded_disk.specs.Names.{HasRead, IsNameFault, chain_of, place_in}
use Rattle.expanded_disk.specs.Units.{IsUnit, bytes_from, bytes_of, checksum_of, is_length, length_at, size_of, start_of}
use Rattle.expanded_disk.specs.Units.{unit_fault}
use Rattle.expanded_disk.specs.declared.units.chain.Chain.{Chain}

-- page k belongs to unit j; a page after the unit's first one does only if its length is valid
pub record IsWithin (chain : ℕ → List ℕ) (unit k : ℕ) : Type 0 where
  pub low : start_of chain unit ≤ k
  pub high : k < start_of chain (unit + 1)
  pub len : start_of chain unit < k → is_length (length_at chain (start_of chain unit)) ≡ true

-- a page of unit j couldn't be read
pub record IsUnread (l : Limits) (first : ℕ) (content : Option Content) (pages unit before now : ℕ)
    (f : Finding) : Type 0 where
  pub page : ℕ
  pub fault : IsNameFault l first content page pages before now f
  pub within : IfSome content (λ held. IsWithin (chain_of (as_it_reads held) first) unit page)

-- how many pages are read before the fault of a unit is known
abbrev pub pages_before : (ℕ → List ℕ) → ℕ → ℕ
pages_before chain unit =
    if is_length (length_at chain (start_of chain unit)) then start_of chain (unit + 1) else start_of chain unit + 1

-- the pages up to there were read, and the unit itself has a fault
pub record IsFaulty (l : Limits) (first : ℕ) (content : Option Content) (pages unit : ℕ) (f : Finding) : Type 0 where
  pub count : ℕ
  pub history : List Name
  pub read : HasRead l first content count history
  pub fault : IfSome content (λ held. let v = as_it_reads held in
      (unit_fault (chain_of v first) (place_in v first) pages unit ≡ Some f)
      × (count ≡ pages_before (chain_of v first) unit))

-- the first thing that is wrong with a unit
abbrev pub IsUnitWrong : Limits → ℕ → Option Content → (pages unit before now : ℕ) → Finding → Type 0
IsUnitWrong l first content pages unit before now f =
    IsUnread l first content pages unit before now f ⊎ IsFaulty l first content pages unit f

-- the reader stands before unit j
abbrev pub StandsBefore : Option Content → ℕ → Chain → Type 0
StandsBefore content unit c = IfSome content (λ held. c.count ≡ start_of (chain_of (as_it_reads held) c.first) unit)

-- nothing is wrong with a unit, and these are its bytes
pub record IsExpanded (v : DiskImage) (first pages unit : ℕ) (bytes : List ℕ) : Type 0 where
  pub whole : IsUnit (chain_of v first) pages unit
  pub bytes_are : take (size_of pages unit) bytes ≡ bytes_of (chain_of v first) pages unit

-- what each result says of a unit
abbrev pub UnitSays : Option Content → (pages unit before now : ℕ) → (old new : Chain) → List ℕ → Option Finding →
    Type 0
UnitSays content pages unit before now old new bytes None =
    StandsAt content new × StandsBefore content (unit + 1) new
    × IfSome content (λ held. IsExpanded (as_it_reads held) old.first pages unit bytes)
UnitSays content pages unit before now old new bytes (Some f) =
    IsUnitWrong old.walker.limits old.first content pages unit before now f

-- what each result says of the pages after a unit's first one
abbrev pub FillSays : Option Content → (pages count before now : ℕ) → (old new : Chain) → (packed filled : List ℕ) →
    Option Finding → Type 0
FillSays content pages count before now old new packed filled None =
    StandsAt content new × (new.count ≡ old.count + count)
    × IfSome content (λ held. take (4096 * (count + 1)) filled
    ≡ take 4096 packed ++ bytes_from (chain_of (as_it_reads held) old.first) old.count count)
FillSays content pages count before now old new packed filled (Some f) =
    (i : ℕ) × (i < count) × IsNameFault old.walker.limits old.first content (old.count + i) pages before now f

-- nothing is wrong with the first units: these are the pages at which they start, and this is their checksum
pub record AreWhole (v : DiskImage) (first pages units : ℕ) (starts : List ℕ) (checksum : ℕ) : Type 0 where
  pub starts_are : (j : ℕ) → j < units → slice_index starts j ≡ start_of (chain_of v first) j
  pub whole : (j : ℕ) → j < units → IsUnit (chain_of v first) pages j
  pub checksum_is : checksum ≡ checksum_of (chain_of v first) pages units
