-- What the expanding disk keeps of the units, and why it fails.
use Rattle.std.specs.Prelude.{◌≡◌, ℕ, ◌<◌, List, length, take, Option, None, IsSome}
use Rattle.std.specs.Option.{ForSome}
use Rattle.definitions.specs.Disk.{Content, HasRisen, as_it_reads}
use Rattle.overlay_disk.specs.DiskState.{RisesBelowLast}
use Rattle.compression.specs.Expansion.{Outcome}
use Rattle.expanded_disk.specs.Index.{IsIndexed}
use Rattle.expanded_disk.specs.Names.{chain_of}
use Rattle.expanded_disk.specs.Units.{bytes_of, size_of}
use Rattle.expanded_disk.specs.declared.units.index.Index.{Index}

-- this index is that of the image with the given header block
abbrev pub HasIndex : Option Content → (blocks header : ℕ) → Index → Type 0
HasIndex content blocks header index = ForSome content (λ held. IsIndexed blocks (as_it_reads held) header index)

-- these bytes begin with those of a unit, if one is kept
abbrev pub IsKept : Option Content → (first pages : ℕ) → (unit : Option ℕ) → List ℕ → Type 0
IsKept content first pages unit bytes =
    ForSome content (λ held. ForSome unit (λ j.
    take (size_of pages j) bytes ≡ bytes_of (chain_of (as_it_reads held) first) pages j))

-- If the disk below tells its content, one of its calls has failed; if it doesn't, it may also no longer hold what it
-- held.
abbrev pub FailsBelow : Option Content → (before now : ℕ) → Type 0
FailsBelow content before now = IsSome content → RisesBelowLast before now

-- a stream expands to exactly the given number of bytes
pub record IsJust (size : ℕ) (o : Outcome) : Type 0 where
  pub fault : o.fault ≡ None
  pub written : length o.written ≡ size

-- If a call of the expanding disk failed, so did one of the disk below, provided that this tells what it holds.
abbrev pub FailsWith : Option Content → (before now faults : ℕ) → Type 0
FailsWith content before now faults = 0 < faults → IsSome content → HasRisen before now
