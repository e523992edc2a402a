-- The area that an image is written into. It is the disk's first blocks, with slot s on block s.
use Rattle.std.specs.Prelude.{◌≡◌, ◌≤◌, ◌<◌, ℕ, ◌+◌, ◌==◌, List, length, take, nat_lt, Option, Some, None}
use Rattle.std.specs.Prelude.{if◌then◌else◌}
use Rattle.std.specs.List.{Contains}
use Rattle.std.specs.List.Sorted.{IsStrictlyIncreasing}
use Rattle.definitions.specs.Bytes.{zero_page}
use Rattle.definitions.specs.Disk as disk
use Rattle.image_format.specs.declared.signature.area.Area.{Area}
use Rattle.image_format.specs.declared.signature.area.AreaKind.{AreaKind}
use Rattle.image_format.specs.declared.signature.area.AreaKind.TheVariants.{Image, Old, Other, BadArea, Swap}
use Rattle.plain_machine.specs.UsableArea.{kind_fault, bad_slots_of}
use Rattle.stream_in.specs.Grammar.{all_pages, first_fault}
use Rattle.plain_machine.specs.declared.no_swap.NoSwap.{NoSwap}
use Rattle.plain_machine.specs.declared.no_swap.NoSwap.TheVariants as no_swap
use Rattle.definitions.specs.declared.counts.TheConstants.{SPARE_SLOTS}

-- block 0 of a disk with the given number of blocks, or a page of zeros if it has none
abbrev pub first_block : ℕ → disk.DiskImage → List ℕ
first_block blocks v = if blocks == 0 then zero_page else disk.block v 0

-- why an area doesn't fit: its last slot isn't a block of the disk, or lies past the end of a slot table
abbrev pub room_fault : ℕ → Area → Option NoSwap
room_fault blocks area =
    if nat_lt area.last blocks then (if nat_lt area.last 131072 then None else Some (no_swap.Misfit area.last 131072))
    else Some (no_swap.Short area.last blocks)

-- Why the area of a header block can't take an image: it isn't a version 1 area without an image, or doesn't fit.
abbrev pub open_fault : ℕ → AreaKind → Option NoSwap
open_fault blocks (Swap area) = room_fault blocks area
open_fault blocks (Image mark) = kind_fault (Image mark)
open_fault blocks Old = kind_fault Old
open_fault blocks (Other sig) = kind_fault (Other sig)
open_fault blocks (BadArea why) = kind_fault (BadArea why)

-- The slots that an area can give, ascending: all up to the last one except the header's and the bad pages.
pub record AreUsable (area : Area) (free : List ℕ) : Type 0 where
  pub ascending : IsStrictlyIncreasing free
  pub each : (s : ℕ) → Contains free s → (s ≤ area.last) × (Contains (bad_slots_of area) s → ⊥)
  pub every : (s : ℕ) → s ≤ area.last → (Contains (bad_slots_of area) s → ⊥) → Contains free s

-- an area as a header block describes it: at most 630 bad pages, each one of its slots
pub record HasBounds (area : Area) : Type 0 where
  pub count : area.count ≤ 630
  pub bad : (k : ℕ) → Contains (take area.count area.bad) k → k ≤ area.last

-- These bytes have a whole info page without a fault, and fewer slots are free than the image may need.
pub record HasTooFewFor (free bs : List ℕ) (told need : ℕ) : Type 0 where
  pub whole : 4096 ≤ length bs
  pub sound : first_fault (take 4096 bs) ≡ None
  pub told_free : told ≡ length free
  pub told_need : need ≡ all_pages bs + SPARE_SLOTS
  pub fewer : told < need

-- If these bytes have a whole info page without a fault, as many slots are free as the image may need. So if there are
-- too few, no other fault is reported.
abbrev pub SufficeFor : (free bs : List ℕ) → Type 0
SufficeFor free bs = 4096 ≤ length bs → first_fault (take 4096 bs) ≡ None → all_pages bs + SPARE_SLOTS ≤ length free
