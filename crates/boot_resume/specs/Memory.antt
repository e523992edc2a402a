-- What a caller says of its machine, and which blocks an image may name.
use Rattle.std.specs.Prelude.{◌≡◌, ℕ, ◌<◌, ◌≤◌, ◌==◌, ◌&&◌, ◌||◌, List, [], ◌∷◌, Bool, nat_lt, nat_le, Option, Some}
use Rattle.std.specs.Prelude.{None, Result, Ok, Err, if◌then◌else◌}
use Rattle.std.specs.List.{list_any}
use Rattle.boot_resume.specs.declared.machine.FrameRange.{FrameRange}
use Rattle.boot_resume.specs.declared.machine.Machine.{Machine}
use Rattle.boot_resume.specs.declared.cause.Cause.{Cause}
use Rattle.boot_resume.specs.declared.cause.Cause.TheVariants.{BadBlock}

-- ranges of page frames, none of them empty, each after the one before
abbrev pub AreBehind : ℕ → List FrameRange → Type 0
AreBehind floor [] = Unit {0}
AreBehind floor (r ∷ rs) = (floor ≤ r.start) × ((r.start < r.end) × AreBehind r.end rs)

abbrev pub AreApart : List FrameRange → Type 0
AreApart ranges = AreBehind 0 ranges

-- a page frame of one of the ranges
abbrev pub is_memory : List FrameRange → ℕ → Bool
is_memory ranges p = list_any (λ r. nat_le r.start p && nat_lt p r.end) ranges

-- The blocks that an image may not name: block 0, the header's, blocks past the end of the disk, and, if the area
-- begins with block 0, blocks past its last page (swap_read_page, kernel/power/swap.c, reads any other).
abbrev pub is_outside : Machine → ℕ → ℕ → Bool
is_outside m last x = (x == 0) || (x == m.header) || (nat_le m.blocks x || ((m.header == 0) && nat_lt last x))

abbrev pub block_fault : Machine → ℕ → ℕ → Option Cause
block_fault m last x = if is_outside m last x then Some (BadBlock x) else None

-- the result of a test: it passes, or this is the cause
abbrev pub Tests : {A : Type 0} → Option Cause → Result A Cause → Type 0
Tests fault (Ok x) = fault ≡ None
Tests fault (Err cause) = fault ≡ Some cause

-- a block with no fault, or its cause
abbrev pub Names : Option Cause → ℕ → Result ℕ Cause → Type 0
Names fault x (Ok block) = (fault ≡ None) × (block ≡ x)
Names fault x (Err cause) = fault ≡ Some cause
