-- Why what a caller says of its machine is impossible: the first fault.
use Rattle.std.specs.Prelude.{◌≡◌, ℕ, ◌+◌, ◌^◌, ◌<◌, ◌≤◌, ◌&&◌, ◌⊎◌, List, [], ◌∷◌, nat_lt, nat_le, Option, Some, None}
use Rattle.std.specs.Prelude.{if◌then◌else◌}
use Rattle.boot_resume.specs.Memory.{AreApart}
use Rattle.boot_resume.specs.declared.machine.FrameRange.{FrameRange}
use Rattle.boot_resume.specs.declared.machine.MachineFault.{MachineFault}
use Rattle.boot_resume.specs.declared.machine.MachineFault.TheVariants.{Memory, Present, Header}

-- The first range that is empty or begins below the end of the one before; the ranges count from `index`.
abbrev pub misplaced : (floor index : ℕ) → List FrameRange → Option ℕ
misplaced floor index [] = None
misplaced floor index (r ∷ rs) =
    if nat_le floor r.start && nat_lt r.start r.end then misplaced r.end (index + 1) rs else Some index

abbrev pub IsMachineFault : List FrameRange → (present blocks header : ℕ) → MachineFault → Type 0
IsMachineFault memory present blocks header (Memory index) = misplaced 0 0 memory ≡ Some index
IsMachineFault memory present blocks header (Present said) =
    AreApart memory × ((said ≡ present) × ((present ≡ 0) ⊎ (2 ^ 52 ≤ present)))
IsMachineFault memory present blocks header (Header said) =
    AreApart memory × ((0 < present) × ((present < 2 ^ 52) × ((said ≡ header) × (blocks ≤ header))))
