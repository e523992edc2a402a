-- A power cut in any state: the machine is off and holds what it held (own; Linux finds what the disk has after the
-- cut).
use Rattle.std.specs.Prelude.{◌≡◌, ℕ}
use Rattle.definitions.specs.Disk.{Content, IsContent, Restarts, as_it_reads}
use Rattle.plain_machine.specs.Machine.{Hardware}
use Rattle.plain_machine.specs.Shows.{WorldView, rests, ShowsKept}
use Rattle.plain_machine.specs.Stands.{Stands}
use Rattle.plain_machine.specs.State.{State, off, held_in, kept_in}
use Rattle.protocol_laws.specs.Rows.{IsSameArea}

-- the world shows nothing of the state that the cut ended, except a dump's memory if that was kept
abbrev pub CutsOff : Type 0
CutsOff =
    (h : Hardware) (shown shown' : WorldView) (c c' : Content) (a : State) → Stands h shown c a → Restarts c c' →
    shown'.activity ≡ rests → ShowsKept h shown' (kept_in a) → Stands h shown' c' (off (held_in a) (kept_in a))

-- the area on the disk stays
abbrev pub CutKeepsArea : Type 0
CutKeepsArea =
    (h : Hardware) (shown : WorldView) (c c' : Content) (blocks : ℕ) (a : State) → IsContent blocks c →
    Stands h shown c a → Restarts c c' → IsSameArea h (as_it_reads c) (as_it_reads c')
