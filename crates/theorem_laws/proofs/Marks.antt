-- An image is on the disk if and only if the mark is.
use Rattle.std.proofs.Common.{inl, inr}
use Rattle.definitions.specs.Disk as disk
use Rattle.plain_machine.specs.Machine.{Hardware}
use Rattle.plain_machine.specs.Shows.{WorldView}
use Rattle.plain_machine.specs.Stands.{IsHeld, Stands}
use Rattle.plain_machine.specs.State.{Held, State, held_in, nothing, sure, maybe, own, other}
use Rattle.command_core.proofs.Crashes.{held_by}
use Rattle.theorem_laws.specs.Marks.{IsThereWhereMarked}

there_where_held : (h : Hardware) (c : disk.Content) (held : Held) → IsHeld h c held → IsThereWhereMarked h c held
there_where_held h c nothing is = is
there_where_held h c (sure (own i)) is = λ v in'. ((is v in').0.marked, (is v in').0)
there_where_held h c (maybe (own i)) is =
    λ v in'. (λ marked. elim (is v in').0 [ inl never ↦ absurd (never marked) | inr holds ↦ holds ], λ holds. holds.marked)
there_where_held h c (sure other) is = is
there_where_held h c (maybe other) is = tt

-- in each situation of a run, of whichever command
pub there_where_marked : (h : Hardware) (shown : WorldView) (c : disk.Content) (a : State) → Stands h shown c a → IsThereWhereMarked h c (held_in a)
there_where_marked h shown c a stands = there_where_held h c (held_in a) (held_by h shown c a stands)
