-- Replays: the states of a run in which no image is another's and no dump's memory comes in. Their steps look only at
-- the disk's area.
use Rattle.std.specs.Prelude.{◌≡◌, None, ⊤}
use Rattle.definitions.specs.Disk as disk
use Rattle.plain_machine.specs.Machine.{Hardware}
use Rattle.plain_machine.specs.State.{State, off, on, booting, hibernating, undoing, settling, waking, loading, asleep}
use Rattle.plain_machine.specs.State.{Held, nothing, sure, maybe, own, other, Found, not_yet, found_own, found_other}
use Rattle.plain_machine.specs.Step.{Step}
use Rattle.plain_machine.specs.declared.event.BootFrom.TheVariants.{Fresh}
use Rattle.plain_machine.specs.declared.event.Event.{Event}
use Rattle.plain_machine.specs.declared.reply.Reply.{Reply}
use Rattle.protocol_laws.specs.Rows.{IsSameArea}

-- no image of another's is held, and none was found
abbrev pub IsOwnHeld : Held → Type 0
IsOwnHeld nothing = ⊤
IsOwnHeld (sure (own i)) = ⊤
IsOwnHeld (sure other) = ⊥
IsOwnHeld (maybe (own i)) = ⊤
IsOwnHeld (maybe other) = ⊥

abbrev pub IsOwnFound : Found → Type 0
IsOwnFound not_yet = ⊤
IsOwnFound (found_own i) = ⊤
IsOwnFound (found_other v) = ⊥

-- A state of a replay: no image is another's, and no dump's memory is kept.
abbrev pub IsOfReplay : State → Type 0
IsOfReplay (off held kept) = IsOwnHeld held × (kept ≡ None)
IsOfReplay (on a) = IsOwnHeld a.held
IsOfReplay (booting from dump held k) = (from ≡ Fresh) × IsOwnHeld held
IsOfReplay (hibernating suspends i a k) = IsOwnHeld a.held
IsOfReplay (undoing i call a k) = IsOwnHeld a.held
IsOfReplay (settling a k) = IsOwnHeld a.held
IsOfReplay (waking i held a k) = IsOwnHeld held × IsOwnHeld a.held
IsOfReplay (loading load k) = IsOwnHeld load.held × IsOwnFound load.found
IsOfReplay (asleep i held a) = IsOwnHeld held × IsOwnHeld a.held

-- A step of a replay can also be made over another disk with the same area: it looks at nothing else.
abbrev pub SameSteps : Type 0
SameSteps =
    (h : Hardware) (v w : disk.DiskImage) (a : State) (e : Event) (r : Reply) (b : State) → IsSameArea h v w →
    IsOfReplay a → Step h w a e r b → Step h v a e r b

-- A step of a replay leads to a state of one: a boot or a resume that asks for a dump's memory is refused.
abbrev pub StaysOfReplay : Type 0
StaysOfReplay =
    (h : Hardware) (v : disk.DiskImage) (a : State) (e : Event) (r : Reply) (b : State) → IsOfReplay a →
    Step h v a e r b → IsOfReplay b
