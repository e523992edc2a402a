-- States in which no image is there, and replies that end a resume.
use Rattle.std.proofs.Common.{◌≡◌}
use Rattle.std.specs.Prelude.{⊤}
use Rattle.plain_machine.specs.State.{State, off, on, booting, hibernating, undoing, settling, waking, loading, asleep, nothing, not_yet}
use Rattle.plain_machine.specs.declared.reply.Reply.{Reply}
use Rattle.plain_machine.specs.declared.reply.Reply.TheVariants as reply

-- the reply ends a resume
abbrev pub IsResumed : Reply → Type 0
IsResumed (reply.Resumed n) = ⊤
IsResumed _ = ⊥

-- the reply ends a resume, a sleep or the way to it, or reports a step that was made: no refusal does
abbrev pub GoesOn : Reply → Type 0
GoesOn (reply.Resumed n) = ⊤
GoesOn (reply.Asleep n) = ⊤
GoesOn reply.Woken = ⊤
GoesOn (reply.More k of) = ⊤
GoesOn _ = ⊥

pub resumed_goes_on : (r : Reply) → IsResumed r → GoesOn r
resumed_goes_on (reply.Resumed n) is = tt
resumed_goes_on _ is = absurd is

-- A state in which no image is there, and none can come but by a hibernation.
abbrev pub IsSpent : State → Type 0
IsSpent (off held kept) = held ≡ nothing
IsSpent (on a) = a.held ≡ nothing
IsSpent (booting from dump held k) = held ≡ nothing
IsSpent (hibernating suspends i a k) = ⊥
IsSpent (undoing i call a k) = ⊥
IsSpent (settling a k) = a.held ≡ nothing
IsSpent (waking i held a k) = ⊥
IsSpent (loading load k) = (load.held ≡ nothing) × (load.found ≡ not_yet)
IsSpent (asleep i held a) = ⊥
