-- Hybrid sleep: a machine that is woken, and the image that it left when it fell asleep, never both go on. In Linux:
-- power_down with HIBERNATION_SUSPEND, kernel/power/hibernate.c, which takes the mark back when the machine wakes.
use Rattle.std.specs.Prelude.{suc, ◌≡◌, ◌⊎◌, ◌<◌, ℕ, Bool, true, false, List, take, drop, Option, Some, slice_get, ⊤}
use Rattle.page_core.specs.declared.format.Format.{Format}
use Rattle.definitions.specs.Disk as disk
use Rattle.plain_machine.specs.Machine.{Hardware, Memory}
use Rattle.plain_machine.specs.State.{State, off, on, Running, Held, nothing, sure, maybe, own, other}
use Rattle.plain_machine.specs.Step.{Run}
use Rattle.plain_machine.specs.declared.event.Event.{Event}
use Rattle.plain_machine.specs.declared.event.Event.TheVariants as event
use Rattle.plain_machine.specs.declared.event.Actor.TheVariants as actor
use Rattle.plain_machine.specs.declared.reply.Reply.{Reply}
use Rattle.plain_machine.specs.declared.reply.Reply.TheVariants as reply
use Rattle.theorem_laws.specs.Resumes.{HibernatesAt, ResumesAt}

-- what a task does: a request, or a step of its own
abbrev pub is_of_task : Event → Bool
is_of_task (event.Task t o) = true
is_of_task (event.Step (actor.Task t)) = true
is_of_task _ = false

-- the replies that refuse a task's request or step
abbrev pub is_refusal : Reply → Bool
is_refusal reply.NotOn = true
is_refusal reply.Sleeping = true
is_refusal reply.Frozen = true
is_refusal reply.InFlight = true
is_refusal reply.NoFrame = true
is_refusal reply.NotFree = true
is_refusal reply.NotOwner = true
is_refusal reply.Closed = true
is_refusal reply.NoSlot = true
is_refusal reply.NoSlotHere = true
is_refusal reply.Idle = true
is_refusal _ = false

-- a task goes on at event k: what it does is accepted
pub record TaskGoesOnAt (events : List Event) (replies : List Reply) (k : ℕ) : Type 0 where
  pub asked : Event
  pub answer : Reply
  pub is_asked : slice_get events k ≡ Some asked
  pub is_answer : slice_get replies k ≡ Some answer
  pub of_task : is_of_task asked ≡ true
  pub accepted : is_refusal answer ≡ false

-- a suspend is accepted at event k; the machine falls asleep there; it is woken; its power is cut
abbrev pub SuspendsAt : List Event → List Reply → ℕ → Type 0
SuspendsAt events replies k =
    (f : Format) × (step steps : ℕ) × (slice_get events k ≡ Some (event.Suspend f))
    × (slice_get replies k ≡ Some (reply.More step steps))

abbrev pub FallsAsleepAt : List Reply → ℕ → Type 0
FallsAsleepAt replies k = (n : ℕ) × (slice_get replies k ≡ Some (reply.Asleep n))

abbrev pub WakesAt : List Reply → ℕ → Type 0
WakesAt replies k = slice_get replies k ≡ Some reply.Woken

abbrev pub IsCutAt : List Event → ℕ → Type 0
IsCutAt events k = (pick : ℕ) × (slice_get events k ≡ Some (event.Cut pick))

-- A run from a to b, in which a machine wakes at event k: its suspend was accepted at the event `at`, no cut came
-- since, and it goes on as it was before the suspend, with no image held. So no image of the disk is marked.
pub record WakesAsBefore (h : Hardware) (v : disk.DiskImage) (a : State) (events : List Event) (replies : List Reply)
    (b : State) (k : ℕ) : Type 0 where
  pub at : ℕ
  pub earlier : at < k
  pub suspends : SuspendsAt events replies at
  pub uncut : (j : ℕ) → at < j → j < k → IsCutAt events j → ⊥
  pub before : Running
  pub begins : Run h v a (take at events) (take at replies) (on before)
  pub wakes : Run h v (on before) (drop at (take (suc k) events)) (drop at (take (suc k) replies))
      (on (record before { held = nothing }))
  pub ends : Run h v (on (record before { held = nothing })) (drop (suc k) events) (drop (suc k) replies) b

-- an image that a machine made exists, surely or perhaps
abbrev pub HoldsOwn : Held → Type 0
HoldsOwn nothing = ⊥
HoldsOwn (sure (own i)) = ⊤
HoldsOwn (sure other) = ⊥
HoldsOwn (maybe (own i)) = ⊤
HoldsOwn (maybe other) = ⊥

-- a run from a to b in which event k leaves a machine that is off, with `held` on the disk
pub record LeavesOff (h : Hardware) (v : disk.DiskImage) (a : State) (events : List Event) (replies : List Reply)
    (b : State) (k : ℕ) (held : Held) : Type 0 where
  pub kept : Option Memory
  pub leaves : Run h v a (take (suc k) events) (take (suc k) replies) (off held kept)
  pub ends : Run h v (off held kept) (drop (suc k) events) (drop (suc k) replies) b

-- Over a run: after a machine falls asleep, it wakes or its power is cut before a task goes on. A machine wakes as it
-- was before its suspend. Between its waking and the next resume that ends, a hibernation is accepted. The first cut of
-- a machine that sleeps leaves an image, surely or perhaps; AllRestore says what a resume restores of it. A cut after
-- the machine woke, and before a hibernation is accepted, leaves none.
pub record NeverBothGoOn (h : Hardware) (v : disk.DiskImage) (a : State) (events : List Event) (replies : List Reply)
    (b : State) : Type 0 where
  pub asleep : (j k : ℕ) → j < k → FallsAsleepAt replies j → TaskGoesOnAt events replies k → (i : ℕ) × (j < i) × (i < k)
      × (WakesAt replies i ⊎ IsCutAt events i)
  pub wakes : (k : ℕ) → WakesAt replies k → WakesAsBefore h v a events replies b k
  pub spent : (j k : ℕ) → j < k → WakesAt replies j → ResumesAt replies k → (i : ℕ) × (j < i) × (i < k)
      × HibernatesAt events replies i
  pub cut : (j k : ℕ) → j < k → FallsAsleepAt replies j → IsCutAt events k →
      ((i : ℕ) → j < i → i < k → WakesAt replies i ⊎ IsCutAt events i → ⊥) →
      (held : Held) × HoldsOwn held × LeavesOff h v a events replies b k held
  pub gone : (j k : ℕ) → j < k → WakesAt replies j → IsCutAt events k →
      ((i : ℕ) → j < i → i < k → HibernatesAt events replies i → ⊥) →
      LeavesOff h v a events replies b k nothing
