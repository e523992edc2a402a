-- "At most once": over the replies of a run, which report the resumes that ended and the hibernations that were
-- accepted.
use Rattle.std.specs.Prelude.{◌≡◌, ◌<◌, ℕ, Bool, true, false, List, Some, slice_get}
use Rattle.plain_machine.specs.declared.event.Event.{Event}
use Rattle.plain_machine.specs.declared.event.Event.TheVariants as event
use Rattle.plain_machine.specs.declared.reply.Reply.{Reply}
use Rattle.plain_machine.specs.declared.reply.Reply.TheVariants as reply

-- a hibernation or a suspend that is accepted
abbrev pub is_hibernation : Event → Reply → Bool
is_hibernation (event.Hibernate f) (reply.More k of) = true
is_hibernation (event.Suspend f) (reply.More k of) = true
is_hibernation _ _ = false

-- event j is such a hibernation or suspend
pub record HibernatesAt (events : List Event) (replies : List Reply) (j : ℕ) : Type 0 where
  pub asked : Event
  pub answer : Reply
  pub is_asked : slice_get events j ≡ Some asked
  pub is_answer : slice_get replies j ≡ Some answer
  pub accepted : is_hibernation asked answer ≡ true

-- event k ends a resume: memory is restored
abbrev pub ResumesAt : List Reply → ℕ → Type 0
ResumesAt replies k = (n : ℕ) × (slice_get replies k ≡ Some (reply.Resumed n))

-- a hibernation is accepted before each resume that ends, and between any two of them
pub record AreResumedOnce (events : List Event) (replies : List Reply) : Type 0 where
  pub hibernated : (k : ℕ) → ResumesAt replies k → (j : ℕ) × (j < k) × HibernatesAt events replies j
  pub once : (i k : ℕ) → i < k → ResumesAt replies i → ResumesAt replies k → (j : ℕ) × (i < j) × (j < k)
      × HibernatesAt events replies j
