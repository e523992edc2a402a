-- The runs of the commands: the events that a hibernation and a resume give a dump's machine, and what they do over the
-- disk.
use Rattle.std.specs.Prelude.{◌≡◌, ◌≤◌, ◌⊎◌, ◌↔◌, ◌+◌, ℕ, true, false, List, [], ◌∷◌, ◌++◌, length, map, Option, Some}
use Rattle.std.specs.Prelude.{None, IsTrue, ⊤, Bool, if◌then◌else◌}
use Rattle.page_core.specs.declared.format.Format.{Format}
use Rattle.definitions.specs.Disk as disk
use Rattle.plain_machine.specs.Chain.{Marked, is_marked_disk}
use Rattle.plain_machine.specs.Machine.{Hardware, Memory}
use Rattle.plain_machine.specs.UsableArea.{HasOriginal}
use Rattle.plain_machine.specs.Shows.{WorldView}
use Rattle.plain_machine.specs.Stands.{Stands}
use Rattle.plain_machine.specs.State.{off, Held, nothing, sure, other}
use Rattle.plain_machine.specs.declared.event.Actor.TheVariants as actor
use Rattle.plain_machine.specs.declared.event.BootFrom.TheVariants.{Kept}
use Rattle.plain_machine.specs.declared.event.Event.{Event}
use Rattle.plain_machine.specs.declared.event.Event.TheVariants as event
use Rattle.plain_machine.specs.declared.event.IdentCheck.{IdentCheck}
use Rattle.plain_machine.specs.declared.event.Loader.TheVariants.{Table}
use Rattle.plain_machine.specs.declared.reply.Reply.{Reply}
use Rattle.plain_machine.specs.declared.reply.Reply.TheVariants as reply
use Rattle.protocol_laws.specs.Rows.{TellsNewFault}
use Rattle.sector_disk.specs.declared.disk.Disk.{Ghosts}
use Rattle.command_core.specs.Turns.{AreCounted, steps_of, AreTurns, IsLeftInside, Situation, end_of}
use Rattle.command_core.specs.declared.ending.Ended.{Ended}

-- whether an operation has a step left after this reply
abbrev pub goes_on : Reply → Bool
goes_on (reply.More k of) = true
goes_on (reply.Undo call k) = true
goes_on (reply.Loading k) = true
goes_on _ = false

-- an image that the disk has before any event is another machine's
abbrev pub held_at_first : Hardware → disk.DiskImage → Held
held_at_first h v = if is_marked_disk h v then sure other else nothing

-- whether a boot has ended well
abbrev pub is_booted : Reply → Bool
is_booted (reply.Booted image) = true
is_booted _ = false

-- the step events that these replies answered
abbrev pub core_steps : List Reply → List Event
core_steps replies = map (λ r. event.Step actor.Core) replies

-- the last reply; and whether each reply before it has a step left after it
abbrev pub last_reply : Reply → List Reply → Reply
last_reply r [] = r
last_reply r (s ∷ rest) = last_reply s rest

abbrev pub GoOn : Reply → List Reply → Type 0
GoOn r [] = ⊤
GoOn r (s ∷ rest) = (goes_on r ≡ true) × GoOn s rest

-- one of the replies reports a failed call of the disk at its event
abbrev pub HasNewFault : List Reply → Type 0
HasNewFault [] = ⊥
HasNewFault (r ∷ rest) = TellsNewFault r ⊎ HasNewFault rest

-- An operation that begins with the first reply, and goes on step by step until no step is left. The replies say
-- whether a call of the disk has failed.
pub record AreStepped (begun : Reply) (rest : List Reply) (ended : Ended) : Type 0 where
  pub last_is : last_reply begun rest ≡ ended.reply
  pub goes : GoOn begun rest
  pub over : goes_on ended.reply ≡ false
  pub failed : (ended.failed ≡ true) ↔ HasNewFault rest

-- A resume is asked for, with the dump's memory as the loader, and its steps follow.
pub record IsResumption (check : IdentCheck) (ended : Ended) (events : List Event) (replies : List Reply) : Type 0 where
  pub begun : Reply
  pub rest : List Reply
  pub stepped : AreStepped begun rest ended
  pub events_are : events ≡ event.Resume Table check ∷ core_steps rest
  pub replies_are : replies ≡ begun ∷ rest

-- a boot with the dump's memory, and its two steps
abbrev pub boot_events : List Event
boot_events = event.Boot Kept ∷ event.Step actor.Core ∷ event.Step actor.Core ∷ []

-- cached page frames are dropped if a size is asked for
abbrev pub shrink_events : Option ℕ → List Event
shrink_events None = []
shrink_events (Some want) = event.Shrink want ∷ []

-- A boot ends early if a call of the disk fails: its sync, or its read.
pub record IsUnsynced (ended : Ended) (events : List Event) (replies : List Reply) : Type 0 where
  pub begun : Reply
  pub stops : goes_on ended.reply ≡ false
  pub failed : (ended.failed ≡ true) ↔ TellsNewFault ended.reply
  pub events_are : events ≡ event.Boot Kept ∷ event.Step actor.Core ∷ []
  pub replies_are : replies ≡ begun ∷ ended.reply ∷ []

pub record IsUnbooted (ended : Ended) (events : List Event) (replies : List Reply) : Type 0 where
  pub begun : Reply
  pub synced : Reply
  pub goes : goes_on synced ≡ true
  pub stops : is_booted ended.reply ≡ false
  pub failed : (ended.failed ≡ true) ↔ TellsNewFault ended.reply
  pub events_are : events ≡ boot_events
  pub replies_are : replies ≡ begun ∷ synced ∷ ended.reply ∷ []

-- the machine runs, and cached page frames were dropped if a size was asked for
pub record IsReady (size : Option ℕ) (events : List Event) (replies : List Reply) : Type 0 where
  pub begun : Reply
  pub synced : Reply
  pub booted : Reply
  pub shrunk : List Reply
  pub goes : goes_on synced ≡ true
  pub boots : is_booted booted ≡ true
  pub sizes : length shrunk ≡ length (shrink_events size)
  pub events_are : events ≡ boot_events ++ shrink_events size
  pub replies_are : replies ≡ (begun ∷ synced ∷ booted ∷ []) ++ shrunk

-- Then a hibernation is asked for, and its steps follow.
pub record IsAsked (f : Format) (size : Option ℕ) (ended : Ended) (events : List Event)
    (replies : List Reply) : Type 0 where
  pub front : List Event
  pub first : List Reply
  pub ready : IsReady size front first
  pub begun : Reply
  pub rest : List Reply
  pub stepped : AreStepped begun rest ended
  pub events_are : events ≡ front ++ event.Hibernate f ∷ core_steps rest
  pub replies_are : replies ≡ first ++ begun ∷ rest

abbrev pub FailsToBoot : Ended → List Event → List Reply → Type 0
FailsToBoot ended events replies = IsUnsynced ended events replies ⊎ IsUnbooted ended events replies

abbrev pub IsHibernation : Format → Option ℕ → Ended → List Event → List Reply → Type 0
IsHibernation f size ended events replies = FailsToBoot ended events replies ⊎ IsAsked f size ended events replies

-- Over the disk v, which has one image: at first the machine is off, with the dump's memory, and another's image if the
-- disk is marked. The events lead from there, by rows of the plain machine, to what is shown of the world and what the
-- disk holds at the end. A crash since the start leaves the disk as it was, or is inside one of the events and
-- leaves each sector as it was before that event or after it.
pub record RunsOver {X : Type 0} (D : Ghosts X) (h : Hardware) (m : Memory) (v : disk.DiskImage) (events : List Event)
    (replies : List Reply) (shown : WorldView) (before after : X) : Type 0 where
  pub first : Situation
  pub state : first.state ≡ off (held_at_first h v) (Some m)
  pub content : first.content ≡ disk.settled v
  pub stands : Stands h first.shown first.content first.state
  pub whole : (blocks : ℕ) × disk.IsContent blocks first.content
  pub through : List Situation
  pub turns : AreTurns h first events replies through
  pub told : D.content after ≡ Some (end_of first through).content
  pub shown_is : (end_of first through).shown ≡ shown
  pub later : IsTrue (D.tells_moments before) → D.moment before ≤ D.moment after
  pub inside : IsTrue (D.tells_moments before) → (w : disk.DiskImage) → D.left_since after (D.moment before) w →
      (w ≡ v) ⊎ IsLeftInside first through w

-- What a command's machine did: the disk was called at most once for each step event, its count of faults allows for
-- the replies, and over a disk that tells its content the events are a run.
pub record Ran {X : Type 0} (D : Ghosts X) (h : Hardware) (m : Memory) (events : List Event) (replies : List Reply)
    (shown : WorldView) (before after : X) : Type 0 where
  pub calls : D.calls after ≤ D.calls before + steps_of events
  pub faults : AreCounted replies (D.faults before) (D.faults after)
  pub over : (v : disk.DiskImage) → D.content before ≡ Some (disk.settled v) → (Marked h v → HasOriginal h v) →
      RunsOver D h m v events replies shown before after

-- the run of a hibernation, or of a resume, that ended this way
abbrev pub RanAs : {X : Type 0} → (List Event → List Reply → Type 0) → Ghosts X → Hardware → Memory → WorldView → X →
    X → Type 0
RanAs IsThis D h m shown before after =
    (events : List Event) × (replies : List Reply) × IsThis events replies × Ran D h m events replies shown before after
