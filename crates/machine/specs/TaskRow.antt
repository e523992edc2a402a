-- The effect of a task's request, and of the step that ends its operation, on a running machine, as steps of the plain
-- machine.
use Rattle.std.specs.Prelude.{◌≡◌, ◌≢◌, ℕ, ◌<◌, ◌==◌, not, Option, None, ⊤}
use Rattle.definitions.specs.Disk as disk
use Rattle.definitions.specs.Tables.{owner_of}
use Rattle.plain_machine.specs.Machine.{Hardware, Memory, is_valid, frame_entry, raw_slot_entry, image_slot}
use Rattle.plain_machine.specs.State.{on, Running, Flight}
use Rattle.plain_machine.specs.Chain.{or_else}
use Rattle.plain_machine.specs.Refusals.{refused_if}
use Rattle.plain_machine.specs.Shows.{RunsAs}
use Rattle.plain_machine.specs.Step.{Step}
use Rattle.plain_machine.specs.declared.event.Event.{Event}
use Rattle.plain_machine.specs.declared.event.Event.TheVariants.{Task}
use Rattle.plain_machine.specs.declared.event.TaskOp.{TaskOp}
use Rattle.plain_machine.specs.declared.held.Held.{Held}
use Rattle.plain_machine.specs.declared.held.Held.TheVariants.{No}
use Rattle.plain_machine.specs.declared.no_swap.NoSwap.{NoSwap}
use Rattle.plain_machine.specs.declared.reply.Reply.{Reply}
use Rattle.plain_machine.specs.declared.reply.Reply.TheVariants as reply
use Rattle.machine.specs.Flights.{flights_in}
use Rattle.machine.specs.Running.{reason_of}
use Rattle.machine.specs.declared.machine.Machine.{Machine}

-- why page frame p isn't task t's
abbrev pub own_refusal : Hardware → Memory → ℕ → ℕ → Option Reply
own_refusal h m t p =
    or_else (refused_if (not (is_valid h p)) reply.NoFrame)
    (refused_if (not (owner_of (frame_entry h m p) == t)) reply.NotOwner)

-- The reply leads from the running state a to the running state b by a step of the plain machine. The machine's present
-- page frames and operations show b, and name no slot as the image's that wasn't one before. What is held, and why the
-- area can't be used, stay.
pub record GoesOn (h : Hardware) (e : Event) (flag : Held) (why : Option NoSwap) (operations : ℕ →
    Option Flight) (old new : Memory) (r : Reply) (a b : Running) : Type 0 where
  pub step : (v : disk.DiskImage) → Step h v (on a) e r (on b)
  pub runs : RunsAs h flag why operations new b
  pub held : b.held ≡ a.held
  pub unusable : b.unusable ≡ a.unusable
  pub named : (s : ℕ) → s < h.slots → raw_slot_entry h new s ≡ image_slot → raw_slot_entry h old s ≡ image_slot

-- the row of a request that depends only on page frames, whatever else the machine shows, if its task has no operation
abbrev pub HasFrameRow : Hardware → ℕ → TaskOp → Memory → Memory → Reply → Type 0
HasFrameRow h t o old new r =
    (flag : Held) (why : Option NoSwap) (operations : ℕ → Option Flight) → operations t ≡ None → (a : Running) →
    RunsAs h flag why operations old a →
    (b : Running) × GoesOn h (Task t o) flag why operations old new r a b × (b.slots ≡ a.slots)

-- the machine and its page frames run as state a says
abbrev pub ShowsAs : Machine → Memory → Running → Type 0
ShowsAs machine frames a = RunsAs machine.hw machine.held (reason_of machine.area) (flights_in machine.flights) frames a

-- if no image is held, no slot is named as the image's
abbrev pub NamesNone : Machine → Memory → Type 0
NamesNone machine frames =
    machine.held ≡ No → (s : ℕ) → s < machine.hw.slots → raw_slot_entry machine.hw frames s ≢ image_slot

-- a step from state a that leaves the machine as it is except for its operations
abbrev pub StepsOn : Machine → Memory → Event → Machine → Memory → Reply → Running → Running → Type 0
StepsOn machine frames e machine' frames' r a b =
    GoesOn machine.hw e machine.held (reason_of machine.area) (flights_in machine'.flights) frames frames' r a b

-- The row of the plain machine for a task's request: whichever running state the machine showed, the reply is a step of
-- that state. The pages in the tasks' slots stay.
abbrev pub SimulatesRequest : Machine → Memory → ℕ → TaskOp → Machine → Memory → Reply → Type 0
SimulatesRequest machine frames t o machine' frames' r =
    NamesNone machine frames → (a : Running) → ShowsAs machine frames a → (b : Running)
    × StepsOn machine frames (Task t o) machine' frames' r a b × (b.slots ≡ a.slots)

-- a reply that refuses a task's request to a running machine
abbrev pub IsRefusal : Reply → Type 0
IsRefusal reply.InFlight = ⊤
IsRefusal reply.NoFrame = ⊤
IsRefusal reply.NotFree = ⊤
IsRefusal reply.NotOwner = ⊤
IsRefusal reply.Closed = ⊤
IsRefusal reply.NoSlot = ⊤
IsRefusal reply.NoSlotHere = ⊤
IsRefusal _ = ⊥
