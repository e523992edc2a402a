-- The rows of the plain machine that a waking implements, for any machine and page frames, which its caller changes as
-- the replies say.
use Rattle.std.specs.Prelude.{◌≡◌, ◌<◌, Option}
use Rattle.definitions.specs.Disk as disk
use Rattle.plain_machine.specs.Machine.{Memory}
use Rattle.plain_machine.specs.Shows.{seen_frames}
use Rattle.plain_machine.specs.Stands.{Stands}
use Rattle.plain_machine.specs.State.{State}
use Rattle.plain_machine.specs.declared.event.Actor.TheVariants as actor
use Rattle.plain_machine.specs.declared.event.Event.TheVariants as event
use Rattle.plain_machine.specs.declared.held.Held.TheVariants.{No}
use Rattle.plain_machine.specs.declared.reply.Reply.{Reply}
use Rattle.plain_machine.specs.declared.reply.Reply.TheVariants as reply
use Rattle.protocol_laws.specs.Rows as rows
use Rattle.protocol_laws.specs.Slots.{IsMemoryOf}
use Rattle.machine.specs.declared.machine.Machine.{Machine}
use Rattle.hib_core.specs.Waking.{shown_by, asleep_by, running_by, phase_of, phase_told, IsReplyAt, waking_steps_left}
use Rattle.hib_core.specs.declared.waking.waker.Waker.{Waker}

-- A machine that wakes, sleeps or runs stands, with its disk, for a state.
abbrev pub WakingStandsFor : Machine → Memory → Waker → disk.Content → State → Type 0
WakingStandsFor machine frames waker c a = Stands machine.hw (shown_by machine frames waker) c a

abbrev pub Sleeps : Machine → Memory → disk.Content → State → Type 0
Sleeps machine frames c a = Stands machine.hw (asleep_by machine frames) c a

abbrev pub Runs : Machine → Memory → disk.Content → State → Type 0
Runs machine frames c a = Stands machine.hw (running_by machine frames) c a

-- what holds after a step, by its reply
abbrev pub StandsAfter : Reply → Machine → Memory → Waker → disk.Content → State → Type 0
StandsAfter (reply.More k of) machine frames waker = WakingStandsFor machine frames waker
StandsAfter reply.Woken machine frames waker = Runs machine frames
StandsAfter _ machine frames waker = Sleeps machine frames

-- What the caller leaves, by the reply: after `Woken` the machine holds nothing, and the image's slots are given back.
-- After any other reply all is as before: only the state knows that an image perhaps exists after a fault.
abbrev pub IsLeft : Reply → Machine → Memory → Machine → Memory → Type 0
IsLeft reply.Woken machine frames machine' frames' =
    (machine' ≡ record machine { held = No }) × (frames' ≡ seen_frames machine.hw frames)
IsLeft _ machine frames machine' frames' = (machine' ≡ machine) × (frames' ≡ frames)

-- the row of a step, over a disk that tells its content
abbrev pub SimulatesWhereTold : Machine → Waker → Waker → Reply → Option disk.Content → Option disk.Content → Type 0
SimulatesWhereTold machine waker waker' r before now =
    (frames : Memory) → IsMemoryOf machine.hw frames → (machine' : Machine) (frames' : Memory) →
    IsLeft r machine frames machine' frames' →
    rows.SimulatesWhereTold machine.hw (WakingStandsFor machine frames waker) (StandsAfter r machine' frames' waker')
    (event.Step actor.Core) r before now

-- What a step of a waking does, whichever way its call of the disk ends.
pub record HasStepped (machine : Machine) (waker waker' : Waker) (r : Reply) (before now : Option disk.Content)
    : Type 0 where
  pub row : SimulatesWhereTold machine waker waker' r before now
  pub reply : IsReplyAt waker.stage r
  pub phase : phase_of waker' ≡ phase_told r
  pub fewer : waking_steps_left waker' < waking_steps_left waker

-- the row of Wake, an event without a disk call
abbrev pub IsBegun : Waker → Type 0
IsBegun waker =
    (machine : Machine) (frames : Memory) (c : disk.Content) →
    rows.Simulates machine.hw (Sleeps machine frames) (WakingStandsFor machine frames waker) event.Wake (reply.More 0 3)
    c c
