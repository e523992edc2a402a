-- The most steps of the core that a world has left. The number depends only on its activity, so it also holds over a
-- disk that doesn't tell its content.
use Rattle.std.specs.Prelude.{◌≡◌, ◌≢◌, ◌⊎◌, ◌<◌, ◌≤◌, ℕ, ⊤}
use Rattle.plain_machine.specs.declared.event.Actor.TheVariants as actor
use Rattle.plain_machine.specs.declared.event.Event.{Event}
use Rattle.plain_machine.specs.declared.event.Event.TheVariants as event
use Rattle.plain_machine.specs.declared.reply.Reply.{Reply}
use Rattle.plain_machine.specs.declared.reply.Reply.TheVariants as reply
use Rattle.hib_core.specs.StepsLeft.{saving_steps_left}
use Rattle.hib_core.specs.declared.hib.Hib.{Hib}
use Rattle.resume_core.specs.StepsLeft.{loading_steps_left}
use Rattle.resume_core.specs.declared.load.Load.{Load}
use Rattle.hib_core.specs.Waking.{waking_steps_left}
use Rattle.hib_core.specs.declared.waking.waker.Waker.{Waker}
use Rattle.world_core.specs.declared.world.Core.{Core}
use Rattle.world_core.specs.declared.world.Core.TheVariants.{BootBegun, BootSynced, Hibernating}
use Rattle.world_core.specs.declared.world.Core.TheVariants.{Waking, Loading}
use Rattle.world_core.specs.StandsFor.{IsOff}
use Rattle.world_core.specs.World.{World}

abbrev pub steps_left_in : Core → Hib → Load → Waker → ℕ
steps_left_in (BootBegun from) hib load waker = 2
steps_left_in (BootSynced from) hib load waker = 1
steps_left_in Hibernating hib load waker = saving_steps_left hib
steps_left_in Waking hib load waker = waking_steps_left waker
steps_left_in Loading hib load waker = loading_steps_left load
steps_left_in _ hib load waker = 0

abbrev pub steps_left : World → ℕ
steps_left w = steps_left_in w.core w.hib w.load w.waker

-- A step of the core leaves fewer steps, unless it says that there was none to make. If a step neither continues a
-- resume nor ends it, because the image was refused or a call failed, it leaves the machine off.
pub record ComesCloser (old : World) (r : Reply) (new : World) : Type 0 where
  pub fewer : r ≢ reply.Idle → steps_left new < steps_left old
  pub idle : r ≡ reply.Idle → steps_left new ≡ 0
  pub stopped : old.core ≡ Loading → ((k : ℕ) → r ≢ reply.Loading k) → ((n : ℕ) → r ≢ reply.Resumed n) → IsOff new

-- A resume that has begun has at most 65,800 steps: two before the mark is found, two that take it back, and those that
-- read the longest chain.
abbrev pub Ends : Event → World → Reply → World → Type 0
Ends (event.Step actor.Core) old r new = ComesCloser old r new
Ends (event.Resume loader check) old r new =
    ((r ≡ reply.Loading 0) × (steps_left new ≤ 65800)) ⊎ ((r ≡ reply.NotOff) ⊎ (r ≡ reply.NoDump))
Ends _ old r new = ⊤
