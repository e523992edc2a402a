-- How many page frames a shrink drops: never more than must go, and enough if there are enough. In Linux:
-- shrink_all_memory (mm/vmscan.c), as hibernate_preallocate_memory asks (kernel/power/snapshot.c).
use Rattle.std.specs.Prelude.{◌≡◌, ◌<◌, ◌≤◌, ◌↔◌, ◌+◌, ◌-◌, ℕ, length}
use Rattle.definitions.specs.Disk as disk
use Rattle.plain_machine.specs.Machine.{Hardware, Memory, saveable}
use Rattle.plain_machine.specs.State.{State, on, Running}
use Rattle.plain_machine.specs.Step.{Step, droppable}
use Rattle.plain_machine.specs.declared.event.Event.TheVariants as event
use Rattle.plain_machine.specs.declared.reply.Reply.TheVariants as reply

-- Of a memory's saveable page frames, `dropped` were dropped and `left` are left, when at most `want` are wanted.
pub record MeetsWant (h : Hardware) (m : Memory) (want dropped left : ℕ) : Type 0 where
  pub counted : left + dropped ≡ length (saveable h m)
  -- with fewer dropped, too many would be left
  pub fewest : (fewer : ℕ) → fewer < dropped → want < length (saveable h m) - fewer
  -- at most `want` are left if and only if as many are droppable as are saveable beyond `want`
  pub met : (left ≤ want) ↔ (length (saveable h m) - want ≤ length (droppable h m))

-- each shrink of a machine that runs drops and leaves these numbers
abbrev pub ShrinksLeast : Type 0
ShrinksLeast =
    (h : Hardware) (v : disk.DiskImage) (a : Running) (want dropped left : ℕ) (b : State) →
    Step h v (on a) (event.Shrink want) (reply.Shrunk dropped left) b → MeetsWant h a.memory want dropped left
