-- "As at its atomic copy": what a resume restores.
use Rattle.std.specs.Prelude.{suc, ◌≡◌, ◌<◌, ℕ, List, take, drop, Contains, ⊤}
use Rattle.definitions.specs.Disk as disk
use Rattle.definitions.specs.Tables.{frame}
use Rattle.definitions.specs.Zones.{top}
use Rattle.plain_machine.specs.Machine.{Hardware, saveable}
use Rattle.plain_machine.specs.State.{State, off, on, booting, hibernating, undoing, settling, waking, loading, asleep}
use Rattle.plain_machine.specs.State.{Running}
use Rattle.plain_machine.specs.Step.{Run}
use Rattle.plain_machine.specs.declared.event.Event.{Event}
use Rattle.plain_machine.specs.declared.reply.Reply.{Reply}
use Rattle.theorem_laws.specs.Resumes.{HibernatesAt, ResumesAt}

-- each page frame that was saveable has its page again, and each slot has the page that it had, if any
pub record HasCopy (h : Hardware) (before after : Running) : Type 0 where
  pub pages : (p : ℕ) → Contains (saveable h before.memory) p → p < top h.zones →
      frame after.memory p ≡ frame before.memory p
  pub slots : after.slots ≡ before.slots

-- A machine that runs after the resume has these pages; after a resume with a dump's loader it is off.
abbrev pub IsRestored : Hardware → Running → State → Type 0
IsRestored h before (on after) = HasCopy h before after
IsRestored h before (off held kept) = ⊤
IsRestored h before (booting from dump held k) = ⊥
IsRestored h before (hibernating suspends i a k) = ⊥
IsRestored h before (undoing i call a k) = ⊥
IsRestored h before (settling a k) = ⊥
IsRestored h before (waking i held a k) = ⊥
IsRestored h before (loading load k) = ⊥
IsRestored h before (asleep i held a) = ⊥

-- A run from a to b in which event k ends a resume. The last hibernation accepted before it was at event `at`. The run
-- goes from a to the machine that hibernated, from there to what event k left, and on to b. Event k left what that
-- machine had when its hibernation was accepted, at the atomic copy.
pub record IsCopyOf (h : Hardware) (v : disk.DiskImage) (a : State) (events : List Event) (replies : List Reply)
    (b : State) (k : ℕ) : Type 0 where
  pub at : ℕ
  pub earlier : at < k
  pub hibernates : HibernatesAt events replies at
  pub last : (j : ℕ) → at < j → j < k → HibernatesAt events replies j → ⊥
  pub before : Running
  pub begins : Run h v a (take at events) (take at replies) (on before)
  pub after : State
  pub resumes : Run h v (on before) (drop at (take (suc k) events)) (drop at (take (suc k) replies)) after
  pub ends : Run h v after (drop (suc k) events) (drop (suc k) replies) b
  pub restored : IsRestored h before after

-- each resume that ended in the run restores such a copy
abbrev pub AllRestore : Hardware → disk.DiskImage → State → List Event → List Reply → State → Type 0
AllRestore h v a events replies b = (k : ℕ) → ResumesAt replies k → IsCopyOf h v a events replies b k
