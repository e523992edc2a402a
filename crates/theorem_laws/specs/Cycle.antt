-- Hibernate, then resume: what the two commands give together. In Linux: hibernate and software_resume,
-- kernel/power/hibernate.c, with a restart between them.
use Rattle.std.specs.Prelude.{◌≡◌, ◌<◌, ◌≤◌, ℕ, List, Some, Contains, length}
use Rattle.definitions.specs.Disk as disk
use Rattle.definitions.specs.Tables.{frame}
use Rattle.definitions.specs.Zones.{top}
use Rattle.plain_machine.specs.Chain.{Marked}
use Rattle.plain_machine.specs.Image.{Image, d_of}
use Rattle.plain_machine.specs.Loader.{left_free, need}
use Rattle.plain_machine.specs.Machine.{Hardware, Memory, block_of_slot, saveable}
use Rattle.plain_machine.specs.Stands.{EachImage}
use Rattle.plain_machine.specs.State.{Running}
use Rattle.plain_machine.specs.declared.event.Loader.TheVariants.{Table}

-- each page frame that was saveable has its page, each slot of a task its page, and no image is left
pub record GivesBack (h : Hardware) (saved : Running) (frames : Memory) (now : disk.Content) : Type 0 where
  pub pages : (p : ℕ) → Contains (saveable h saved.memory) p → p < top h.zones → frame frames p ≡ frame saved.memory p
  pub slots : (s : ℕ) (page : List ℕ) → saved.slots s ≡ Some page →
      EachImage now (λ v. disk.block v (block_of_slot h s) ≡ page)
  pub gone : EachImage now (λ v. Marked h v → ⊥)

-- the loader has room for each page with data, for the list of them, and for one page frame more
abbrev pub HasRoomFor : Hardware → Memory → Image → Type 0
HasRoomFor h loader i = need (d_of i) ≤ length (left_free h loader Table)
