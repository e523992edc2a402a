-- A page that went out comes back, over hibernations: until another page goes out to its slot, no other page can be
-- brought in from there. In Linux: swap_writepage and swap_readpage, mm/page_io.c; an image leaves the slots of the
-- tasks as they are (alloc_swapdev_block, kernel/power/swap.c).
use Rattle.std.specs.Prelude.{◌≡◌, ◌≢◌, ◌<◌, ℕ, List, length, Some, Contains, ⊤}
use Rattle.definitions.specs.Tables.{frame}
use Rattle.plain_machine.specs.Image.{SlotPages}
use Rattle.plain_machine.specs.State.{State, off, on, booting, hibernating, undoing, settling, waking, loading, asleep}
use Rattle.plain_machine.specs.State.{Running, Held, nothing, sure, maybe, own, other, Found, not_yet, found_own}
use Rattle.plain_machine.specs.State.{found_other}
use Rattle.plain_machine.specs.declared.event.BootFrom.TheVariants.{Fresh, Kept}
use Rattle.plain_machine.specs.declared.event.Event.{Event}
use Rattle.plain_machine.specs.declared.event.Event.TheVariants as event
use Rattle.plain_machine.specs.declared.reply.Reply.{Reply}
use Rattle.plain_machine.specs.declared.reply.Reply.TheVariants as reply

-- slot s has no page, or this one
abbrev pub HasNoOther : ℕ → List ℕ → SlotPages → Type 0
HasNoOther s page slots = (x : List ℕ) → slots s ≡ Some x → x ≡ page

-- the same in an image that exists, surely or perhaps, which is one of the machine's own
abbrev pub HoldsNoOther : ℕ → List ℕ → Held → Type 0
HoldsNoOther s page nothing = ⊤
HoldsNoOther s page (sure (own i)) = HasNoOther s page i.slots
HoldsNoOther s page (sure other) = ⊥
HoldsNoOther s page (maybe (own i)) = HasNoOther s page i.slots
HoldsNoOther s page (maybe other) = ⊥

abbrev pub FindsNoOther : ℕ → List ℕ → Found → Type 0
FindsNoOther s page not_yet = ⊤
FindsNoOther s page (found_own i) = HasNoOther s page i.slots
FindsNoOther s page (found_other v) = ⊥

-- Whatever comes back in this state, by a task's in or a resume, slot s has no page or this one.
abbrev pub KeepsPage : ℕ → List ℕ → State → Type 0
KeepsPage s page (off held kept) = HoldsNoOther s page held
KeepsPage s page (on a) = HasNoOther s page a.slots × HoldsNoOther s page a.held
KeepsPage s page (booting from dump held k) = (from ≡ Fresh) × HoldsNoOther s page held
KeepsPage s page (hibernating suspends i a k) =
    HasNoOther s page i.slots × HasNoOther s page a.slots × HoldsNoOther s page a.held
KeepsPage s page (undoing i call a k) = HasNoOther s page i.slots × HasNoOther s page a.slots
KeepsPage s page (settling a k) = HasNoOther s page a.slots × HoldsNoOther s page a.held
KeepsPage s page (waking i held a k) = HasNoOther s page a.slots × HoldsNoOther s page held
KeepsPage s page (loading load k) = HoldsNoOther s page load.held × FindsNoOther s page load.found
KeepsPage s page (asleep i held a) = HasNoOther s page a.slots × HoldsNoOther s page held

-- each boot is with fresh memory, as in each script
abbrev pub BootsAfresh : Event → Type 0
BootsAfresh (event.Boot Kept) = ⊥
BootsAfresh _ = ⊤

-- each boot is with fresh memory, and no page goes out to slot s meanwhile
abbrev pub AreQuiet : ℕ → List Event → List Reply → Type 0
AreQuiet s events replies =
    ((e : Event) → Contains events e → BootsAfresh e) × ((r : Reply) → Contains replies r → r ≢ reply.Written s)

-- A task brought this page in from slot s into page frame p.
pub record BringsIn (page : List ℕ) (p : ℕ) (b : State) : Type 0 where
  pub after : Running
  pub runs : b ≡ on after
  pub brought : p < length after.memory → frame after.memory p ≡ page
