-- The states of the plain machine. It has no bitmap, copy frame, map page, safe frame or write order.
-- In Linux: hibernate and software_resume, kernel/power/hibernate.c, which pass through them.
use Rattle.std.specs.Prelude.{ℕ, Bool, Option, Some, None}
use Rattle.definitions.specs.Disk as disk
use Rattle.plain_machine.specs.Machine.{Memory}
use Rattle.plain_machine.specs.Image.{Image, SlotPages}
use Rattle.plain_machine.specs.Calls.{HibernationCall, writes_page, syncs_pages, reads_header, writes_mark, syncs_mark}
use Rattle.plain_machine.specs.Calls.{hibernation_call, BackCall, reads_mark, takes_back, syncs_back, back_call}
use Rattle.plain_machine.specs.Calls.{LoadCall, syncs_first, of_mark, reads_image, load_call}
use Rattle.plain_machine.specs.declared.no_swap.NoSwap.{NoSwap}
use Rattle.plain_machine.specs.declared.event.BootFrom.{BootFrom}
use Rattle.plain_machine.specs.declared.event.Loader.{Loader}
use Rattle.plain_machine.specs.declared.event.IdentCheck.{IdentCheck}
use Rattle.plain_machine.specs.declared.reply.UndoCall.{UndoCall}

-- A task's unfinished operation: page frame p goes out to slot s, or slot s is read into page frame p.
pub data Flight : Type 0 where
  goes_out : ℕ → ℕ → Flight
  comes_in : ℕ → ℕ → Flight

-- An image on the disk: one that the machine made, or a mark that the disk had before the program began.
pub data Saved : Type 0 where
  own : Image → Saved
  other : Saved

-- Whether an image is on the disk: none, certainly this one, or perhaps this one.
pub data Held : Type 0 where
  nothing : Held
  sure : Saved → Held
  maybe : Saved → Held

abbrev pub perhaps : Held → Held
perhaps nothing = nothing
perhaps (sure x) = maybe x
perhaps (maybe x) = maybe x

-- A machine that runs: its memory, the pages in the tasks' slots (except the targets of unfinished outs), the tasks'
-- unfinished operations, why its area can't be used, and whether an image is held.
pub record Running : Type 0 where
  pub memory : Memory
  pub slots : SlotPages
  pub flights : ℕ → Option Flight
  pub unusable : Option NoSwap
  pub held : Held

-- A resume under way: what the disk held when it began, the image that its second step found (for another's image the
-- disk v that the step read), the loader with the dump's memory, and the check.
pub data Found : Type 0 where
  not_yet : Found
  found_own : Image → Found
  found_other : disk.DiskImage → Found

pub record Load : Type 0 where
  pub held : Held
  pub found : Found
  pub loader : Loader
  pub dump : Memory
  pub check : IdentCheck

-- The states. The number in an operation's state counts the steps it has made. `off` keeps a dump's memory until a boot
-- or a resume is accepted. `hibernating` says whether it is part of a suspend. `hibernating`, `undoing`, `settling`,
-- `waking` and `asleep` keep the running state from before.
pub data State : Type 0 where
  off : Held → Option Memory → State
  on : Running → State
  booting : BootFrom → Memory → Held → ℕ → State
  hibernating : Bool → Image → Running → ℕ → State
  undoing : Image → UndoCall → Running → ℕ → State
  settling : Running → ℕ → State
  waking : Image → Held → Running → ℕ → State
  loading : Load → ℕ → State
  asleep : Image → Held → Running → State

abbrev pub saved_found : Found → Held → Held
saved_found not_yet held = held
saved_found (found_own i) held = sure (own i)
saved_found (found_other v) held = sure other

-- what is on the disk before a call of a resume
abbrev pub held_loading : Load → LoadCall → Held
held_loading load syncs_first = load.held
held_loading load (of_mark reads_mark) = load.held
held_loading load (of_mark takes_back) = saved_found load.found load.held
held_loading load (of_mark syncs_back) = perhaps (saved_found load.found load.held)
held_loading load reads_image = nothing

abbrev pub held_while_loading : Load → ℕ → Held
held_while_loading load k = held_loading load (load_call k)

-- what is on the disk before a call of a hibernation: from the write of the mark on, perhaps its image
abbrev pub held_hibernating : Image → Option HibernationCall → Held
held_hibernating i (Some writes_page) = nothing
held_hibernating i (Some syncs_pages) = nothing
held_hibernating i (Some reads_header) = nothing
held_hibernating i (Some writes_mark) = nothing
held_hibernating i (Some syncs_mark) = maybe (own i)
held_hibernating i None = maybe (own i)

-- what is on the disk before a call that takes the mark of the held image back
abbrev pub held_back : Held → Option BackCall → Held
held_back held (Some reads_mark) = held
held_back held (Some takes_back) = held
held_back held (Some syncs_back) = perhaps held
held_back held None = perhaps held

-- what is on the disk in a state
abbrev pub held_in : State → Held
held_in (off held kept) = held
held_in (on a) = a.held
held_in (booting from dump held k) = held
held_in (hibernating suspends i a k) = held_hibernating i (hibernation_call i k)
held_in (undoing i call a k) = maybe (own i)
held_in (settling a k) = held_back a.held (back_call k)
held_in (waking i held a k) = held_back held (back_call k)
held_in (loading load k) = held_while_loading load k
held_in (asleep i held a) = held

abbrev pub kept_in : State → Option Memory
kept_in (off held kept) = kept
kept_in (on a) = None
kept_in (booting from dump held k) = None
kept_in (hibernating suspends i a k) = None
kept_in (undoing i call a k) = None
kept_in (settling a k) = None
kept_in (waking i held a k) = None
kept_in (loading load k) = None
kept_in (asleep i held a) = None
