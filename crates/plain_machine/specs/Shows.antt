-- What a world shows of itself, and which running state it shows. Nothing here speaks of a disk.
-- It has no counterpart in Linux.
use Rattle.std.specs.Prelude.{◌≡◌, ℕ, Bool, true, false, List, Option, Some, None, ⊤}
use Rattle.definitions.specs.Tables.{with_entries}
use Rattle.definitions.specs.Tables.{image_slots}
use Rattle.plain_machine.specs.Machine.{Hardware, Memory, IsSameMemory, Fits}
use Rattle.plain_machine.specs.State.{State, off, on, booting, hibernating, undoing, settling, waking, loading, asleep}
use Rattle.plain_machine.specs.State.{Running, Held, nothing, sure, maybe, Flight}
use Rattle.plain_machine.specs.declared.event.BootFrom.{BootFrom}
use Rattle.plain_machine.specs.declared.event.IdentCheck.{IdentCheck}
use Rattle.plain_machine.specs.declared.event.Loader.{Loader}
use Rattle.plain_machine.specs.declared.reply.UndoCall.{UndoCall}
use Rattle.plain_machine.specs.declared.held.Held.{Held as HeldFlag}
use Rattle.plain_machine.specs.declared.held.Held.TheVariants.{No, Yes, Perhaps}
use Rattle.plain_machine.specs.declared.no_swap.NoSwap.{NoSwap}

-- What a world is doing, and how many steps of that it has made. A boot says which memory it starts from, a hibernation
-- whether it is part of a suspend, an undo which call failed.
pub data Activity : Type 0 where
  rests : Activity
  runs : Activity
  boots : BootFrom → ℕ → Activity
  hibernates : Bool → ℕ → Activity
  undoes : UndoCall → ℕ → Activity
  settles : ℕ → Activity
  wakes : ℕ → Activity
  loads : ℕ → Activity
  sleeps : Activity

abbrev pub activity_in : State → Activity
activity_in (off held kept) = rests
activity_in (on a) = runs
activity_in (booting from dump held k) = boots from k
activity_in (hibernating suspends i a k) = hibernates suspends k
activity_in (undoing i call a k) = undoes call k
activity_in (settling a k) = settles k
activity_in (waking i held a k) = wakes k
activity_in (loading load k) = loads k
activity_in (asleep i held a) = sleeps

-- What a world shows: what it is doing, whether it keeps a dump's memory, whether it holds an image, why its area can't
-- be used, the tasks' unfinished operations, the content of its page frames, the block that it keeps between two calls
-- of the disk, the page frames of its copies and, while a resume is under way, its loader, its check and the pages that
-- it has read, by page frame.
pub record WorldView : Type 0 where
  pub activity : Activity
  pub keeps_dump : Bool
  pub held : HeldFlag
  pub unusable : Option NoSwap
  pub flights : ℕ → Option Flight
  pub frames : Memory
  pub header : List ℕ
  pub copies : List ℕ
  pub resume : Option (Loader × IdentCheck)
  pub loaded : List (ℕ × List ℕ)

-- the flag (no, yes or perhaps) agrees with what is held
abbrev pub ShowsHeld : HeldFlag → Held → Type 0
ShowsHeld No nothing = ⊤
ShowsHeld No (sure x) = ⊥
ShowsHeld No (maybe x) = ⊥
ShowsHeld Yes nothing = ⊥
ShowsHeld Yes (sure x) = ⊤
ShowsHeld Yes (maybe x) = ⊥
ShowsHeld Perhaps nothing = ⊥
ShowsHeld Perhaps (sure x) = ⊥
ShowsHeld Perhaps (maybe x) = ⊤

-- the page frames with the image's slots freed in the slot table
abbrev pub seen_frames : Hardware → Memory → Memory
seen_frames h frames = with_entries frames h.slot_table (image_slots h.slots h.slot_table frames) 0

-- A machine with this flag, reason, operations and page frames runs as the state says. The page frames, with the
-- image's slots freed, are the state's memory, which fits.
pub record RunsAs (h : Hardware) (flag : HeldFlag) (why : Option NoSwap) (operations : ℕ →
    Option Flight) (frames : Memory) (a : Running) : Type 0 where
  pub held : ShowsHeld flag a.held
  pub unusable : a.unusable ≡ why
  pub flights : (t : ℕ) → a.flights t ≡ operations t
  pub same : IsSameMemory h a.memory (seen_frames h frames)
  pub fits : Fits h a.memory

-- the running state that a world shows, its own or the one from before its operation, is this one
abbrev pub ShowsRunning : Hardware → WorldView → Running → Type 0
ShowsRunning h shown a = RunsAs h shown.held shown.unusable shown.flights shown.frames a

-- A world that is off shows whether it keeps a dump's memory, and exactly that memory, free page frames included.
abbrev pub ShowsKept : Hardware → WorldView → Option Memory → Type 0
ShowsKept h shown None = shown.keeps_dump ≡ false
ShowsKept h shown (Some m) = (shown.keeps_dump ≡ true) × (shown.frames ≡ m) × Fits h m
