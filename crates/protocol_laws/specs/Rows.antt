-- What an event does to something that stands for a state of the plain machine over a disk: for each state that it
-- stood for, it stands afterwards for one that the plain machine goes on to.
use Rattle.std.specs.Prelude.{◌≡◌, ◌⊎◌, ◌≤◌, ◌<◌, ◌+◌, ◌*◌, ◌==◌, ℕ, zero, Bool, true, false, List, [], ◌∷◌, length}
use Rattle.std.specs.Prelude.{All, flat_map, Contains, slice_index_or, Option, Some, None, ⊤, if◌then◌else◌, map}
use Rattle.std.specs.List.{range_with_len}
use Rattle.definitions.specs.Disk as disk
use Rattle.definitions.specs.SwapHeader.{taken_back}
use Rattle.plain_machine.specs.Machine.{Hardware, block_of_slot}
use Rattle.plain_machine.specs.Chain.{Marked, header_of, blocks_of}
use Rattle.plain_machine.specs.Image.{Image}
use Rattle.plain_machine.specs.Calls.{HibernationCall, writes_page, writes_mark, hibernation_call, BackCall, takes_back}
use Rattle.plain_machine.specs.Calls.{back_call, undo_call, LoadCall, of_mark, load_call}
use Rattle.plain_machine.specs.Mark.{HasMark}
use Rattle.plain_machine.specs.Stands.{EachImage, AgreeOnArea, Reads, laid_writes, first_map_block}
use Rattle.plain_machine.specs.State.{State, off, on, booting, hibernating, undoing, settling, waking, loading, asleep}
use Rattle.plain_machine.specs.State.{Running, Flight, goes_out, comes_in}
use Rattle.plain_machine.specs.Step.{Step}
use Rattle.plain_machine.specs.UsableArea.{area_block}
use Rattle.plain_machine.specs.declared.event.Actor.TheVariants as actor
use Rattle.plain_machine.specs.declared.event.Event.{Event}
use Rattle.plain_machine.specs.declared.event.Event.TheVariants as event
use Rattle.plain_machine.specs.declared.reply.Reply.{Reply}
use Rattle.plain_machine.specs.declared.reply.Reply.TheVariants as reply
use Rattle.plain_machine.specs.declared.reply.Left.TheVariants.{Gone}

-- write k + 1 of the pages and maps: a block, and what is written there
abbrev pub write_of_step : Hardware → Running → Image → ℕ → ℕ × List ℕ
write_of_step h a i k = slice_index_or (laid_writes h a i) k (0, [])

-- Two disks have the same swap area: the same number of blocks and, with any mark taken back, the same header block
-- except for bytes 4056 to 4085.
pub record IsSameArea (h : Hardware) (v w : disk.DiskImage) : Type 0 where
  pub blocks : blocks_of w ≡ blocks_of v
  pub header : AgreeOnArea (area_block h w) (area_block h v)

-- the states that something stands for, by the content of the disk
abbrev pub StandsBy : Type 1
StandsBy = disk.Content → State → Type 0

-- the block that an unfinished out goes to
abbrev pub out_block : Hardware → Option Flight → List ℕ
out_block h None = []
out_block h (Some (goes_out s p)) = block_of_slot h s ∷ []
out_block h (Some (comes_in s p)) = []

-- The block that a hibernation's call after k steps writes: a page's or map's own, or block(0) for the mark.
abbrev pub block_of_call : Hardware → Running → Image → ℕ → Option HibernationCall → List ℕ
block_of_call h a i k (Some writes_page) = (write_of_step h a i k).0 ∷ []
block_of_call h a i k (Some writes_mark) = block_of_slot h 0 ∷ []
block_of_call h a i k call = []

abbrev pub block_of_step : Hardware → Running → Image → ℕ → List ℕ
block_of_step h a i k = block_of_call h a i k (hibernation_call i k)

-- block(0), if the call takes a mark back
abbrev pub block_taken_back : Hardware → Option BackCall → List ℕ
block_taken_back h (Some takes_back) = block_of_slot h 0 ∷ []
block_taken_back h call = []

abbrev pub block_of_load : Hardware → LoadCall → List ℕ
block_of_load h (of_mark call) = block_taken_back h (Some call)
block_of_load h call = []

-- The blocks that may be written, by the state before an event: while the machine runs those of unfinished outs,
-- otherwise that of the next call.
abbrev pub blocks_written : Hardware → State → List ℕ
blocks_written h (off held kept) = []
blocks_written h (on a) = flat_map (λ t. out_block h (a.flights t)) (range_with_len 1 64)
blocks_written h (booting from dump held k) = []
blocks_written h (hibernating suspends i a k) = block_of_step h a i k
blocks_written h (undoing i call a k) = block_taken_back h (undo_call k)
blocks_written h (settling a k) = block_taken_back h (back_call k)
blocks_written h (waking i held a k) = block_taken_back h (back_call k)
blocks_written h (loading load k) = block_of_load h (load_call k)
blocks_written h (asleep i held a) = []

-- whether the event is a step of task t
abbrev pub is_step_of : ℕ → Event → Bool
is_step_of t (event.Step (actor.Task u)) = u == t
is_step_of t _ = false

-- The blocks that this event may write: on a running machine a task's step may write only its own unfinished out.
abbrev pub blocks_at : Hardware → Event → State → List ℕ
blocks_at h e (on a) = flat_map (λ t. if is_step_of t e then out_block h (a.flights t) else []) (range_with_len 1 64)
blocks_at h e a = blocks_written h a

-- Each image that a crash may leave afterwards has in this block what a crash might have left there before.
pub record LeavesBlock (b : ℕ) (c c' : disk.Content) : Type 0 where
  pub leaves : (v : disk.DiskImage) (s : ℕ) → disk.IsImage c' v → s < length v → 8 * b ≤ s → s < 8 * b + 8 →
      Contains (disk.sector c s).candidates (slice_index_or v s [])

-- A hibernation that ended has left the mark and the image's blocks in this image of the disk.
pub record HasImage (h : Hardware) (i : Image) (a : Running) (v : disk.DiskImage) : Type 0 where
  pub marked : Marked h v
  pub mark : HasMark h i.format (first_map_block h a) (header_of h v)
  pub laid : All (Reads v) (laid_writes h a i)

-- a hibernation that ends has left them in every image of the disk
abbrev pub LeavesImage : Hardware → Event → Reply → State → disk.Content → Type 0
LeavesImage h (event.Step actor.Core) (reply.Hibernated n) (hibernating suspends i a k) c = EachImage c (HasImage h i a)
LeavesImage h (event.Step actor.Core) (reply.Asleep n) (hibernating suspends i a k) c = EachImage c (HasImage h i a)
LeavesImage h _ _ _ c = ⊤

-- Each image that a crash may leave afterwards has in block(0) what a crash might have left there before, or that block
-- taken back.
abbrev pub KeepsHeaderOrTakesBack : Hardware → disk.Content → disk.Content → Type 0
KeepsHeaderOrTakesBack h c c' =
    (w : disk.DiskImage) → disk.IsImage c' w → (v : disk.DiskImage) × disk.IsImage c v
    × ((header_of h w ≡ header_of h v) ⊎ (header_of h w ≡ taken_back (header_of h v)))

-- Each marked block(0) that a crash may leave afterwards is one that a crash might have left before.
abbrev pub AddsNoMark : Hardware → disk.Content → disk.Content → Type 0
AddsNoMark h c c' =
    (w : disk.DiskImage) → disk.IsImage c' w → Marked h w → (v : disk.DiskImage) × disk.IsImage c v
    × (header_of h w ≡ header_of h v)

-- what a step of a resume or of an undo leaves of block(0)
abbrev pub LeavesHeader : Hardware → State → disk.Content → disk.Content → Type 0
LeavesHeader h (loading load k) c c' = KeepsHeaderOrTakesBack h c c'
LeavesHeader h (undoing i call a k) c c' = AddsNoMark h c c'
LeavesHeader h _ c c' = ⊤

-- The plain machine may give this reply and go on to state b, and what exists afterwards stands for b. The area on the
-- disk stays the same, only the blocks of this event are written, and block(0) is left as `LeavesHeader` says.
pub record StepsTo (h : Hardware) (new : StandsBy) (e : Event) (r : Reply) (c c' : disk.Content)
    (a b : State) : Type 0 where
  pub step : Step h (disk.as_it_reads c) a e r b
  pub stands : new c' b
  pub area : IsSameArea h (disk.as_it_reads c) (disk.as_it_reads c')
  pub unwritten : (b : ℕ) → (Contains (blocks_at h e a) b → ⊥) → LeavesBlock b c c'
  pub leaves : LeavesImage h e r a c'
  pub header : LeavesHeader h a c c'

-- the row of an event for these contents of the disk, for each state that the world and the disk stood for
abbrev pub Simulates : Hardware → StandsBy → StandsBy → Event → Reply → disk.Content → disk.Content → Type 0
Simulates h old new e r c c' = (a : State) → old c a → (b : State) × StepsTo h new e r c c' a b

-- the row over a disk that tells its content
abbrev pub SimulatesWhereTold : Hardware → StandsBy → StandsBy → Event → Reply → Option disk.Content →
    Option disk.Content → Type 0
SimulatesWhereTold h old new e r before now =
    (c : disk.Content) → before ≡ Some c → (c' : disk.Content) × (now ≡ Some c') × Simulates h old new e r c c'

-- whether a reply says that there was nothing to do
abbrev pub is_idle : Reply → Bool
is_idle reply.Idle = true
is_idle _ = false

-- A reply that reports a disk call that failed at this event. The reply at the end of a successful undo isn't one: it
-- reports the earlier failure that began the undo.
abbrev pub TellsNewFault : Reply → Type 0
TellsNewFault (reply.ReadFault left) = ⊤
TellsNewFault (reply.WriteFault Gone) = ⊥
TellsNewFault (reply.WriteFault left) = ⊤
TellsNewFault (reply.SyncFault Gone) = ⊥
TellsNewFault (reply.SyncFault left) = ⊤
TellsNewFault (reply.Undo call zero) = ⊤
TellsNewFault _ = ⊥
