-- What an event makes of a world and its disk.
use Rattle.std.specs.Prelude.{◌≡◌, ◌≢◌, ◌⊎◌, ◌↔◌, ℕ, true, length, Option, Some, ⊤}
use Rattle.definitions.specs.Disk as disk
use Rattle.plain_machine.specs.Machine.{Hardware, Memory, saveable}
use Rattle.plain_machine.specs.Chain.{Marked}
use Rattle.plain_machine.specs.Shows.{seen_frames}
use Rattle.plain_machine.specs.declared.event.BootFrom.{BootFrom}
use Rattle.plain_machine.specs.State.{State, loading, Load}
use Rattle.plain_machine.specs.Step.{Step, drop_memory, dropped_by}
use Rattle.plain_machine.specs.declared.event.Actor.TheVariants as actor
use Rattle.resume_core.specs.Loading.{FindsMark}
use Rattle.resume_core.specs.Row.{LeavesRestored}
use Rattle.resume_core.specs.declared.load.Stage.TheVariants as stage
use Rattle.plain_machine.specs.declared.event.Event.{Event}
use Rattle.plain_machine.specs.declared.event.Event.TheVariants as event
use Rattle.plain_machine.specs.declared.reply.Reply.{Reply}
use Rattle.plain_machine.specs.declared.reply.Reply.TheVariants as reply
use Rattle.protocol_laws.specs.Rows as rows
use Rattle.world_core.specs.declared.world.Core.TheVariants.{BootSynced, Hibernating, Loading, Running, Waking}
use Rattle.world_core.specs.World.{World}
use Rattle.machine.specs.TaskRow.{IsRefusal}
use Rattle.hib_core.specs.Begin.{IsRefusedWith}
use Rattle.hib_core.specs.Leaving.{KeepsUsed, stays, gives, change_of}
use Rattle.world_core.specs.StandsFor.{hardware_of, StandsFor}

-- what the state goes on to
abbrev pub GoesOn : Event → World → World → Reply → disk.Content → disk.Content → State → State → Type 0
GoesOn e old new r c c' a b = rows.StepsTo (hardware_of old) (StandsFor new) e r c c' a b

-- the row of an event over these contents of the disk, and over a disk that tells its content
abbrev pub Simulates : Event → World → World → Reply → disk.Content → disk.Content → Type 0
Simulates e old new r c c' = rows.Simulates (hardware_of old) (StandsFor old) (StandsFor new) e r c c'

abbrev pub SimulatesWhereTold : Event → World → World → Reply → Option disk.Content → Option disk.Content → Type 0
SimulatesWhereTold e old new r before now =
    rows.SimulatesWhereTold (hardware_of old) (StandsFor old) (StandsFor new) e r before now

abbrev pub IsStep : Event → Type 0
IsStep (event.Step x) = ⊤
IsStep _ = ⊥

abbrev pub IsNoCut : Event → Type 0
IsNoCut (event.Cut pick) = ⊥
IsNoCut _ = ⊤

-- a cut leaves one of the disk's images
abbrev pub RestartsAt : Event → Option disk.Content → Option disk.Content → Type 0
RestartsAt (event.Cut pick) before now = disk.Changes disk.Restarts before now
RestartsAt _ before now = ⊤

-- the disk's number of blocks is taken only at an accepted boot or resume
abbrev pub blocks_after : Event → Reply → ℕ → ℕ → ℕ
blocks_after (event.Boot from) (reply.More k of) disk_blocks kept = disk_blocks
blocks_after (event.Resume loader check) (reply.Loading k) disk_blocks kept = disk_blocks
blocks_after _ _ disk_blocks kept = kept

-- A resume that ends leaves exactly Restored, free page frames included, with either loader. A machine that then runs
-- has the area of the header block, bad slots included.
abbrev pub Restores : Event → World → World → Reply → Option disk.Content → Option disk.Content → Type 0
Restores (event.Step actor.Core) old new (reply.Resumed n) before now =
    (c : disk.Content) → before ≡ Some c → (load : Load) (k : ℕ) → StandsFor old c (loading load k) →
    (c' : disk.Content) × (now ≡ Some c')
    × ((b : State)
    × Step (hardware_of old) (disk.as_it_reads c) (loading load k) (event.Step actor.Core) (reply.Resumed n) b
    × LeavesRestored new.machine new.frames c' load b)
Restores _ old new _ before now = ⊤

-- what the last step of a boot says of an image on the disk v, unless the disk failed
abbrev pub BootsMark : Hardware → Reply → disk.DiskImage → Type 0
BootsMark h (reply.Booted image) v = (image ≡ true) ↔ Marked h v
BootsMark h (reply.ReadFault left) v = ⊤
BootsMark h _ v = ⊥

-- An image is reported if and only if one exists: the last step of a boot says that an image exists if and only if
-- block(0) of the disk v is marked, and so does the second step of a resume.
pub record TellsMark (w : World) (r : Reply) (v : disk.DiskImage) : Type 0 where
  pub boots : (from : BootFrom) → w.core ≡ BootSynced from → BootsMark (hardware_of w) r v
  pub finds : w.core ≡ Loading → w.load.stage ≡ stage.Find → FindsMark (hardware_of w) r v

abbrev pub TellsImage : Event → World → Reply → Option disk.Content → Type 0
TellsImage (event.Step actor.Core) w r told = (c : disk.Content) → told ≡ Some c → TellsMark w r (disk.as_it_reads c)
TellsImage _ w r told = ⊤

-- at most one call of the disk, and only in a step that an actor had to make
abbrev pub CallsAtMostOnce : Event → Reply → ℕ → ℕ → Type 0
CallsAtMostOnce e r before now = (now ≡ before) ⊎ (IsStep e × (r ≢ reply.Idle) × (now ≡ disk.raised before))

-- An event that this world refuses. A begin or a shrink is refused by every reply but the one that accepts it, a step
-- by `idle`, and a task's request by a reply that refuses it, or if the machine doesn't run. A cut and an arm are never
-- refused.
abbrev pub IsRefused : Event → World → Reply → Type 0
IsRefused (event.Boot from) w r = IsRefusedWith r
IsRefused (event.Hibernate format) w r = IsRefusedWith r
IsRefused (event.Suspend format) w r = IsRefusedWith r
IsRefused event.Wake w r = IsRefusedWith r
IsRefused event.Settle w r = IsRefusedWith r
IsRefused (event.Shrink want) w r = (dropped left : ℕ) → r ≢ reply.Shrunk dropped left
IsRefused (event.Resume loader check) w r = (k : ℕ) → r ≢ reply.Loading k
IsRefused (event.Step x) w r = r ≡ reply.Idle
IsRefused (event.Task t o) w r = (w.core ≢ Running) ⊎ IsRefusal r
IsRefused (event.Cut pick) w r = ⊥
IsRefused (event.Arm first count pick) w r = ⊥

-- The event changes nothing, whatever the disk tells: neither the machine with its numbers, nor its activity, nor any
-- page frame, free ones included.
pub record ChangesNothing (old new : World) : Type 0 where
  pub machine : new.machine ≡ old.machine
  pub frames : new.frames ≡ old.frames
  pub core : new.core ≡ old.core

-- What a step of a hibernation or a settling does to the page frames. Those that aren't free stay, the slot table
-- included except for the image's slots. If the operation ends with nothing on the disk, those slots are given back;
-- while an image may exist, all stay as they were.
pub record KeepsUsedFrames (old new : World) (r : Reply) : Type 0 where
  pub used : KeepsUsed (hardware_of old) old.frames new.frames
  pub given : change_of r old.hib.stage ≡ gives → seen_frames (hardware_of old) new.frames ≡ new.frames
  pub unsure : change_of r old.hib.stage ≡ stays → new.frames ≡ old.frames

-- Shrinking has made exactly the dropped page frames free. It reports how many they are, and how many saveable ones are
-- left.
pub record HasDropped (h : Hardware) (want : ℕ) (old : Memory) (dropped left : ℕ) (new : Memory) : Type 0 where
  pub frames : new ≡ drop_memory h old want
  pub dropped_is : dropped ≡ length (dropped_by h old want)
  pub left_is : left ≡ length (saveable h new)

-- What a step of a waking does to the page frames, whatever the disk tells: once the machine runs, the image's slots
-- are given back; until then all stay as they were.
abbrev pub WakesWith : World → World → Reply → Type 0
WakesWith old new reply.Woken = new.frames ≡ seen_frames (hardware_of old) old.frames
WakesWith old new _ = new.frames ≡ old.frames

-- What an event does to memory, whatever the disk tells.
abbrev pub LeavesMemory : Event → World → Reply → World → Type 0
LeavesMemory (event.Hibernate format) old r new = KeepsUsed (hardware_of old) old.frames new.frames
LeavesMemory (event.Suspend format) old r new = KeepsUsed (hardware_of old) old.frames new.frames
LeavesMemory event.Settle old r new = KeepsUsed (hardware_of old) old.frames new.frames
LeavesMemory (event.Shrink want) old (reply.Shrunk dropped left) new =
    HasDropped (hardware_of old) want old.frames dropped left new.frames
LeavesMemory (event.Step actor.Core) old r new =
    (old.core ≡ Hibernating → KeepsUsedFrames old new r) × (old.core ≡ Waking → WakesWith old new r)
LeavesMemory _ old r new = ⊤
