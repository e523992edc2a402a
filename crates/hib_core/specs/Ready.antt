-- What a step of a hibernation or a settling needs of the machine, whatever its disk tells.
use Rattle.std.specs.Prelude.{◌≡◌, ◌≢◌, ◌<◌, ◌^◌, ℕ, ◌+◌, length, All, ⊤}
use Rattle.definitions.specs.Zones.{top}
use Rattle.swap_slots.specs.Runs.{SlotRuns}
use Rattle.swap_slots.specs.Table.{LiesIn, Matches}
use Rattle.plain_machine.specs.Machine.{Hardware, Memory, IsHardware, block_of_slot}
use Rattle.plain_machine.specs.declared.held.Held.TheVariants.{No}
use Rattle.image_write.specs.Writing.{Writing, IsReady, AreOfImage, HasReadCopies, writes_of}
use Rattle.machine.specs.Running.{CanRun, slot_table_of}
use Rattle.machine.specs.declared.machine.Machine.{Machine}
use Rattle.unmark.specs.Unmarking.{IsPastRead}
use Rattle.hib_core.specs.declared.hib.Hib.{Hib}
use Rattle.hib_core.specs.declared.hib.Saving.{Saving}
use Rattle.snapshot.specs.Taken.{Taken}
use Rattle.hib_core.specs.declared.hib.Stage.{Stage}
use Rattle.hib_core.specs.declared.hib.Stage.TheVariants as stage

-- an operation is under way
abbrev pub is_busy_at : Stage → Type 0
is_busy_at stage.Idle = ⊥
is_busy_at stage.Over = ⊥
is_busy_at stage.Asleep = ⊥
is_busy_at _ = ⊤

abbrev pub IsBusy : Hib → Type 0
IsBusy hib = is_busy_at hib.stage

-- a writer of the image of these sets that has made `saving.done` writes, over a disk of `blocks` blocks
pub record CanWrite (h : Hardware) (blocks : ℕ) (frames : Memory) (sets : Taken) (saving : Saving)
    (writer : Writing) : Type 0 where
  pub table : writer.table ≡ slot_table_of h
  pub done : writer.written ≡ saving.done
  pub steps : writes_of writer.info + 4 ≡ saving.steps
  pub ready : IsReady blocks frames writer
  pub image : AreOfImage writer.info sets.origs sets.copies sets.zeros
  pub copies : All (λ p. p < length frames) sets.copies
  pub reading : HasReadCopies sets.origs sets.copies sets.zeros writer

-- what the next step needs: the last four steps come after all writes, and an undo has the header block
abbrev pub CanMake : Stage → Hardware → ℕ → Memory → Taken → Type 0
CanMake (stage.Write saving writer) h blocks frames sets =
    (saving.done + 4 < saving.steps) × CanWrite h blocks frames sets saving writer
CanMake (stage.Sync saving) h blocks frames sets = saving.done + 4 ≡ saving.steps
CanMake (stage.Read saving) h blocks frames sets = saving.done + 3 ≡ saving.steps
CanMake (stage.Mark saving header) h blocks frames sets = saving.done + 2 ≡ saving.steps
CanMake (stage.End saving header) h blocks frames sets = saving.done + 1 ≡ saving.steps
CanMake (stage.Undo call unmark) h blocks frames sets = IsPastRead unmark.next
CanMake _ h blocks frames sets = ⊤

-- The machine is valid, and its disk has `blocks` blocks, the header block among them. Memory has the machine's page
-- frames, and the runs match its slot table.
pub record CanStep (machine : Machine) (frames : Memory) (runs : SlotRuns) (hib : Hib) : Type 0 where
  pub hardware : IsHardware machine.hw
  pub few : machine.blocks < 2 ^ 32
  pub size : length frames ≡ top machine.hw.zones
  pub table : LiesIn frames (slot_table_of machine.hw)
  pub matches : Matches frames (slot_table_of machine.hw) runs
  pub header : block_of_slot machine.hw 0 < machine.blocks
  pub next : CanMake hib.stage machine.hw machine.blocks frames hib.snapshot

-- everything but what is held stays the same
pub record IsSameMachine (old new : Machine) : Type 0 where
  pub hw : new.hw ≡ old.hw
  pub area : new.area ≡ old.area
  pub blocks : new.blocks ≡ old.blocks
  pub flights : new.flights ≡ old.flights

-- A machine that can begin a job: it can run, and if it holds an image, or perhaps holds one, the header block is on
-- the disk.
pub record CanBegin (machine : Machine) (frames : Memory) (runs : SlotRuns) (hib : Hib) : Type 0 where
  pub run : CanRun machine frames runs
  pub zones : hib.snapshot.zones ≡ machine.hw.zones
  pub header : machine.held ≢ No → block_of_slot machine.hw 0 < machine.blocks
