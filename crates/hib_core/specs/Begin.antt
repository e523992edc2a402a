-- The begin of a hibernation: why it is refused, what it counts, and what it takes.
use Rattle.std.specs.Prelude.{◌≡◌, ◌≢◌, ◌≤◌, ◌<◌, ℕ, ◌+◌, ◌-◌, List, length, map, take, All, Contains, Option, Some}
use Rattle.std.specs.Prelude.{None, IsOk, is_some}
use Rattle.std.specs.List.{range_with_len, find}
use Rattle.page_core.specs.declared.format.Format.{Format}
use Rattle.definitions.specs.Bytes.{IsPage}
use Rattle.definitions.specs.Disk as disk
use Rattle.definitions.specs.NumberPages.{meta_of}
use Rattle.definitions.specs.Tables.{frame, with_entries}
use Rattle.definitions.specs.declared.info.Info.{Info}
use Rattle.snapshot.specs.Taken.{zero_frames}
use Rattle.snapshot.specs.declared.Counts.{Counts}
use Rattle.swap_slots.specs.Table.{free_in}
use Rattle.image_write.specs.Writing.{Writing, IsWriting, HasReadCopies}
use Rattle.plain_machine.specs.Image.{maps_of}
use Rattle.plain_machine.specs.Machine.{Hardware, Memory, saveable, unused, valid_count, image_slot}
use Rattle.plain_machine.specs.Refusals.{refusal}
use Rattle.plain_machine.specs.State.{on, Running}
use Rattle.plain_machine.specs.Stands.{Stands}
use Rattle.plain_machine.specs.declared.event.Event.TheVariants as event
use Rattle.plain_machine.specs.declared.held.Held.TheVariants.{No}
use Rattle.plain_machine.specs.declared.reply.Reply.{Reply}
use Rattle.plain_machine.specs.declared.reply.Reply.TheVariants as reply
use Rattle.machine.specs.Flights.{flights_in}
use Rattle.machine.specs.Running.{AreReserved, slot_table_of}
use Rattle.machine.specs.declared.machine.Machine.{Machine}
use Rattle.hib_core.specs.Hibernation.{running_by, phase_told}
use Rattle.hib_core.specs.declared.hib.Hib.{Hib}
use Rattle.hib_core.specs.declared.hib.Ending.{Ending}
use Rattle.hib_core.specs.declared.hib.Stage.TheVariants as stage
use Rattle.hib_core.specs.declared.phase.Phase.TheVariants as phase
use Rattle.definitions.specs.declared.counts.TheConstants.{SPARE_FRAMES, SPARE_SLOTS}

-- The plain machine refuses the hibernation with this reply in every running state that the machine stands for. A
-- suspend is refused with the same reply.
abbrev pub IsRefused : Machine → Memory → Format → Reply → Type 0
IsRefused machine frames f r =
    (c : disk.Content) (a : Running) → Stands machine.hw (running_by machine frames) c (on a) →
    refusal machine.hw (on a) (event.Hibernate f) ≡ Some r

-- a refusal: every reply to a begin but the one that says how many steps the operation has
abbrev pub IsRefusedWith : Reply → Type 0
IsRefusedWith r = (k of : ℕ) → r ≢ reply.More k of

-- After a refusal, whatever the disk tells, all page frames are as before, free ones included, and the machine runs on.
pub record LeavesFrames (frames frames' : Memory) (r : Reply) : Type 0 where
  pub same : frames' ≡ frames
  pub stays : phase_told r ≡ phase.Runs

-- the lowest task with an unfinished operation
abbrev pub busy_of : Machine → Option ℕ
busy_of machine = find (λ t. is_some (flights_in machine.flights t)) (range_with_len 1 64)

-- the number of pages in the image's stream
abbrev pub pages_of : Counts → ℕ
pages_of counts = counts.d + meta_of counts.n + 1

-- A hibernation that isn't refused has counted what it saves. The copies and the image have room, and no copy will lie
-- in a table.
pub record IsCounted (machine : Machine) (frames : Memory) (hib : Hib) (counts : Counts) : Type 0 where
  pub idle : busy_of machine ≡ None
  pub held : machine.held ≡ No
  pub area : IsOk machine.area
  pub origs : hib.snapshot.origs ≡ saveable machine.hw frames
  pub zeros : hib.snapshot.zeros ≡ zero_frames hib.snapshot.format frames (saveable machine.hw frames)
  pub saved : counts.n ≡ length (saveable machine.hw frames)
  pub with_pages : counts.d ≡ length (saveable machine.hw frames) - length hib.snapshot.zeros
  pub copies : length (saveable machine.hw frames) + SPARE_FRAMES ≤ length (unused machine.hw frames)
  pub slots : pages_of counts + SPARE_SLOTS ≤ length (free_in frames (slot_table_of machine.hw))
  pub reserved : AreReserved machine.hw frames

-- the number of steps of a hibernation: one per page and map, and four for the mark (sync, read, write, sync)
abbrev pub steps_of : Counts → ℕ
steps_of counts = pages_of counts + maps_of (pages_of counts) + 4

-- the fields of the image's info page
abbrev pub info_of : Hardware → Counts → Info
info_of h counts =
    record { ident = h.ident; physpages = valid_count h; image_pages = counts.n; pages = pages_of counts }

-- The counted page frames are copied, and only the frames of the copies change. The image's writer has taken the slot
-- of the first map.
pub record IsTaken (machine : Machine) (frames frames' : Memory) (hib hib' : Hib) (counts : Counts)
    (last : Ending) : Type 0 where
  pub copied : Memory
  pub writer : Writing
  pub pages : All IsPage copied
  pub snapshot : hib'.snapshot ≡ record
      hib.snapshot { copies = take (length hib.snapshot.origs) (unused machine.hw frames) }
  pub copies : map (frame copied) hib'.snapshot.copies ≡ map (frame frames) hib.snapshot.origs
  pub others : (p : ℕ) → (Contains hib'.snapshot.copies p → ⊥) → frame copied p ≡ frame frames p
  pub size : length copied ≡ length frames
  pub below : All (λ p. p < length copied) hib'.snapshot.copies
  pub info : writer.info ≡ info_of machine.hw counts
  pub extents : writer.extents ≡ machine.hw.extents
  pub table : writer.table ≡ slot_table_of machine.hw
  pub written : writer.written ≡ 0
  pub writing : IsWriting (free_in copied (slot_table_of machine.hw)) frames' writer
  pub reading : (origs copies zeros : List ℕ) → HasReadCopies origs copies zeros writer
  pub slots : frames' ≡ with_entries copied machine.hw.slot_table (take 1 (free_in copied (slot_table_of machine.hw)))
      image_slot
  pub next : hib'.stage ≡ stage.Write (record {
    ending = last;
    saved = counts.n;
    first = writer.first;
    done = 0;
    steps = steps_of counts;
  }) writer
