-- What a hibernation or a settling does to the page frames, whatever its disk tells.
use Rattle.std.specs.Prelude.{◌≡◌, ◌<◌, ℕ, List, length, All, Contains}
use Rattle.definitions.specs.Bytes.{IsPage}
use Rattle.definitions.specs.Tables.{frame, with_entries}
use Rattle.plain_machine.specs.Machine.{Hardware, Memory, IsSameMemory, unused, raw_slot_entry, image_slot}
use Rattle.plain_machine.specs.Shows.{seen_frames}
use Rattle.plain_machine.specs.declared.reply.Left.TheVariants.{Same, Gone, Unsure}
use Rattle.plain_machine.specs.declared.reply.Reply.{Reply}
use Rattle.plain_machine.specs.declared.reply.Reply.TheVariants as reply
use Rattle.hib_core.specs.declared.hib.Job.{Job}
use Rattle.hib_core.specs.declared.hib.Job.TheVariants as job
use Rattle.hib_core.specs.declared.hib.Stage.{Stage}
use Rattle.hib_core.specs.declared.hib.Stage.TheVariants as stage

-- With the image's slots given back, every page frame that isn't free stays the same, the slot table included, and the
-- same page frames are free.
abbrev pub KeepsUsed : Hardware → Memory → Memory → Type 0
KeepsUsed h old new = IsSameMemory h (seen_frames h old) (seen_frames h new)

-- Free slots are taken for the image, and nothing else changes.
pub record TakesSlots (h : Hardware) (old new : Memory) : Type 0 where
  pub slots : List ℕ
  pub free : (s : ℕ) → Contains slots s → (s < h.slots) × (raw_slot_entry h old s ≡ 0)
  pub taken : new ≡ with_entries old h.slot_table slots image_slot

-- The image's slots are given back, including those that this call took, and nothing else changes.
pub record GivesBack (h : Hardware) (old new : Memory) : Type 0 where
  pub before : Memory
  pub takes : TakesSlots h old before
  pub given : new ≡ seen_frames h before

-- A hibernation begins: only free page frames change, except that a slot is taken in the slot table.
pub record BeginsImage (h : Hardware) (old new : Memory) : Type 0 where
  pub copied : Memory
  pub pages : All IsPage copied
  pub size : length copied ≡ length old
  pub others : (p : ℕ) → (Contains (unused h old) p → ⊥) → frame copied p ≡ frame old p
  pub takes : TakesSlots h copied new

-- what the begin of a job leaves in memory
abbrev pub LeavesAtBegin : Job → Hardware → Memory → Memory → Type 0
LeavesAtBegin (job.Hibernate format) h old new = BeginsImage h old new
LeavesAtBegin (job.Suspend format) h old new = BeginsImage h old new
LeavesAtBegin job.Settle h old new = new ≡ old

-- what a call does to memory: nothing, takes slots, or gives the image's slots back
pub data Change : Type 0 where
  stays : Change
  takes : Change
  gives : Change

abbrev pub Leaves : Change → Hardware → Memory → Memory → Type 0
Leaves stays h old new = new ≡ old
Leaves takes h old new = TakesSlots h old new
Leaves gives h old new = GivesBack h old new

-- a failed read ends a hibernation, which gives its slots back, or a settling, which leaves them
abbrev pub change_at_read : Stage → Change
change_at_read (stage.Settle unmark) = stays
change_at_read _ = gives

-- what a step does to memory, by its reply: if no image is held any more its slots are given back, and if one may still
-- exist they stay taken
abbrev pub change_of : Reply → Stage → Change
change_of (reply.More k of) next = takes
change_of reply.Settled next = gives
change_of (reply.NoSwap why) next = gives
change_of (reply.ReadFault left) next = change_at_read next
change_of (reply.WriteFault Same) next = gives
change_of (reply.WriteFault Gone) next = gives
change_of (reply.WriteFault Unsure) next = stays
change_of (reply.SyncFault Same) next = gives
change_of (reply.SyncFault Gone) next = gives
change_of (reply.SyncFault Unsure) next = stays
change_of _ next = stays
