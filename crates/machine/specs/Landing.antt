-- The end of a task's operation: one call of the disk, and its effect on the disk and the machine.
use Rattle.std.specs.Prelude.{◌≡◌, ◌⊎◌, ℕ, List, Option, Some, None, IsSome, IfSome}
use Rattle.definitions.specs.Bytes.{IsPage}
use Rattle.definitions.specs.Disk as disk
use Rattle.definitions.specs.Tables.{frame, with_entry, with_frame}
use Rattle.plain_machine.specs.Machine.{Hardware, Memory, block_of_slot}
use Rattle.plain_machine.specs.Stands.{HasFlights, HaveSlotPages}
use Rattle.plain_machine.specs.State.{Running, Flight, goes_out, comes_in}
use Rattle.plain_machine.specs.declared.event.Actor.TheVariants as actor
use Rattle.plain_machine.specs.declared.event.Event.TheVariants.{Step}
use Rattle.plain_machine.specs.declared.reply.Left.TheVariants.{Same}
use Rattle.plain_machine.specs.declared.reply.Reply.{Reply}
use Rattle.plain_machine.specs.declared.reply.Reply.TheVariants as reply
use Rattle.machine.specs.TaskRow.{ShowsAs, NamesNone, StepsOn}
use Rattle.machine.specs.declared.machine.Machine.{Machine}

-- the replies that the end of an operation may give: it is done, or its call of the disk failed
abbrev pub Answers : Option Flight → Reply → Type 0
Answers None r = ⊥
Answers (Some (goes_out s p)) r = (r ≡ reply.Written s) ⊎ (r ≡ reply.WriteFault Same)
Answers (Some (comes_in s p)) r = (r ≡ reply.Fetched s) ⊎ (r ≡ reply.ReadFault Same)

-- What the call does to the disk: an out writes its page frame's page to its slot's block, or fails to; an in leaves
-- the disk as it is.
abbrev pub CallsDisk : Hardware → Memory → Option Flight → Reply → Option disk.Content → Option disk.Content → Type 0
CallsDisk h frames None r before now = now ≡ before
CallsDisk h frames (Some (goes_out s p)) r before now =
    (r ≡ reply.Written s → disk.Changes (disk.Writes (block_of_slot h s) (frame frames p)) before now)
    × (r ≡ reply.WriteFault Same → disk.Changes (disk.FailsToWrite (block_of_slot h s) (frame frames p)) before now)
CallsDisk h frames (Some (comes_in s p)) r before now = now ≡ before

-- The end of an out to slot s: its block, one of the disk's, is written; or the write fails and the slot is free.
abbrev pub EndsOut : Hardware → ℕ → Memory → Memory → ℕ → ℕ → Reply → Option disk.Content → Option disk.Content → Type 0
EndsOut h b old new s p r before now =
    ((r ≡ reply.Written s) × (new ≡ old) × disk.Changes (disk.Writes b (frame old p)) before now)
    ⊎ ((r ≡ reply.WriteFault Same) × (new ≡ with_entry old h.slot_table s 0)
    × disk.Changes (disk.FailsToWrite b (frame old p)) before now)

-- The end of an in from slot s: the slot is free and the page frame has the block's page; or all is as it was.
abbrev pub EndsIn : Hardware → ℕ → Memory → Memory → ℕ → ℕ → Reply → Option disk.Content → Type 0
EndsIn h b old new s p r content =
    ((r ≡ reply.Fetched s)
    × ((page : List ℕ) × IsPage page × (new ≡ with_frame (with_entry old h.slot_table s 0) p page)
    × IfSome content (λ c. page ≡ disk.block (disk.as_it_reads c) b)))
    ⊎ ((r ≡ reply.ReadFault Same) × (new ≡ old))

-- the end of an operation: the call of the disk, and its effect on the page frames
abbrev pub Ends : Hardware → Option Flight → Memory → Memory → Reply → Option disk.Content → Option disk.Content →
    Type 0
Ends h None old new r before now = ⊥
Ends h (Some (goes_out s p)) old new r before now = EndsOut h (block_of_slot h s) old new s p r before now
Ends h (Some (comes_in s p)) old new r before now = EndsIn h (block_of_slot h s) old new s p r before × (now ≡ before)

-- the slot that a page comes in from has a page
abbrev pub HasSource : ℕ → Running → Type 0
HasSource t a = (s p : ℕ) → a.flights t ≡ Some (comes_in s p) → IsSome (a.slots s)

-- The row of the plain machine for the end of a task's operation, over a disk that tells its content. Whichever running
-- state the machine showed, if its operations have their slots and its slots have the pages that the disk reads, the
-- reply is a step of that state.
abbrev pub HasEnd : Machine → Memory → ℕ → Machine → Memory → Reply → Option disk.Content → Type 0
HasEnd machine frames t machine' frames' r content =
    NamesNone machine frames → (c : disk.Content) → content ≡ Some c → (a : Running) → ShowsAs machine frames a →
    HasFlights machine.hw a → HaveSlotPages machine.hw c a.slots → HasSource t a → (b : Running)
    × StepsOn machine frames (Step (actor.Task t)) machine' frames' r a b
