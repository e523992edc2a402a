-- Taking the mark of a header block back: what each of the three calls leaves (swsusp_unmark, kernel/power/swap.c).
use Rattle.std.specs.Prelude.{◌≡◌, ℕ, List, Option, IfSome, ⊤}
use Rattle.definitions.specs.Bytes.{IsPage}
use Rattle.definitions.specs.Disk.{Content, Changes, Writes, FailsToWrite, Syncs, as_it_reads, block}
use Rattle.definitions.specs.SwapHeader.{unmarked_block}
use Rattle.unmark.specs.declared.unmarking.Unmark.{Unmark}
use Rattle.unmark.specs.declared.unmarking.UnmarkCall.{UnmarkCall}
use Rattle.unmark.specs.declared.unmarking.UnmarkCall.TheVariants as call
use Rattle.unmark.specs.declared.unmarking.UnmarkStep.{UnmarkStep}
use Rattle.unmark.specs.declared.unmarking.UnmarkStep.TheVariants as step

-- the number of calls that come before this one, and of those that are left before it is made
abbrev pub calls_before : UnmarkCall → ℕ
calls_before call.Read = 0
calls_before call.Write = 1
calls_before call.Sync = 2

abbrev pub calls_left : UnmarkCall → ℕ
calls_left call.Read = 3
calls_left call.Write = 2
calls_left call.Sync = 1

-- the call that a result is of, and the one that is next after it: a call that failed, and the last one, stay
abbrev pub call_of : UnmarkStep → UnmarkCall
call_of step.Read = call.Read
call_of step.Written = call.Write
call_of step.Synced = call.Sync
call_of step.ReadFault = call.Read
call_of step.WriteFault = call.Write
call_of step.SyncFault = call.Sync

abbrev pub call_after : UnmarkStep → UnmarkCall
call_after step.Read = call.Write
call_after step.Written = call.Sync
call_after step.Synced = call.Sync
call_after step.ReadFault = call.Read
call_after step.WriteFault = call.Write
call_after step.SyncFault = call.Sync

-- the header block is known, so the read isn't next
abbrev pub IsPastRead : UnmarkCall → Type 0
IsPastRead call.Read = ⊥
IsPastRead call.Write = ⊤
IsPastRead call.Sync = ⊤

-- an unmarking of this header block, which begins with the write
abbrev pub from_write : List ℕ → Unmark
from_write header = record { header = header; next = call.Write }

-- the call failed
abbrev pub IsFault : UnmarkStep → Type 0
IsFault step.Read = ⊥
IsFault step.Written = ⊥
IsFault step.Synced = ⊥
IsFault step.ReadFault = ⊤
IsFault step.WriteFault = ⊤
IsFault step.SyncFault = ⊤

-- The header block that is kept: the one that was read, and afterwards the same. After a read that failed it may be any
-- page.
abbrev pub Keeps : ℕ → List ℕ → List ℕ → UnmarkStep → Option Content → Type 0
Keeps b old new step.Read before = IfSome before (λ c. new ≡ block (as_it_reads c) b)
Keeps b old new step.ReadFault before = ⊤
Keeps b old new _ before = new ≡ old

-- what the call leaves on the disk, whose block b is the header block
abbrev pub LeavesOnDisk : ℕ → List ℕ → UnmarkStep → Option Content → Option Content → Type 0
LeavesOnDisk b header step.Read before now = now ≡ before
LeavesOnDisk b header step.Written before now = Changes (Writes b (unmarked_block header)) before now
LeavesOnDisk b header step.Synced before now = Changes Syncs before now
LeavesOnDisk b header step.ReadFault before now = now ≡ before
LeavesOnDisk b header step.WriteFault before now = Changes (FailsToWrite b (unmarked_block header)) before now
LeavesOnDisk b header step.SyncFault before now = now ≡ before

-- What a call with this result leaves: the header block that is kept, the call that is next, and the disk's content.
pub record HasUnmarked (b : ℕ) (old new : Unmark) (r : UnmarkStep) (before now : Option Content) : Type 0 where
  pub at : old.next ≡ call_of r
  pub next : new.next ≡ call_after r
  pub header : Keeps b old.header new.header r before
  pub page : IsPage old.header
  pub content : LeavesOnDisk b old.header r before now
