-- What `replay` does: it prints a run of the plain machine.
use Rattle.std.specs.Prelude.{◌≡◌, ◌≢◌, ◌⊎◌, ◌≤◌, ◌<◌, ℕ, ◌+◌, List, [], ◌∷◌, ◌++◌, length, take, codes, decimal}
use Rattle.std.specs.Prelude.{Option, Some, None}
use Rattle.definitions.specs.Disk as disk
use Rattle.definitions.specs.Streams.{TakesAll, TakesFront}
use Rattle.plain_machine.specs.Machine.{Hardware, block_of_slot}
use Rattle.plain_machine.specs.Replies.{text_of, line_of}
use Rattle.plain_machine.specs.Shows.{WorldView}
use Rattle.plain_machine.specs.Stands.{Stands}
use Rattle.plain_machine.specs.State.{State, off, nothing}
use Rattle.plain_machine.specs.Step.{Run}
use Rattle.plain_machine.specs.declared.event.Event.{Event}
use Rattle.plain_machine.specs.declared.reply.Reply.{Reply}
use Rattle.protocol_laws.specs.Rows.{LeavesBlock}
use Rattle.sector_disk.specs.declared.orders.Order.{Order}
use Rattle.world_core.specs.Orders.{orders_after}
use Rattle.command_core.specs.Turns.{AreCounted, steps_of}
use Rattle.script.specs.Grammar.{ScriptValue}
use Rattle.script.specs.Kinds.{kind_name}
use Rattle.script.specs.declared.fault.ScriptFault.{ScriptFault}
use Rattle.command_kit.specs.Told.{line, IsPrinted}
use Rattle.command_kit.specs.View.{View, DiskView}
use Rattle.definitions.specs.Disk.{Content, Writes, FailsToWrite, Syncs, raised}
use Rattle.definitions.specs.SwapHeader.{area_page}
use Rattle.swsusp_cli.specs.declared.formatting.Unformatted.{Unformatted}
use Rattle.swsusp_cli.specs.declared.formatting.Unformatted.TheVariants.{Write, Sync}

-- The formatting of an area at the block of its first slot.

-- each slot lies on one of the first `blocks` blocks
abbrev pub LieBelow : Hardware → ℕ → Type 0
LieBelow h blocks = (s : ℕ) → s < h.slots → block_of_slot h s < blocks

-- The number of blocks that a disk needs: one more than the highest block on which a slot lies.
pub record IsNeeded (h : Hardware) (need : ℕ) : Type 0 where
  pub enough : LieBelow h need
  pub furthest : ℕ
  pub is_slot : furthest < h.slots
  pub last : block_of_slot h furthest + 1 ≡ need

-- the header block of a fresh area, with its last page and its bad pages, is written at block(0), and synced
abbrev pub Formats : Hardware → ℕ → List ℕ → Content → Content → Type 0
Formats h last bad old new = (mid : Content) × Writes (block_of_slot h 0) (area_page last bad) old mid × Syncs mid new

-- a call failed: the write, which may have done a part of its work, or the sync after it
abbrev pub FailsToFormat : Hardware → ℕ → List ℕ → Unformatted → Content → Content → Type 0
FailsToFormat h last bad Write old new = FailsToWrite (block_of_slot h 0) (area_page last bad) old new
FailsToFormat h last bad Sync old new = Writes (block_of_slot h 0) (area_page last bad) old new

-- the count of calls, up to the one that failed
abbrev pub calls_until : Unformatted → ℕ → ℕ
calls_until Write calls = raised calls
calls_until Sync calls = raised (raised calls)

-- What these events ask of the disk besides reads, writes and syncs: a restart for each cut, and calls that fail for
-- each arm, with the event's own numbers.
abbrev pub orders_of : List Event → List Order
orders_of [] = []
orders_of (e ∷ events) = orders_after e [] ++ orders_of events

-- no slot of the area lies on this block
abbrev pub IsNoSlot : Hardware → ℕ → Type 0
IsNoSlot h b = (s : ℕ) → s < h.slots → block_of_slot h s ≢ b

-- The script's area was formatted over a disk that held c. The replies are a run of the plain machine over these
-- events, from a machine that is off and a disk without an image. What is shown of the world and what the disk holds
-- stand for the state at the end of the run. Blocks that belong to no slot kept their bytes in every image of the disk.
pub record IsRun (x x' : DiskView) (script : ScriptValue) (events : List Event) (replies : List Reply)
    (c : disk.Content) : Type 0 where
  pub formatted : disk.Content
  pub formats : Formats script.hardware script.last script.bad c formatted
  pub end : State
  pub run : Run script.hardware (disk.as_it_reads formatted) (off nothing None) events replies end
  pub shown : WorldView
  pub held : disk.Content
  pub told : x'.content ≡ Some held
  pub stands : Stands script.hardware shown held end
  pub unwritten : (b : ℕ) → IsNoSlot script.hardware b → LeavesBlock b c held

-- Each event got a reply, and each step made at most one call of the disk, after the formatting's two. The disk was
-- asked for exactly what the events ask for, and its count of faults allows for the replies. If the disk tells its
-- content, the replies are a run.
pub record AreReplies (x x' : DiskView) (script : ScriptValue) (events : List Event)
    (replies : List Reply) : Type 0 where
  pub size : length replies ≡ length events
  pub calls : x'.calls ≤ x.calls + 2 + steps_of events
  pub orders : x'.orders ≡ x.orders ++ orders_of events
  pub faults : AreCounted replies x.faults x'.faults
  pub run : (c : disk.Content) → x.content ≡ Some c → IsRun x x' script events replies c

-- Out took the lines of these replies, or all but the last and a front of the last: nothing is played after out has
-- failed.
abbrev pub TakesToLast : List Reply → Option (List ℕ) → Option (List ℕ) → Type 0
TakesToLast replies old new =
    TakesAll (text_of replies) old new
    ⊎ ((rs : List Reply) × (r : Reply) × (replies ≡ rs ++ r ∷ []) × (mid : Option (List ℕ))
    × TakesAll (text_of rs) old mid × TakesFront (line_of r) mid new)

-- Out took the lines of the replies to all events; or of those to some first events, the last line perhaps in part.
abbrev pub Prints : ScriptValue → View → View → Type 0
Prints script x x' =
    (replies : List Reply) × AreReplies x.disk x'.disk script script.events replies
    × IsPrinted (text_of replies) x.out x'.out

abbrev pub PrintsFront : ScriptValue → View → View → Type 0
PrintsFront script x x' =
    (k : ℕ) × (replies : List Reply) × AreReplies x.disk x'.disk script (take k script.events) replies
    × TakesToLast replies x.out.taken x'.out.taken

-- Notes.

abbrev pub small_note : ℕ → ℕ → List ℕ
small_note blocks need = line (codes "disk blocks " ++ decimal blocks ++ codes " need " ++ decimal need)

abbrev pub fault_note : ScriptFault → List ℕ
fault_note fault = line (codes "script line " ++ decimal fault.line ++ 32 ∷ kind_name fault.kind)

abbrev pub write_note : List ℕ
write_note = line (codes "write fault unsure")

abbrev pub sync_note : List ℕ
sync_note = line (codes "sync fault unsure")

-- a source that failed
abbrev pub unread_note : List ℕ
unread_note = line (codes "source fault")
