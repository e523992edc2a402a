-- How a replay may end.
use Rattle.std.specs.Prelude.{◌≡◌, ◌⊎◌, ◌≤◌, ◌<◌, ℕ, List, [], length, Some, Ok, Err, ◌++◌, Option, None}
use Rattle.definitions.specs.Disk as disk
use Rattle.definitions.specs.Streams.{IsUsedUp, HandsOut}
use Rattle.script.specs.Grammar.{ScriptValue, script_of}
use Rattle.script.specs.declared.fault.ScriptFault.{ScriptFault}
use Rattle.command_kit.specs.Told.{RunResult, memory_told}
use Rattle.command_kit.specs.Told.{IsTold, IsTried, IsPrinted, sink_note}
use Rattle.swsusp_cli.specs.Replay.{FailsToFormat, IsNeeded, LieBelow, calls_until}
use Rattle.swsusp_cli.specs.Replay.{Prints, PrintsFront, small_note, fault_note, write_note, sync_note, unread_note}
use Rattle.command_kit.specs.View.{View}
use Rattle.swsusp_cli.specs.declared.formatting.Unformatted.{Unformatted}
use Rattle.swsusp_cli.specs.declared.formatting.Unformatted.TheVariants.{Write, Sync}
use Rattle.command_kit.specs.declared.status.Status.{Status}
use Rattle.command_kit.specs.declared.status.Status.TheVariants.{Done, Refused, Input, Stream, Device}

-- What is printed of a script that isn't played.
abbrev pub small_told : ℕ → ℕ → RunResult
small_told blocks need = record { status = Refused; out = []; note = small_note blocks need }

abbrev pub fault_told : ScriptFault → RunResult
fault_told fault = record { status = Input; out = []; note = fault_note fault }

abbrev pub call_note : Unformatted → List ℕ
call_note Write = write_note
call_note Sync = sync_note

abbrev pub unformatted_told : Unformatted → RunResult
unformatted_told call = record { status = Device; out = []; note = call_note call }

-- this result is told
abbrev pub Tells : RunResult → Status → View → View → Type 0
Tells told status x x' = IsTold told status x.out x'.out x.note x'.note

-- what was left of the input is this script, and is read to its end
pub record IsScript (x x' : View) (script : ScriptValue) : Type 0 where
  pub says : (bytes : List ℕ) → x.left ≡ Some bytes → script_of bytes ≡ Ok script
  pub over : IsUsedUp x'.left
  pub few : length script.events ≤ 100000

-- the input is no script: its first fault is reported, and the disk isn't called
pub record IsNoScript (x x' : View) (status : Status) (fault : ScriptFault) : Type 0 where
  pub says : (bytes : List ℕ) → x.left ≡ Some bytes → script_of bytes ≡ Err fault
  pub told : Tells (fault_told fault) status x x'
  pub untouched : x'.disk ≡ x.disk

-- memory was refused before the disk was called
pub record IsOutOfMemory (x x' : View) (status : Status) : Type 0 where
  pub told : Tells memory_told status x x'
  pub untouched : x'.disk ≡ x.disk

-- the source failed: a note of that is tried, out is as before, and the disk isn't called
pub record FailsAtSource (x x' : View) (status : Status) : Type 0 where
  pub status_is : status ≡ Stream
  pub risen : disk.HasRisen x.read_faults x'.read_faults
  pub out : x'.out ≡ x.out
  pub note : IsTried unread_note x.note x'.note
  pub untouched : x'.disk ≡ x.disk

-- the disk has too few blocks for the script's area, and isn't called
pub record IsTooSmall (x x' : View) (status : Status) (script : ScriptValue) : Type 0 where
  pub need : ℕ
  pub needed : IsNeeded script.hardware need
  pub small : x.disk.blocks < need
  pub told : Tells (small_told x.disk.blocks need) status x x'
  pub untouched : x'.disk ≡ x.disk

-- a call of the disk failed while the area was formatted: only the header block may have changed
pub record IsUnformatted (x x' : View) (status : Status) (script : ScriptValue) (call : Unformatted) : Type 0 where
  pub roomy : LieBelow script.hardware x.disk.blocks
  pub told : Tells (unformatted_told call) status x x'
  pub risen : disk.HasRisen x.disk.faults x'.disk.faults
  pub calls : x'.disk.calls ≡ calls_until call x.disk.calls
  pub content : disk.Changes (FailsToFormat script.hardware script.last script.bad call) x.disk.content x'.disk.content
  pub orders : x'.disk.orders ≡ x.disk.orders

-- all events were played, and out took the lines of a run of the plain machine
pub record IsPlayed (x x' : View) (status : Status) (script : ScriptValue) : Type 0 where
  pub script_is : IsScript x x' script
  pub roomy : LieBelow script.hardware x.disk.blocks
  pub status_is : status ≡ Done
  pub prints : Prints script x x'
  pub note : IsPrinted [] x.note x'.note

-- Out failed: it took a front of the lines of a run over the first events, and the fault is noted. Or everything was
-- printed, and note failed.
pub record IsPrintedInPart (x x' : View) (status : Status) (script : ScriptValue) : Type 0 where
  pub script_is : IsScript x x' script
  pub roomy : LieBelow script.hardware x.disk.blocks
  pub status_is : status ≡ Stream
  pub prints : PrintsFront script x x'
  pub whose : disk.HasRisen x.out.faults x'.out.faults
      ⊎ (Prints script x x' × disk.HasRisen x.note.faults x'.note.faults)
  pub note : IsTried sink_note x.note x'.note

-- How a command ends whose script isn't played, by the view of the outside before and after it.
pub data IsUnplayed (x x' : View) (status : Status) : Type 0 where
  no_script : (fault : ScriptFault) → IsNoScript x x' status fault → IsUnplayed x x' status
  out_of_memory : IsOutOfMemory x x' status → IsUnplayed x x' status
  unread : FailsAtSource x x' status → IsUnplayed x x' status
  too_small : (script : ScriptValue) → IsScript x x' script → IsTooSmall x x' status script → IsUnplayed x x' status
  unformatted : (script : ScriptValue) (call : Unformatted) → IsScript x x' script →
      IsUnformatted x x' status script call → IsUnplayed x x' status

-- How a replay may end, by the view of the outside before and after it.
pub data IsReplayed (x x' : View) (status : Status) : Type 0 where
  unplayed : IsUnplayed x x' status → IsReplayed x x' status
  played : (script : ScriptValue) → IsPlayed x x' status script → IsReplayed x x' status
  cut_off : (script : ScriptValue) → IsPrintedInPart x x' status script → IsReplayed x x' status

-- Input read to its end, or to one byte past the largest script.

-- at most the given number of the bytes that were left were handed out
abbrev pub HandsOutAtMost : ℕ → Option (List ℕ) → Option (List ℕ) → Type 0
HandsOutAtMost most before after = (bytes : List ℕ) × (length bytes ≤ most) × HandsOut (length bytes) bytes before after

-- what was left is these bytes and then what is left now; nothing is left, or the bytes are too many for a script
abbrev pub IsReadAs : Option (List ℕ) → List ℕ → Option (List ℕ) → Type 0
IsReadAs None bytes None = Unit {0}
IsReadAs None bytes (Some new) = ⊥
IsReadAs (Some old) bytes None = ⊥
IsReadAs (Some old) bytes (Some new) = (old ≡ bytes ++ new) × ((new ≡ []) ⊎ (1048576 < length bytes))
