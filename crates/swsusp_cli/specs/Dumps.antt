-- How `hibernate` may end: it reads a dump, and its machine answers.
use Rattle.std.specs.Prelude.{◌≡◌, ℕ, List, [], ◌++◌, codes, decimal, Bool, true, false, if◌then◌else◌}
use Rattle.std.specs.Prelude.{Option, Some, Ok, Err}
use Rattle.page_core.specs.declared.format.Format.{Format}
use Rattle.definitions.specs.Streams.{IsUsedUp}
use Rattle.dump_file.specs.Dump.{IsReadToFault, DumpValue, dump_of}
use Rattle.dump_file.specs.declared.dump.DumpFault.{DumpFault}
use Rattle.dump_file.specs.declared.dump.DumpKind.{DumpKind}
use Rattle.dump_file.specs.declared.dump.DumpKind.TheVariants as kind
use Rattle.plain_machine.specs.Machine.{IsHardware}
use Rattle.plain_machine.specs.Replies.{line_of}
use Rattle.plain_machine.specs.declared.reply.Reply.{Reply}
use Rattle.plain_machine.specs.declared.reply.Reply.TheVariants as reply
use Rattle.plain_machine.specs.Shows.{WorldView}
use Rattle.sector_disk.specs.declared.disk.Disk.{Ghosts}
use Rattle.command_core.specs.Runs.{IsHibernation, RanAs}
use Rattle.command_core.specs.declared.ending.Ended.{Ended}
use Rattle.command_kit.specs.Told.{RunResult, line}
use Rattle.swsusp_cli.specs.Outcome.{IsOutOfMemory, FailsAtSource, Tells}
use Rattle.command_kit.specs.View.{View}
use Rattle.command_kit.specs.declared.status.Status.{Status}
use Rattle.command_kit.specs.declared.status.Status.TheVariants.{Done, Refused, Input, Device}

-- An input that is no dump: its first fault is at a byte or, in the tables, at a page frame.

abbrev pub kind_text : DumpKind → List ℕ
kind_text kind.Short = codes "Short byte "
kind_text kind.Magic = codes "Magic byte "
kind_text kind.Header = codes "Header byte "
kind_text kind.Zone = codes "Zone byte "
kind_text kind.Extent = codes "Extent byte "
kind_text kind.Frame = codes "Frame byte "
kind_text kind.Order = codes "Order byte "
kind_text kind.Extra = codes "Extra byte "
kind_text kind.Tables = codes "Tables frame "

abbrev pub dump_note : DumpFault → List ℕ
dump_note fault = line (codes "dump " ++ kind_text fault.kind ++ decimal fault.at)

abbrev pub dump_told : DumpFault → RunResult
dump_told fault = record { status = Input; out = []; note = dump_note fault }

-- the fault is reported, the input is read no further than shows the fault, and the disk isn't called
pub record IsNoDump (x x' : View) (status : Status) (fault : DumpFault) : Type 0 where
  pub says : (bytes : List ℕ) → x.left ≡ Some bytes → dump_of bytes ≡ Err fault
  pub read : (bytes : List ℕ) → x.left ≡ Some bytes → IsReadToFault bytes fault x'.left
  pub told : Tells (dump_told fault) status x x'
  pub untouched : x'.disk ≡ x.disk

-- what was left of the input is this dump, and is read to its end
pub record IsDump (x x' : View) (dump : DumpValue) : Type 0 where
  pub says : (bytes : List ℕ) → x.left ≡ Some bytes → dump_of bytes ≡ Ok dump
  pub over : IsUsedUp x'.left

-- What is printed at the end: the line of the last reply, on out after a hibernation that succeeded, else on note. The
-- status says whether the machine refused or a call of the disk failed.

abbrev pub is_hibernated : Reply → Bool
is_hibernated (reply.Hibernated n) = true
is_hibernated _ = false

-- the last reply of a command that succeeded, on out
abbrev pub succeeded_told : Reply → RunResult
succeeded_told reply = record { status = Done; out = line_of reply; note = [] }

abbrev pub stopped_told : Ended → RunResult
stopped_told ended = record { status = if ended.failed then Device else Refused; out = []; note = line_of ended.reply }

abbrev pub hibernation_told : Ended → RunResult
hibernation_told ended =
    if is_hibernated ended.reply then succeeded_told ended.reply else stopped_told ended

-- The dump's machine has hibernated, or has replied why it doesn't. Cached page frames were dropped first if a size was
-- asked for. What the machine did over the disk is a run with this ending.
pub record HasAnswered {X : Type 0} (D : Ghosts X) (before after : X) (f : Format) (size : Option ℕ) (x x' : View)
    (status : Status) (dump : DumpValue) (ended : Ended) : Type 0 where
  pub dump_is : IsDump x x' dump
  pub machine : IsHardware dump.hw
  pub told : Tells (hibernation_told ended) status x x'
  pub shown : WorldView
  pub ran : RanAs (IsHibernation f size ended) D dump.hw dump.memory shown before after
  pub orders : x'.disk.orders ≡ x.disk.orders

-- How a hibernation may end, by the view of the outside before and after it. If no machine is made, the disk is as it
-- was.
pub data Hibernates {X : Type 0} (D : Ghosts X) (before after : X) (f : Format) (size : Option ℕ) (x x' : View)
    (status : Status) : Type 0 where
  no_dump : (fault : DumpFault) → IsNoDump x x' status fault → after ≡ before →
      Hibernates D before after f size x x' status
  out_of_memory : IsOutOfMemory x x' status → after ≡ before → Hibernates D before after f size x x' status
  unread : FailsAtSource x x' status → after ≡ before → Hibernates D before after f size x x' status
  answered : (dump : DumpValue) (ended : Ended) → HasAnswered D before after f size x x' status dump ended →
      Hibernates D before after f size x x' status
