-- How `check` may end: it reads a loader's dump, and reports how a resume of the image on the disk would reply.
use Rattle.std.specs.Prelude.{◌≡◌, ◌≤◌, ◌+◌, Some, if◌then◌else◌}
use Rattle.definitions.specs.Disk as disk
use Rattle.command_core.specs.declared.ending.Ended.{Ended}
use Rattle.machine_cli.specs.Foretold.{Foretells}
use Rattle.dump_file.specs.Dump.{DumpValue}
use Rattle.dump_file.specs.declared.dump.DumpFault.{DumpFault}
use Rattle.plain_machine.specs.Chain.{Marked}
use Rattle.plain_machine.specs.Machine.{Memory}
use Rattle.plain_machine.specs.UsableArea.{HasOriginal}
use Rattle.plain_machine.specs.declared.event.IdentCheck.{IdentCheck}
use Rattle.command_kit.specs.Told.{RunResult, memory_told}
use Rattle.swsusp_cli.specs.Dumps.{IsDump, IsNoDump, stopped_told, succeeded_told}
use Rattle.swsusp_cli.specs.Loads.{is_resumed}
use Rattle.swsusp_cli.specs.Outcome.{FailsAtSource, Tells}
use Rattle.command_kit.specs.View.{DiskView, View}
use Rattle.command_kit.specs.declared.status.Status.{Status}

-- the reply of a resume that would end well goes to out; otherwise a note says why it wouldn't
abbrev pub foretold_told : Ended → RunResult
foretold_told ended =
    if is_resumed ended.reply then succeeded_told ended.reply else stopped_told ended

-- the disk was only read, with at most 65,800 calls
pub record IsOnlyRead (x x' : DiskView) : Type 0 where
  pub content : x'.content ≡ x.content
  pub orders : x'.orders ≡ x.orders
  pub calls : x'.calls ≤ x.calls + 65800

-- The reply reported is the last of a resume's trace over the disk as it reads, unless a call of the disk has failed.
pub record IsForetold (check : IdentCheck) (x x' : View) (status : Status) (dump : DumpValue) (memory : Memory)
    (ended : Ended) : Type 0 where
  pub dump_is : IsDump x x' dump
  pub told : Tells (foretold_told ended) status x x'
  pub foretells : (c : disk.Content) → x.disk.content ≡ Some c →
      (Marked dump.hw (disk.as_it_reads c) → HasOriginal dump.hw (disk.as_it_reads c)) →
      Foretells dump.hw dump.memory check (disk.as_it_reads c) memory ended
  pub only_read : IsOnlyRead x.disk x'.disk

-- memory was refused, before the disk was read or for a page that the resume would write
pub record IsShort (x x' : View) (status : Status) : Type 0 where
  pub told : Tells memory_told status x x'
  pub only_read : IsOnlyRead x.disk x'.disk

-- One of these endings, by the outside before and after.
pub data Checks (check : IdentCheck) (x x' : View) (status : Status) : Type 0 where
  no_dump : (fault : DumpFault) → IsNoDump x x' status fault → Checks check x x' status
  out_of_memory : IsShort x x' status → Checks check x x' status
  unread : FailsAtSource x x' status → Checks check x x' status
  foretold : (dump : DumpValue) (memory : Memory) (ended : Ended) → IsForetold check x x' status dump memory ended →
      Checks check x x' status
