-- How `resume` may end: it reads a loader's dump, and its machine answers.
use Rattle.std.specs.Prelude.{◌≡◌, [], Bool, true, false, if◌then◌else◌}
use Rattle.dump_file.specs.Dump.{DumpValue}
use Rattle.dump_file.specs.Written.{dump_bytes}
use Rattle.dump_file.specs.declared.dump.DumpFault.{DumpFault}
use Rattle.plain_machine.specs.Machine.{Hardware, IsHardware, Memory}
use Rattle.plain_machine.specs.declared.event.IdentCheck.{IdentCheck}
use Rattle.plain_machine.specs.declared.reply.Reply.{Reply}
use Rattle.plain_machine.specs.declared.reply.Reply.TheVariants as reply
use Rattle.plain_machine.specs.Shows.{WorldView}
use Rattle.sector_disk.specs.declared.disk.Disk.{Ghosts}
use Rattle.command_core.specs.Runs.{IsResumption, RanAs}
use Rattle.command_core.specs.declared.ending.Ended.{Ended}
use Rattle.command_kit.specs.Told.{RunResult}
use Rattle.swsusp_cli.specs.Dumps.{IsDump, IsNoDump, stopped_told}
use Rattle.swsusp_cli.specs.Outcome.{IsOutOfMemory, FailsAtSource, Tells}
use Rattle.command_kit.specs.View.{View}
use Rattle.command_kit.specs.declared.status.Status.{Status}
use Rattle.command_kit.specs.declared.status.Status.TheVariants.{Done}

abbrev pub is_resumed : Reply → Bool
is_resumed (reply.Resumed n) = true
is_resumed _ = false

-- the dump of a machine with this memory
abbrev pub written_told : Hardware → Memory → RunResult
written_told h m = record { status = Done; out = dump_bytes h m; note = [] }

-- after a resume that succeeded, out is the dump of the memory that it restored
abbrev pub resume_told : Hardware → Memory → Ended → RunResult
resume_told h m ended = if is_resumed ended.reply then written_told h m else stopped_told ended

-- The image was resumed into the dump's machine, which is shown with its memory restored; or the machine replied why
-- not. What it did over the disk is a run with this ending.
pub record HasLoaded {X : Type 0} (D : Ghosts X) (before after : X) (check : IdentCheck) (x x' : View) (status : Status)
    (dump : DumpValue) (ended : Ended) : Type 0 where
  pub dump_is : IsDump x x' dump
  pub machine : IsHardware dump.hw
  pub shown : WorldView
  pub told : Tells (resume_told dump.hw shown.frames ended) status x x'
  pub ran : RanAs (IsResumption check ended) D dump.hw dump.memory shown before after
  pub orders : x'.disk.orders ≡ x.disk.orders

-- How a resume may end, by the view of the outside before and after it. If no machine is made, the disk is as it was.
pub data Resumes {X : Type 0} (D : Ghosts X) (before after : X) (check : IdentCheck) (x x' : View)
    (status : Status) : Type 0 where
  no_dump : (fault : DumpFault) → IsNoDump x x' status fault → after ≡ before → Resumes D before after check x x' status
  out_of_memory : IsOutOfMemory x x' status → after ≡ before → Resumes D before after check x x' status
  unread : FailsAtSource x x' status → after ≡ before → Resumes D before after check x x' status
  answered : (dump : DumpValue) (ended : Ended) → HasLoaded D before after check x x' status dump ended →
      Resumes D before after check x x' status
