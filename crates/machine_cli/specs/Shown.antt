-- How `show` may end: it reads a dump, and prints its facts.
use Rattle.std.specs.Prelude.{[]}
use Rattle.dump_file.specs.Dump.{DumpValue}
use Rattle.dump_file.specs.declared.dump.DumpFault.{DumpFault}
use Rattle.dump_tools.specs.Texts.{facts_text}
use Rattle.plain_machine.specs.Machine.{Hardware, Memory}
use Rattle.command_kit.specs.Told.{RunResult}
use Rattle.swsusp_cli.specs.Dumps.{IsDump, IsNoDump}
use Rattle.swsusp_cli.specs.Outcome.{IsOutOfMemory, FailsAtSource, Tells}
use Rattle.command_kit.specs.View.{View}
use Rattle.command_kit.specs.declared.status.Status.{Status}
use Rattle.command_kit.specs.declared.status.Status.TheVariants.{Done}

abbrev pub facts_told : Hardware → Memory → RunResult
facts_told h m = record { status = Done; out = facts_text h m; note = [] }

-- One of these endings, by the outside before and after.
pub data Shows (x x' : View) (status : Status) : Type 0 where
  no_dump : (fault : DumpFault) → IsNoDump x x' status fault → Shows x x' status
  out_of_memory : IsOutOfMemory x x' status → Shows x x' status
  unread : FailsAtSource x x' status → Shows x x' status
  shown : (dump : DumpValue) → IsDump x x' dump → Tells (facts_told dump.hw dump.memory) status x x' → Shows x x' status
