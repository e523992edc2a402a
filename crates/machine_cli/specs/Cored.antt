-- How `core` may end: it reads a dump, and writes the core file of its machine's memory.
use Rattle.std.specs.Prelude.{[]}
use Rattle.dump_core.specs.Cores.{core_of}
use Rattle.dump_file.specs.Dump.{DumpValue}
use Rattle.dump_file.specs.declared.dump.DumpFault.{DumpFault}
use Rattle.plain_machine.specs.Machine.{Hardware, Memory}
use Rattle.command_kit.specs.Told.{RunResult}
use Rattle.swsusp_cli.specs.Dumps.{IsDump, IsNoDump}
use Rattle.swsusp_cli.specs.Outcome.{IsOutOfMemory, FailsAtSource, Tells}
use Rattle.command_kit.specs.View.{View}
use Rattle.command_kit.specs.declared.status.Status.{Status}
use Rattle.command_kit.specs.declared.status.Status.TheVariants.{Done}

-- the core file of a machine with this memory
abbrev pub core_told : Hardware → Memory → RunResult
core_told h m = record { status = Done; out = core_of h m; note = [] }

-- One of these endings, by the outside before and after.
pub data Cores (x x' : View) (status : Status) : Type 0 where
  no_dump : (fault : DumpFault) → IsNoDump x x' status fault → Cores x x' status
  out_of_memory : IsOutOfMemory x x' status → Cores x x' status
  unread : FailsAtSource x x' status → Cores x x' status
  cored : (dump : DumpValue) → IsDump x x' dump → Tells (core_told dump.hw dump.memory) status x x' → Cores x x' status
