-- How `loader` may end: it reads a dump, and writes the dump of its machine freshly booted.
use Rattle.dump_file.specs.Dump.{DumpValue}
use Rattle.dump_file.specs.declared.dump.DumpFault.{DumpFault}
use Rattle.dump_tools.specs.KeptSlots.{kept_slot}
use Rattle.plain_machine.specs.FreshMemory.{fresh_memory}
use Rattle.swsusp_cli.specs.Dumps.{IsDump, IsNoDump}
use Rattle.swsusp_cli.specs.Loads.{written_told}
use Rattle.swsusp_cli.specs.Outcome.{IsOutOfMemory, FailsAtSource, Tells}
use Rattle.command_kit.specs.View.{View}
use Rattle.command_kit.specs.declared.status.Status.{Status}

-- One of these endings, by the outside before and after.
pub data Freshens (x x' : View) (status : Status) : Type 0 where
  no_dump : (fault : DumpFault) → IsNoDump x x' status fault → Freshens x x' status
  out_of_memory : IsOutOfMemory x x' status → Freshens x x' status
  unread : FailsAtSource x x' status → Freshens x x' status
  freshened : (dump : DumpValue) → IsDump x x' dump →
      Tells (written_told dump.hw (fresh_memory dump.hw (kept_slot dump.hw dump.memory))) status x x' →
      Freshens x x' status
