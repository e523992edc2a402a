-- How `differ` may end: it reads two dumps, and reports their first difference.
use Rattle.std.specs.Prelude.{◌≡◌, ℕ, List, [], ◌++◌, codes, decimal, Option, Some, None, Ok, IsNone, IfSome}
use Rattle.std.specs.Prelude.{◌↔◌}
use Rattle.definitions.specs.Streams.{IsUsedUp}
use Rattle.dump_tools.specs.Differences.{AreSame, IsFirst}
use Rattle.dump_tools.specs.declared.difference.Difference.{Difference}
use Rattle.dump_tools.specs.declared.difference.Difference.TheVariants.{Hardware, Saveable, Page}
use Rattle.dump_file.specs.Dump.{DumpValue, dump_of}
use Rattle.dump_file.specs.declared.dump.DumpFault.{DumpFault}
use Rattle.machine.specs.declared.dump.Dump.{Dump}
use Rattle.command_kit.specs.Told.{RunResult, line, memory_told}
use Rattle.swsusp_cli.specs.Dumps.{dump_told}
use Rattle.swsusp_cli.specs.Replay.{unread_note}
use Rattle.swsusp_cli.specs.Stops.{LacksDump}
use Rattle.swsusp_cli.specs.declared.stop.Stop.TheVariants as stop
use Rattle.command_kit.specs.Told.{IsTold, IsTried}
use Rattle.command_kit.specs.View.{SinkView}
use Rattle.command_kit.specs.declared.status.Status.{Status}
use Rattle.command_kit.specs.declared.status.Status.TheVariants.{Done, Refused, Stream}

-- what is printed: `same` with status 0, or with status 1 the first difference, a page frame by its number
abbrev pub difference_told : Option Difference → RunResult
difference_told None = record { status = Done; out = line (codes "same"); note = [] }
difference_told (Some Hardware) = record { status = Refused; out = line (codes "hardware"); note = [] }
difference_told (Some (Saveable p)) =
    record { status = Refused; out = line (codes "saveable " ++ decimal p); note = [] }
difference_told (Some (Page p)) = record { status = Refused; out = line (codes "page " ++ decimal p); note = [] }

-- the machine of a dump
abbrev pub machine_of : DumpValue → Dump
machine_of dump = record { hw = dump.hw; frames = dump.memory }

-- this is the first difference of two dumps
pub record IsDifference (a b : DumpValue) (difference : Option Difference) : Type 0 where
  pub none : IsNone difference ↔ AreSame (machine_of a) (machine_of b)
  pub first : IfSome difference (IsFirst (machine_of a) (machine_of b))

-- the input, if it tells its bytes, is this dump, and is read to its end
abbrev pub IsOf : (left after : Option (List ℕ)) → DumpValue → Type 0
IsOf left after dump = ((bytes : List ℕ) → left ≡ Some bytes → dump_of bytes ≡ Ok dump) × IsUsedUp after

-- How `differ` may end, by what is left of the two inputs and by the outputs, each before and after.
pub data Compares (first first' second second' : Option (List ℕ)) (status : Status)
    (out out' note note' : SinkView) : Type 0 where
  no_first : (fault : DumpFault) → LacksDump first first' (stop.Dump fault) → second' ≡ second →
      IsTold (dump_told fault) status out out' note note' →
      Compares first first' second second' status out out' note note'
  no_second : (a : DumpValue) (fault : DumpFault) → IsOf first first' a → LacksDump second second' (stop.Dump fault) →
      IsTold (dump_told fault) status out out' note note' →
      Compares first first' second second' status out out' note note'
  out_of_memory : IsTold memory_told status out out' note note' →
      Compares first first' second second' status out out' note note'
  unread : status ≡ Stream → out' ≡ out → IsTried unread_note note note' →
      Compares first first' second second' status out out' note note'
  compared : (a b : DumpValue) (difference : Option Difference) → IsOf first first' a → IsOf second second' b →
      IsDifference a b difference → IsTold (difference_told difference) status out out' note note' →
      Compares first first' second second' status out out' note note'
