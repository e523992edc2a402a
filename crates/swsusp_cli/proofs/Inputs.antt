-- From why a command has no input to how it ends.
use Rattle.std.proofs.Common.{◌≡◌, ℕ, List, Option, Some, Err, refl}
use Rattle.definitions.specs.Disk.{HasRisen}
use Rattle.dump_file.specs.Dump.{IsReadToFault, dump_of}
use Rattle.dump_file.specs.declared.dump.DumpFault.{DumpFault}
use Rattle.dump_file.specs.declared.dump.DumpStop.{DumpStop}
use Rattle.dump_file.specs.declared.dump.DumpStop.TheVariants as of_dump
use Rattle.script.specs.Grammar.{script_of}
use Rattle.script.specs.declared.fault.ParseStop.{ParseStop}
use Rattle.script.specs.declared.fault.ParseStop.TheVariants as of_parse
use Rattle.script.specs.declared.fault.ScriptFault.{ScriptFault}
use Rattle.swsusp_cli.specs.Dumps.{IsNoDump}
use Rattle.swsusp_cli.specs.Outcome.{IsOutOfMemory, IsUnplayed, FailsAtSource, no_script, out_of_memory, unread}
use Rattle.swsusp_cli.specs.Stops.{IsStopTold, LacksDump, LacksScript, dump_stop, parse_stop}
use Rattle.command_kit.specs.View.{View}
use Rattle.command_kit.specs.declared.status.Status.{Status}
use Rattle.swsusp_cli.specs.declared.stop.Stop.{Stop}
use Rattle.swsusp_cli.specs.declared.stop.Stop.TheVariants.{Source, Memory, Script, Dump}

-- what a call's error says of the input
pub script_lacking : (left : Option (List ℕ)) (why : ParseStop) → ((bytes : List ℕ) (fault : ScriptFault) → left ≡ Some bytes → why ≡ of_parse.Fault fault → script_of bytes ≡ Err fault) → LacksScript left (parse_stop why)
script_lacking left (of_parse.Fault fault) says = λ bytes e. says bytes fault e refl
script_lacking left of_parse.NoMemory says = tt

pub dump_lacking : (left after : Option (List ℕ)) (why : DumpStop) → ((bytes : List ℕ) (fault : DumpFault) → left ≡ Some bytes → why ≡ of_dump.Fault fault → dump_of bytes ≡ Err fault) →
    ((bytes : List ℕ) (fault : DumpFault) → left ≡ Some bytes → why ≡ of_dump.Fault fault → IsReadToFault bytes fault after) → LacksDump left after (dump_stop why)
dump_lacking left after (of_dump.Fault fault) says read = λ bytes e. (says bytes fault e refl, read bytes fault e refl)
dump_lacking left after of_dump.SourceFault says read = tt
dump_lacking left after of_dump.NoMemory says read = tt

-- a command that wants a dump
pub without_dump : (P : Type 0) (x x' : View) (status : Status) (stop : Stop) → LacksDump x.left x'.left stop → IsStopTold stop status x.out x'.out x.note x'.note → x'.disk ≡ x.disk → (stop ≡ Source → HasRisen x.read_faults x'.read_faults) →
    ((fault : DumpFault) → IsNoDump x x' status fault → P) → (IsOutOfMemory x x' status → P) → (FailsAtSource x x' status → P) → P
without_dump P x x' status Source lacks told untouched cause no_dump refused failed = failed (record { status_is = told.0; risen = cause refl; out = told.1; note = told.2; untouched = untouched })
without_dump P x x' status Memory lacks told untouched cause no_dump refused failed = refused (record { told = told; untouched = untouched })
without_dump P x x' status (Script fault) lacks told untouched cause no_dump refused failed = absurd lacks
without_dump P x x' status (Dump fault) lacks told untouched cause no_dump refused failed = no_dump fault (record { says = λ bytes left. (lacks bytes left).0; read = λ bytes left. (lacks bytes left).1; told = told; untouched = untouched })

-- a command that wants a script
pub without_script : (x x' : View) (status : Status) (stop : Stop) → LacksScript x.left stop → IsStopTold stop status x.out x'.out x.note x'.note → x'.disk ≡ x.disk → (stop ≡ Source → HasRisen x.read_faults x'.read_faults) → IsUnplayed x x' status
without_script x x' status Source lacks told untouched cause = unread (record { status_is = told.0; risen = cause refl; out = told.1; note = told.2; untouched = untouched })
without_script x x' status Memory lacks told untouched cause = out_of_memory (record { told = told; untouched = untouched })
without_script x x' status (Script fault) lacks told untouched cause = no_script fault (record { says = lacks; told = told; untouched = untouched })
without_script x x' status (Dump fault) lacks told untouched cause = absurd lacks
