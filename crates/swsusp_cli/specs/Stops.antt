-- Why a command has no script or no dump to work on, and what is printed about it.
use Rattle.std.specs.Prelude.{◌≡◌, ℕ, List, Option, Some, Err, ⊤}
use Rattle.dump_file.specs.Dump.{IsReadToFault, dump_of}
use Rattle.dump_file.specs.declared.dump.DumpStop.{DumpStop}
use Rattle.dump_file.specs.declared.dump.DumpStop.TheVariants as of_dump
use Rattle.script.specs.Grammar.{script_of}
use Rattle.script.specs.declared.fault.ParseStop.{ParseStop}
use Rattle.script.specs.declared.fault.ParseStop.TheVariants as of_parse
use Rattle.command_kit.specs.Told.{memory_told}
use Rattle.swsusp_cli.specs.Dumps.{dump_told}
use Rattle.swsusp_cli.specs.Outcome.{fault_told}
use Rattle.swsusp_cli.specs.Replay.{unread_note}
use Rattle.command_kit.specs.Told.{IsTold, IsTried}
use Rattle.command_kit.specs.View.{SinkView}
use Rattle.swsusp_cli.specs.declared.reading.ReadStop.{ReadStop}
use Rattle.swsusp_cli.specs.declared.reading.ReadStop.TheVariants as of_read
use Rattle.command_kit.specs.declared.status.Status.{Status}
use Rattle.command_kit.specs.declared.status.Status.TheVariants.{Stream}
use Rattle.swsusp_cli.specs.declared.stop.Stop.{Stop}
use Rattle.swsusp_cli.specs.declared.stop.Stop.TheVariants.{Source, Memory, Script, Dump}

-- what becomes of a call's own error
abbrev pub read_stop : ReadStop → Stop
read_stop of_read.Fault = Source
read_stop of_read.NoMemory = Memory

abbrev pub parse_stop : ParseStop → Stop
parse_stop (of_parse.Fault fault) = Script fault
parse_stop of_parse.NoMemory = Memory

abbrev pub dump_stop : DumpStop → Stop
dump_stop (of_dump.Fault fault) = Dump fault
dump_stop of_dump.SourceFault = Source
dump_stop of_dump.NoMemory = Memory

-- the input, if it tells its bytes, is no script: it has this first fault
abbrev pub LacksScript : Option (List ℕ) → Stop → Type 0
LacksScript left Source = ⊤
LacksScript left Memory = ⊤
LacksScript left (Script fault) = (bytes : List ℕ) → left ≡ Some bytes → script_of bytes ≡ Err fault
LacksScript left (Dump fault) = ⊥

-- the input, if it tells its bytes, is no dump: it has this first fault, and was read no further than shows it
abbrev pub LacksDump : Option (List ℕ) → Option (List ℕ) → Stop → Type 0
LacksDump left after Source = ⊤
LacksDump left after Memory = ⊤
LacksDump left after (Script fault) = ⊥
LacksDump left after (Dump fault) =
    (bytes : List ℕ) → left ≡ Some bytes → (dump_of bytes ≡ Err fault) × IsReadToFault bytes fault after

-- after a failed source a note is tried, once, and out isn't called; every other cause is printed as an answer
abbrev pub IsStopTold : Stop → Status → SinkView → SinkView → SinkView → SinkView → Type 0
IsStopTold Source status out out' note note' = (status ≡ Stream) × (out' ≡ out) × IsTried unread_note note note'
IsStopTold Memory status out out' note note' = IsTold memory_told status out out' note note'
IsStopTold (Script fault) status out out' note note' = IsTold (fault_told fault) status out out' note note'
IsStopTold (Dump fault) status out out' note note' = IsTold (dump_told fault) status out out' note note'
