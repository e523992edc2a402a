-- A script read from a source.
use Rattle.std.specs.Prelude.{◌≡◌, ℕ, List, Option, Some, Result, Ok, Err}
use Rattle.definitions.specs.Streams.{IsUsedUp}
use Rattle.script.specs.Grammar.{ScriptValue, script_of}
use Rattle.swsusp_cli.specs.Stops.{LacksScript}
use Rattle.swsusp_cli.specs.declared.stop.Stop.{Stop}

-- the input, if it tells its bytes, is this script and was read to its end; or it is no script
abbrev pub IsReadied : Option (List ℕ) → Option (List ℕ) → Result ScriptValue Stop → Type 0
IsReadied before after (Ok script) =
    ((bytes : List ℕ) → before ≡ Some bytes → script_of bytes ≡ Ok script) × IsUsedUp after
IsReadied before after (Err stop) = LacksScript before stop
