-- What `from-core` prints.
use Rattle.std.specs.Prelude.{◌≡◌, ℕ, List, Option, Some}
use Rattle.command_kit.specs.Told.{RunResult, memory_told}
use Rattle.command_kit.specs.Told.{IsTold, IsTried}
use Rattle.command_kit.specs.View.{SinkView}
use Rattle.command_kit.specs.declared.status.Status.{Status}
use Rattle.command_kit.specs.declared.status.Status.TheVariants.{Stream}
use Rattle.core_machine.specs.Made.{IsOfCore, LacksMachine}
use Rattle.core_machine.specs.declared.stop.Stop.{Stop}
use Rattle.core_machine.specs.declared.stop.Stop.TheVariants.{Core, Limit, Source, Memory}
use Rattle.image_machine_cli.specs.LimitLines.{limit_line}
use Rattle.image_machine_cli.specs.Loads.{refused}
use Rattle.machine.specs.declared.dump.Dump.{Dump}
use Rattle.swsusp_cli.specs.Loads.{written_told}
use Rattle.swsusp_cli.specs.Replay.{unread_note}
use Rattle.image_machine_cli.specs.FaultLines.{fault_line}

-- If the source failed, one note is attempted, and `out` isn't called; every other cause is printed as an answer.
abbrev pub IsWhyTold : Stop → Status → (out out' note note' : SinkView) → Type 0
IsWhyTold (Core fault) status out out' note note' = IsTold (refused (fault_line fault)) status out out' note note'
IsWhyTold (Limit limit) status out out' note note' = IsTold (refused (limit_line limit)) status out out' note note'
IsWhyTold Source status out out' note note' = (status ≡ Stream) × (out' ≡ out) × IsTried unread_note note note'
IsWhyTold Memory status out out' note note' = IsTold memory_told status out out' note note'

-- The dump of a machine with the memory in the input, or why there is none: by the bytes of the input, if it tells
-- them.
pub data GivesOfCore (left : Option (List ℕ)) (slots : Option ℕ) (status : Status)
    (out out' note note' : SinkView) : Type 0 where
  made : (dump : Dump) → ((bytes : List ℕ) → left ≡ Some bytes → IsOfCore bytes slots dump) →
      IsTold (written_told dump.hw dump.frames) status out out' note note' →
      GivesOfCore left slots status out out' note note'
  none : (why : Stop) → ((bytes : List ℕ) → left ≡ Some bytes → LacksMachine bytes slots why) →
      IsWhyTold why status out out' note note' → GivesOfCore left slots status out out' note note'
