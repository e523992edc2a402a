-- What stands once a script's machine can begin.
use Rattle.std.specs.Prelude.{◌≡◌, ◌≤◌, All, None, length}
use Rattle.plain_machine.specs.Fitting.{IsFitting}
use Rattle.script.specs.Grammar.{ScriptValue}
use Rattle.world_core.specs.StandsFor.{IsNewWorld}
use Rattle.world_core.specs.World.{World}
use Rattle.command_kit.specs.View.{View}
use Rattle.swsusp_cli.specs.Outcome.{IsScript}
use Rattle.swsusp_cli.specs.SettingUp.{IsSetUp}

-- The input is this script, its machine is new, and its area is formatted. Nothing is printed.
pub record HasBegun (x x' : View) (script : ScriptValue) (world : World) : Type 0 where
  pub script_is : IsScript x x' script
  pub fits : All IsFitting script.events
  pub few_bad : length script.bad ≤ 630
  pub new : IsNewWorld script.hardware None world
  pub set_up : IsSetUp script x.disk x'.disk
  pub out : x'.out ≡ x.out
  pub note : x'.note ≡ x.note
