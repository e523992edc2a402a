-- A command as it is requested.
use Rattle.command_words.specs.MachineWords.{Asked, make, draw, loader, core, from_core, show, differ, check}
use Rattle.command_words.specs.declared.swsusp_machine.command.Command.{Command}
use Rattle.command_words.specs.declared.swsusp_machine.command.Command.TheVariants.{Make, Draw, Loader, Core, FromCore, Show}
use Rattle.command_words.specs.declared.swsusp_machine.command.Command.TheVariants.{Differ, Check}

abbrev pub asked_by : Command → Asked
asked_by Make = make
asked_by Draw = draw
asked_by Loader = loader
asked_by Core = core
asked_by (FromCore slots) = from_core slots
asked_by Show = show
asked_by (Differ first second) = differ first.now second.now
asked_by (Check ident swap) = check ident swap.now
