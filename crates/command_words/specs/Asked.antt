-- A command as it is requested.
use Rattle.std.specs.Prelude.{◌≤◌, ⊤}
use Rattle.command_words.specs.Words.{Asked, inspect, hibernate, resume, replay, drill, export, import}
use Rattle.command_words.specs.declared.swsusp.command.Command.{Command}
use Rattle.command_words.specs.declared.swsusp.command.Command.TheVariants.{Inspect, Hibernate, Resume, Replay, Drill, Export}
use Rattle.command_words.specs.declared.swsusp.command.Command.TheVariants.{Import}

abbrev pub asked_by : Command → Asked
asked_by (Inspect offset swap) = inspect offset swap.now
asked_by (Hibernate format size swap) = hibernate format size swap.now
asked_by (Resume check swap) = resume check swap.now
asked_by Replay = replay
asked_by (Drill number) = drill number
asked_by Export = export
asked_by (Import swap) = import swap.now

-- a drill's number is 1 to 2000
abbrev pub HasNumber : Command → Type 0
HasNumber (Drill number) = (1 ≤ number) × (number ≤ 2000)
HasNumber _ = ⊤
