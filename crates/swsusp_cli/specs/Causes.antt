-- Whose failure the status of a command says, by the view of the outside before and after it.
use Rattle.command_kit.specs.Causes.{DiskFails, HasCause, StreamsFail}
use Rattle.command_kit.specs.View.{View}
use Rattle.command_kit.specs.declared.status.Status.{Status}

-- a status that blames the streams or the disk of these views has its cause there, and none blames the words
abbrev pub HasCauseIn : View → View → Status → Type 0
HasCauseIn x x' status = HasCause (StreamsFail x x') (DiskFails x x') status
