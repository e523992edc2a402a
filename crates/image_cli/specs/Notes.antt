-- What was noted before the last note of a command.
use Rattle.std.specs.Prelude.{◌≡◌}
use Rattle.command_kit.specs.View.{SinkView}
use Rattle.image_check.specs.Told.{Told}

-- the sink of a printer to which this was reported
pub record IsNoted (told : Told) (note : SinkView) : Type 0 where
  pub text : note.taken ≡ told.text
  pub faults : note.faults ≡ told.faults
