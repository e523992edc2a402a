-- The program's exit status.
use Rattle.std.specs.Prelude.{ℕ}
use Rattle.command_kit.specs.declared.status.Status.{Status}
use Rattle.command_kit.specs.declared.status.Status.TheVariants.{Done, Refused, Words, Input, Stream, Device, Memory}

abbrev pub exit_status : Status → ℕ
exit_status Done = 0
exit_status Refused = 1
exit_status Words = 2
exit_status Input = 3
exit_status Stream = 4
exit_status Device = 5
exit_status Memory = 6
