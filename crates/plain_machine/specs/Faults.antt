-- The replies that report a failed call of the disk.
use Rattle.std.specs.Prelude.{⊤}
use Rattle.plain_machine.specs.declared.reply.Reply.{Reply}
use Rattle.plain_machine.specs.declared.reply.Reply.TheVariants as reply

abbrev pub TellsFailedCall : Reply → Type 0
TellsFailedCall (reply.ReadFault left) = ⊤
TellsFailedCall (reply.WriteFault left) = ⊤
TellsFailedCall (reply.SyncFault left) = ⊤
TellsFailedCall (reply.Undo call k) = ⊤
TellsFailedCall _ = ⊥
