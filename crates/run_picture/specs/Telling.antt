-- What a reply says of an operation of the machine.
use Rattle.plain_machine.specs.declared.reply.Reply.{Reply}
use Rattle.plain_machine.specs.declared.reply.Reply.TheVariants as reply
use Rattle.run_picture.specs.declared.telling.Failing.TheVariants.{Read, Write, Sync}
use Rattle.run_picture.specs.declared.telling.Told.{Told}
use Rattle.run_picture.specs.declared.telling.Told.TheVariants as told

abbrev pub told_by : Reply → Told
told_by (reply.More k n) = told.More k n
told_by (reply.Loading k) = told.Loading k
told_by (reply.Undo call k) = told.Undo call k
told_by (reply.Booted image) = told.Booted image
told_by (reply.Hibernated n) = told.Saved
told_by (reply.Asleep n) = told.Slept
told_by reply.Settled = told.Runs
told_by reply.Woken = told.Runs
told_by (reply.Resumed n) = told.Runs
told_by reply.NoImage = told.NoImage
told_by (reply.Compressed flags) = told.Compressed
told_by (reply.ReadFault left) = told.Fault Read left
told_by (reply.WriteFault left) = told.Fault Write left
told_by (reply.SyncFault left) = told.Fault Sync left
told_by (reply.Written s) = told.Written
told_by (reply.Fetched s) = told.Fetched
told_by reply.Idle = told.Idle
told_by _ = told.Other
