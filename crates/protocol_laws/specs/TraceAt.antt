-- A resume's replies over any disk, one by one.
use Rattle.std.specs.Prelude.{◌≡◌, ◌<◌, ℕ, ◌+◌, nat_lt, if◌then◌else◌, Some, unwrap_or, slice_get}
use Rattle.definitions.specs.Disk as disk
use Rattle.plain_machine.specs.Machine.{Hardware, Memory}
use Rattle.plain_machine.specs.Trace.{trace, step_cause, step_count, last_reply}
use Rattle.plain_machine.specs.declared.event.Loader.{Loader}
use Rattle.plain_machine.specs.declared.event.IdentCheck.{IdentCheck}
use Rattle.plain_machine.specs.declared.reply.Reply.{Reply}
use Rattle.plain_machine.specs.declared.reply.Reply.TheVariants as reply

-- the reply to step k + 1 if nothing is wrong
abbrev pub reply_past : Hardware → Memory → disk.DiskImage → Loader → ℕ → Reply
reply_past h dump v loader k =
    if nat_lt (k + 1) (step_count h v) then reply.Loading (k + 1) else last_reply h dump v loader

-- the reply to step k + 1 over a disk that reads v, if no earlier step has stopped
abbrev pub reply_at : Hardware → Memory → disk.DiskImage → Loader → IdentCheck → ℕ → Reply
reply_at h dump v loader check k = unwrap_or (step_cause h dump v loader check k) (reply_past h dump v loader k)

-- If each earlier step replied Loading, the trace has that reply at step k + 1.
abbrev pub TracesAt : Type 0
TracesAt =
    (h : Hardware) (dump : Memory) (v : disk.DiskImage) (loader : Loader) (check : IdentCheck) (k : ℕ) →
    k < step_count h v →
    ((j : ℕ) → j < k → reply_at h dump v loader check j ≡ reply.Loading (j + 1)) →
    slice_get (trace h dump v loader check) k ≡ Some (reply_at h dump v loader check k)
