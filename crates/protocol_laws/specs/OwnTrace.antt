-- A resume of an image that the machine made, by the definitions only.
use Rattle.std.specs.Prelude.{◌≡◌, ◌≤◌, ◌<◌, ◌⊎◌, ℕ, ◌+◌, true, Some, slice_get}
use Rattle.definitions.specs.Disk as disk
use Rattle.definitions.specs.NumberPages.{meta_of}
use Rattle.plain_machine.specs.Machine.{Hardware, IsHardware}
use Rattle.plain_machine.specs.Chain.{Holds}
use Rattle.plain_machine.specs.Image.{Image, n_of, d_of, resume_steps}
use Rattle.plain_machine.specs.Stands.{IsOwn}
use Rattle.plain_machine.specs.State.{Load}
use Rattle.plain_machine.specs.Step.{own_step, has_room}
use Rattle.plain_machine.specs.Trace.{trace}
use Rattle.plain_machine.specs.declared.reply.Reply.{Reply}

-- the plain machine's reply at step k + 1
abbrev pub own_reply : Hardware → Load → Image → ℕ → Reply
own_reply h load i k = (own_step h load i k).0

-- step k + 1 is reached: it is no later than the last number page's, or the loader has room
abbrev pub Comes : Hardware → Load → Image → ℕ → Type 0
Comes h load i k = (k + 1 ≤ 6 + meta_of (n_of i)) ⊎ (has_room h load (d_of i) ≡ true)

-- Over a disk that holds an own image, the trace from the second step on has the plain machine's replies.
abbrev pub TracesOwn : Type 0
TracesOwn =
    (h : Hardware) (v : disk.DiskImage) (i : Image) (load : Load) (k : ℕ) → IsHardware h → Holds h v i → IsOwn h v i →
    1 ≤ k → k < resume_steps i → Comes h load i k →
    slice_get (trace h load.dump v load.loader load.check) k ≡ Some (own_reply h load i k)
