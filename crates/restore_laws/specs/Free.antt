-- Whether the page frames that are free to the loader are enough.
use Rattle.std.specs.Prelude.{◌≡◌, ◌≤◌, ◌<◌, ◌↔◌, ℕ, length, Some, None}
use Rattle.definitions.specs.Disk as disk
use Rattle.plain_machine.specs.Machine.{Hardware, Memory}
use Rattle.plain_machine.specs.Loader.{left_free, need}
use Rattle.plain_machine.specs.Trace.{d_in, room_cause}
use Rattle.plain_machine.specs.declared.event.Loader.{Loader}
use Rattle.plain_machine.specs.declared.reply.Reply.TheVariants as reply
use Rattle.placement.specs.Plan.{need_for}

-- a resume needs as many page frames as a plan takes
abbrev pub PlanTells : Type 0
PlanTells = (d : ℕ) → need d ≡ need_for d

-- The room suffices exactly if a plan has enough page frames.
abbrev pub RoomSuffices : Type 0
RoomSuffices =
    (h : Hardware) (dump : Memory) (v : disk.DiskImage) (loader : Loader) →
    (room_cause h dump v loader ≡ None) ↔ (need_for (d_in h v) ≤ length (left_free h dump loader))

abbrev pub RoomFails : Type 0
RoomFails =
    (h : Hardware) (dump : Memory) (v : disk.DiskImage) (loader : Loader) →
    length (left_free h dump loader) < need_for (d_in h v) →
    room_cause h dump v loader ≡ Some
    (reply.TooFewLoaderFrames (length (left_free h dump loader)) (need_for (d_in h v)))
