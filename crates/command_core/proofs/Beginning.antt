-- A new world over a dump's memory.
use Rattle.std.proofs.Common.{◌≡◌, Bool, true, false, cond, Some, refl, sym}
use Rattle.std.specs.Cmp.Lexicographic.{same_text, other_text}
use Rattle.definitions.specs.Disk as disk
use Rattle.definitions.specs.SwapHeader.{sig_of, image_signature}
use Rattle.plain_machine.specs.Chain.{Marked, header_of, is_marked_disk}
use Rattle.plain_machine.specs.Machine.{Hardware, Memory}
use Rattle.plain_machine.specs.UsableArea.{HasOriginal}
use Rattle.plain_machine.specs.State.{off, nothing, sure, other}
use Rattle.world_core.specs.StandsFor.{StandsFor, IsNewWorld}
use Rattle.world_core.specs.World.{World}
use Rattle.command_core.specs.Runs.{held_at_first}

-- A new machine stands for one that is off, with another's image where the disk is marked.

stands_by : (h : Hardware) (m : Memory) (w : World) (v : disk.DiskImage) (marked : Bool) → is_marked_disk h v ≡ marked → IsNewWorld h (Some m) w → (Marked h v → HasOriginal h v) → StandsFor w (disk.settled v) (off (cond marked (sure other) nothing) (Some m))
stands_by h m w v true e new original = let is : Marked h v = same_text (sig_of (header_of h v)) image_signature (sym e) in new.marked v is (original is)
stands_by h m w v false e new original = new.unmarked v (other_text (sig_of (header_of h v)) image_signature (sym e))

pub new_stands : (h : Hardware) (m : Memory) (w : World) (v : disk.DiskImage) → IsNewWorld h (Some m) w → (Marked h v → HasOriginal h v) → StandsFor w (disk.settled v) (off (held_at_first h v) (Some m))
new_stands h m w v = stands_by h m w v (is_marked_disk h v) refl
