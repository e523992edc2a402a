use Rattle.std.proofs.Common.{◌+◌, ◌≤◌, ◌/◌, ℕ, length, List, arith, subst, sym}
use Rattle.definitions.specs.Zones.{top}
use Rattle.machine.proofs.Rows.{frame_table_fits}
use Rattle.image_machine.proofs.plan.has_room.Goals as goal

pub count_free-have-requires : goal.count_free-have-requires
count_free-have-requires c =
    let h = c.args.hw.now in
    let size = c.requires.size in
    let fits = frame_table_fits h (top h.zones) c.frame_table.ensures.hardware (omega arith) in
    let within : c.frame_table.result + (top h.zones + 1023) / 1024 ≤ length c.args.frames.now = omega (arith, c.frame_table.ensures.frame) in
    subst (λ (zones : List (ℕ × ℕ)). c.frame_table.result + (top zones + 1023) / 1024 ≤ length c.args.frames.now) (sym c.zones.ensures.zones) within
