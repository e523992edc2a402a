use Rattle.std.proofs.Common.{◌≡◌, ℕ, List, length, sym, subst, arith}
use Rattle.definitions.specs.Tables.{HasTable}
use Rattle.definitions.specs.Zones.{top}
use Rattle.plain_machine.specs.Machine.{Hardware, Memory, IsHardware}
use Rattle.machine.proofs.Rows.{frame_table_fits}
use Rattle.resume_core.proofs.begin.mark_unused.Goals as goal

-- the frame table lies in memory
has_table : (h : Hardware) (frames : Memory) (table : ℕ) (zones : List (ℕ × ℕ)) → IsHardware h → length frames ≡ top h.zones → table ≡ h.frame_table → zones ≡ h.zones → HasTable frames table (top zones)
has_table h frames table zones hw size at is =
    let fits = frame_table_fits h (top h.zones) hw (omega arith) in
    subst (λ (z : List (ℕ × ℕ)). HasTable frames table (top z)) (sym is) (subst (λ (t : ℕ). HasTable frames t (top h.zones)) (sym at) (omega arith))

pub count_free-requires : goal.count_free-requires
count_free-requires c = has_table c.args.hw.now c.args.frames.now c.frame_table.result c.zones.result.now c.zones.ensures.hardware c.requires.size c.frame_table.ensures.frame c.zones.ensures.zones

pub pick-requires-clause-table : goal.pick-requires-clause-table
pick-requires-clause-table c = has_table c.args.hw.now c.args.frames.now c.frame_table.result c.zones.result.now c.zones.ensures.hardware c.requires.size c.frame_table.ensures.frame c.zones.ensures.zones
