use Rattle.std.proofs.Common.{◌≡◌, ◌<◌, ℕ, List, ap, ◌∙◌, arith}
use Rattle.definitions.specs.Slots.{block_of}
use Rattle.plain_machine.specs.Machine.{block_of_slot}
use Rattle.swsusp_cli.proofs.formatting.format.Goals as goal

pub overflow_cast-header : goal.overflow_cast-header
overflow_cast-header g c =
    let at : c.block-header.result ≡ block_of_slot c.args.hw.now 0 = c.block-header.ensures.block ∙ ap (λ (m : List (ℕ × ℕ × ℕ)). block_of m 0) c.extents.ensures.extents in
    let below : block_of_slot c.args.hw.now 0 < g.D.Disk.block_count c.args.disk.now = c.requires.header in
    let counted = c.blocks-blocks.ensures in
    record { fits = omega arith }
