use Rattle.std.proofs.Common.{◌∙◌}
use Rattle.sector_disk.proofs.SectorLaws.{same_everywhere, same_outside_put, put_back, length_part}
use Rattle.sector_disk.proofs.sectors.sync_sectors.Goals as goal

pub returns-then-low-high : goal.returns-then-low-high
returns-then-low-high c =
    rw c.copy_from_slice.ensures.after
    (same_outside_put c.args.low c.args.high c.args.durable.now c.args.live.now _ c.requires.same_length c.requires.outside c.if-low-high.true c.requires.in_range (length_part c.args.low c.args.high c.args.live.now c.if-low-high.true c.requires.in_range)
    ∙ put_back c.args.low c.args.high c.args.live.now c.if-low-high.true c.requires.in_range)

pub returns-else-low-high : goal.returns-else-low-high
returns-else-low-high c = same_everywhere c.args.low c.args.high c.args.durable.now c.args.live.now c.requires.same_length c.requires.outside c.if-low-high.false
