use Rattle.std.proofs.Common.{◌∙◌, ◌*◌, ◌-◌, ap, arith, length}
use Rattle.sector_disk.specs.Sectors.{padded}
use Rattle.sector_disk.proofs.Padded.{padded_filled}
use Rattle.sector_disk.proofs.mem_disk.MemDisk.keep_up_to.Goals as goal

pub returns-then-len-end-clause-durable : goal.returns-then-len-end-clause-durable
returns-then-len-end-clause-durable c =
    let d = c.args.self.now in
    ap (padded (8 * d.blocks)) c.fill_up.ensures.filled ∙ padded_filled (8 * d.blocks) (c.args.end - length d.durable.items) d.durable.items (omega (arith, d.same_length, c.requires.inside, c.if-len-end.true))

pub returns-then-len-end-clause-live : goal.returns-then-len-end-clause-live
returns-then-len-end-clause-live c =
    let d = c.args.self.now in
    ap (padded (8 * d.blocks)) c.fill_up-then-len-end.ensures.filled ∙ padded_filled (8 * d.blocks) (c.args.end - length d.live.items) d.live.items (omega (arith, d.same_length, c.requires.inside, c.if-len-end.true))
