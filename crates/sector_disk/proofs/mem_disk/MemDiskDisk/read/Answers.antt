use Rattle.std.proofs.Common.{◌∙◌, ap, take, drop, List, ℕ, ◌-◌, ◌+◌, ◌*◌, arith}
use Rattle.sector_disk.proofs.Padded.{block_first, block_of_zeros}
use Rattle.sector_disk.proofs.mem_disk.MemDiskDisk.read.Goals as goal

pub returns-then-first-len-clause-bytes : goal.returns-then-first-len-clause-bytes
returns-then-first-len-clause-bytes c =
    let d = c.args.self.now in
    c.read_block.ensures
    ∙ block_first (8 * d.blocks) c.args.b d.durable.items d.live.items _ d.same_length d.within (omega (arith, d.whole_blocks, c.if-first-len.true))
    (ap (λ (xs : List (List ℕ)). take (8 * c.args.b + 8 - 8 * c.args.b) (drop (8 * c.args.b) xs)) c.deref.ensures.value)

pub returns-else-first-len-clause-bytes : goal.returns-else-first-len-clause-bytes
returns-else-first-len-clause-bytes c =
    let d = c.args.self.now in
    c.read_block-else-first-len.ensures
    ∙ block_of_zeros (8 * d.blocks) c.args.b d.durable.items d.live.items d.same_length d.within (omega (arith, c.if-first-len.false)) (omega (arith, c.requires))
