use Rattle.std.proofs.Common.{◌≡◌, ◌∙◌, subst, length, All, arith}
use Rattle.definitions.specs.Disk.{DiskImage}
use Rattle.sector_disk.proofs.SectorLaws.{same_everywhere, same_both_put, length_part, All-put_mid, All-from_nil}
use Rattle.sector_disk.proofs.sectors.restart_sectors.Goals as goal

pub returns-then-low-high-clause-durable : goal.returns-then-low-high-clause-durable
returns-then-low-high-clause-durable c =
    same_both_put c.args.low c.args.high c.args.durable.now c.args.live.now c.copy_picked.new.into c.copy_from_slice.new.self c.requires.same_length c.requires.outside c.if-low-high.true c.requires.in_range
    (c.copy_picked.ensures.picked.size ∙ length_part c.args.low c.args.high c.args.durable.now c.if-low-high.true (omega arith)) c.copy_from_slice.ensures.after

pub returns-then-low-high-clause-whole : goal.returns-then-low-high-clause-whole
returns-then-low-high-clause-whole c =
    subst (λ (xs : DiskImage). All (λ bytes. length bytes ≡ 512) xs) (returns-then-low-high-clause-durable c)
    (All-put_mid (λ bytes. length bytes ≡ 512) _ _ c.args.durable.now c.copy_picked.new.into (All-from_nil (λ bytes. length bytes ≡ 512) c.args.durable.now c.told-durable) c.copy_picked.ensures.whole)

pub returns-else-low-high-clause-durable : goal.returns-else-low-high-clause-durable
returns-else-low-high-clause-durable c = same_everywhere c.args.low c.args.high c.args.durable.now c.args.live.now c.requires.same_length c.requires.outside c.if-low-high.false

pub returns-else-low-high-clause-whole : goal.returns-else-low-high-clause-whole
returns-else-low-high-clause-whole c = All-from_nil (λ bytes. length bytes ≡ 512) c.args.live.now c.told-live
