use Rattle.std.proofs.Common.{◌*◌, refl}
use Rattle.sector_disk.proofs.Padded.{padded_none}
use Rattle.sector_disk.proofs.mem_disk.MemDisk.create.Goals as goal

pub returns : goal.returns
returns c = record {
  blocks_are = refl;
  durable = padded_none (8 * c.args.blocks) c.in_ok-durable.durable.items c.in_ok-durable.ensures.empty;
  live = padded_none (8 * c.args.blocks) c.in_ok-live.live.items c.in_ok-live.ensures.empty;
  calls = c.none.ensures.made;
  faults = c.none.ensures.faults;
  orders = c.new.ensures;
  unarmed = c.none.ensures.due;
}
