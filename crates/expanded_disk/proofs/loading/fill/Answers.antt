use Rattle.std.proofs.Common.{arith}
use Rattle.expanded_disk.proofs.UnitSteps.{filled-more}
use Rattle.expanded_disk.proofs.loading.fill.Goals as goal

pub loop-i-preserved : goal.loop-i-preserved
loop-i-preserved g c =
    let content = g.K.Original.state.content in
    let i = c.loop-i.invariant in
    record {
      faults = omega (arith, i.faults, c.in_ok-read_entry.ensures.faults);
      filled = filled-more content c.args.index.now.first c.args.from c.loop-i.i c.read_entry.new.into c.args.unit.now.packed.items c.loop-i.unit.packed.items c.put.new.self.packed.items c.put.ensures.added i.filled
          c.in_ok-read_entry.ensures.page;
    }
