use Rattle.std.proofs.Common.{subst, arith}
use Rattle.expanded_disk.specs.Chains.{Gives}
use Rattle.expanded_disk.specs.declared.units.chain.Read.{Read}
use Rattle.expanded_disk.proofs.UnitSteps.{filled-more}
use Rattle.expanded_disk.proofs.UnitTelling.{page_along, same_along}
use Rattle.expanded_disk.proofs.units.units.fill.Goals as goal

pub loop-i-preserved : goal.loop-i-preserved
loop-i-preserved g c =
    let content = g.K.Original.state.content in
    let old = c.args.chain.now in
    let mid = c.loop-i.chain in
    let new = c.next.new.self in
    let page = c.next.new.page in
    let i = c.loop-i.invariant in
    let gives = subst (λ (r : Read). Gives content c.args.pages g.K.Original.state.faults (g.B.ReadOnly.state c.next.new.source.below).faults mid new page r) c.in-Page.is c.in_ok-finding.ensures.read in
    record {
      stands = gives.0;
      same = same_along old mid new i.same c.next.ensures.same;
      count = omega (arith, gives.1, i.count);
      filled = filled-more content old.first old.count c.loop-i.i page c.args.unit.now.packed.items c.loop-i.unit.packed.items c.put.new.self.packed.items c.put.ensures.added i.filled
          (page_along content old mid page c.in-Page.field-0 c.loop-i.i i.same i.count gives.2);
    }
