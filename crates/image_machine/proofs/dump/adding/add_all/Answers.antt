use Rattle.std.proofs.Common.{ℕ, List, [], ◌∷◌, ◌++◌, Option, sym, subst, ◌∙◌, arith}
use Rattle.std.specs.List.{Contains}
use Rattle.definitions.specs.Disk.{Content}
use Rattle.definitions.specs.Zones.{numbers}
use Rattle.image_pages.specs.Numbered.{HasNumbered}
use Rattle.image_pages.specs.SavedNumbers.{AreAllNumbers, AreFirstNumbers}
use Rattle.image_pages.proofs.SinceSaved.{refused_since}
use Rattle.image_machine.proofs.Given.{appended, fewer_left, has_last}
use Rattle.image_machine.proofs.Since.{numbered_since}
use Rattle.image_machine.proofs.dump.adding.add_all.Goals as goal

pub next-requires : goal.next-requires
next-requires g c =
    let i = c.loop-number.invariant in
    let (header, begun) = c.requires.numbered in
    (header, (c.loop-number.plan.saved.members, numbered_since (g.D.Disk.content c.args.disk.now) (g.D.Disk.content c.loop-number.disk) (g.D.Disk.block_count c.args.disk.now) (g.D.Disk.block_count c.loop-number.disk) header c.loop-number.numbers c.loop-number.plan.saved.members (sym i.content) (sym i.blocks) (i.numbered header begun)))

pub loop-number-smaller : goal.loop-number-smaller
loop-number-smaller g c =
    let i = c.loop-number.invariant in
    let members = c.loop-number.plan.saved.members in
    let (header, begun) = c.requires.numbered in
    let now = numbered_since (g.D.Disk.content c.args.disk.now) (g.D.Disk.content c.loop-number.disk) (g.D.Disk.block_count c.args.disk.now) (g.D.Disk.block_count c.loop-number.disk) header c.loop-number.numbers members (sym i.content) (sym i.blocks) (i.numbered header begun) in
    let says = c.in-Frame.ensures.says header members now in
    fewer_left members c.in-Frame.number c.add.new.self c.add.ensures.plan says.1.above c.in-Ok.ensures.added

pub loop-number-preserved : goal.loop-number-preserved
loop-number-preserved g c =
    let i = c.loop-number.invariant in
    let members = c.loop-number.plan.saved.members in
    let first = g.D.Disk.content c.args.disk.now in
    let mid = g.D.Disk.content c.loop-number.disk in
    let blocks = g.D.Disk.block_count c.args.disk.now in
    let there = g.D.Disk.block_count c.loop-number.disk in
    let (header, begun) = c.requires.numbered in
    let now = λ (h : ℕ) (b : HasNumbered first blocks h c.args.numbers.now []). numbered_since first mid blocks there h c.loop-number.numbers members (sym i.content) (sym i.blocks) (i.numbered h b) in
    record {
      plan = c.add.ensures.plan;
      numbered = λ h b.
          let says = c.in-Frame.ensures.says h members (now h b) in
          subst (HasNumbered first blocks h c.next.new.self) (sym (c.in-Ok.ensures.added ∙ appended members c.in-Frame.number says.1.above))
          (numbered_since mid first there blocks h c.next.new.self (members ++ c.in-Frame.number ∷ []) i.content i.blocks says.1.stands);
      untold = (c.in-Frame.ensures.says header members (now header begun)).0 ∙ i.untold;
      heading = c.add.ensures.heading ∙ i.heading;
      layout = c.add.ensures.layout ∙ i.layout;
      content = c.next.ensures.content ∙ i.content;
      faults = omega (arith, c.next.ensures.faults, i.faults);
      orders = c.next.ensures.orders ∙ i.orders;
      blocks = c.next.ensures.blocks ∙ i.blocks;
    }

pub returns-in-Err-clause-adds : goal.returns-in-Err-clause-adds
returns-in-Err-clause-adds g c = λ header begun.
    let i = c.loop-number.invariant in
    let members = c.loop-number.plan.saved.members in
    let number = c.in-Frame.number in
    let now = numbered_since (g.D.Disk.content c.args.disk.now) (g.D.Disk.content c.loop-number.disk) (g.D.Disk.block_count c.args.disk.now) (g.D.Disk.block_count c.loop-number.disk) header c.loop-number.numbers members (sym i.content) (sym i.blocks) (i.numbered header begun) in
    let says = c.in-Frame.ensures.says header members now in
    let out = c.in-Err.ensures.outside in (
      says.0 ∙ i.untold,
      record {
        given = members ++ number ∷ [];
        number = number;
        first = subst (λ (x : Option Content). AreFirstNumbers x header (members ++ number ∷ [])) i.content says.1.first;
        last = has_last members number says.1.above;
        outside = λ in'. out.1 (subst (λ (zs : List (ℕ × ℕ)). Contains (numbers zs) number) c.add.ensures.zones in');
        is = out.0;
      },
    )

pub returns-in-End-clause-adds : goal.returns-in-End-clause-adds
returns-in-End-clause-adds g c = λ header begun.
    let i = c.loop-number.invariant in
    let members = c.loop-number.plan.saved.members in
    let now = numbered_since (g.D.Disk.content c.args.disk.now) (g.D.Disk.content c.loop-number.disk) (g.D.Disk.block_count c.args.disk.now) (g.D.Disk.block_count c.loop-number.disk) header c.loop-number.numbers members (sym i.content) (sym i.blocks) (i.numbered header begun) in
    let says = c.in-End.ensures.says header members now in
    (says.0 ∙ i.untold, subst (λ (x : Option Content). AreAllNumbers x header members) i.content says.1.all)

pub returns-in-Refused-clause-adds : goal.returns-in-Refused-clause-adds
returns-in-Refused-clause-adds g c = λ header begun.
    let i = c.loop-number.invariant in
    let members = c.loop-number.plan.saved.members in
    let now = numbered_since (g.D.Disk.content c.args.disk.now) (g.D.Disk.content c.loop-number.disk) (g.D.Disk.block_count c.args.disk.now) (g.D.Disk.block_count c.loop-number.disk) header c.loop-number.numbers members (sym i.content) (sym i.blocks) (i.numbered header begun) in
    let says = c.in-Refused.ensures.says header members now in
    (says.0, refused_since (g.D.Disk.content c.loop-number.disk) (g.D.Disk.content c.args.disk.now) (g.D.Disk.block_count c.loop-number.disk) (g.D.Disk.block_count c.args.disk.now) header (g.D.Disk.faults c.args.disk.now) (g.D.Disk.faults c.loop-number.disk) (g.D.Disk.faults c.next.new.disk) (g.R.Report.told c.args.report.now) (g.R.Report.told c.loop-number.report) (g.R.Report.told c.next.new.report) says.0 i.content i.blocks i.untold i.faults says.1)
