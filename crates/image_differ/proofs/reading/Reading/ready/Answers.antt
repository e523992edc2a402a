use Rattle.std.proofs.Common.{refl, subst}
use Rattle.image_differ.specs.Readings.{IsPlace}
use Rattle.image_differ.specs.Sides.{side_view}
use Rattle.image_differ.proofs.Readying.{all_since, ready_at, ready_before, ready_end}
use Rattle.image_differ.proofs.reading.Reading.ready.Goals as goal

pub returns-in_default-clause-readies : goal.returns-in_default-clause-readies
returns-in_default-clause-readies g c = λ given bound i.
    (refl, ready_before (side_view g.D.Disk g.R.Report c.args.side.now) c.args.self.now given bound i c.in_default.not-Unread)

pub next-requires : goal.next-requires
next-requires g c =
    let (given, (bound, i)) = c.requires in
    (c.args.side.now.header, (given, (subst (IsPlace (side_view g.D.Disk g.R.Report c.args.side.now) c.args.self.now given bound) c.in-Unread.is i.place).0))

pub returns-in-Refused-clause-readies : goal.returns-in-Refused-clause-readies
returns-in-Refused-clause-readies g c = λ given bound i.
    let stands = (subst (IsPlace (side_view g.D.Disk g.R.Report c.args.side.now) c.args.self.now given bound) c.in-Unread.is i.place).0 in
    c.in-Refused.ensures.says c.args.side.now.header given stands

pub returns-in-Frame-clause-readies : goal.returns-in-Frame-clause-readies
returns-in-Frame-clause-readies g c = λ given bound i.
    let v = side_view g.D.Disk g.R.Report c.args.side.now in
    let stands = (subst (IsPlace v c.args.self.now given bound) c.in-Unread.is i.place).0 in
    let says = c.in-Frame.ensures.says c.args.side.now.header given stands in
    (says.0, ready_at v c.args.self.now given bound c.next.new.self c.in-Frame.number c.next.new.page i c.in-Unread.is says.1 c.next.ensures.info)

pub returns-in-End-clause-readies : goal.returns-in-End-clause-readies
returns-in-End-clause-readies g c = λ given bound i.
    let v = side_view g.D.Disk g.R.Report c.args.side.now in
    let stands = (subst (IsPlace v c.args.self.now given bound) c.in-Unread.is i.place).0 in
    let says = c.in-End.ensures.says c.args.side.now.header given stands in
    (says.0, ready_end v c.args.self.now given bound c.next.new.self c.next.new.page i c.in-Unread.is (all_since v (g.D.Disk.faults c.args.side.now.disk) (g.D.Disk.faults c.next.new.disk) c.next.new.self.numbers.info given says.1) c.next.ensures.info)
