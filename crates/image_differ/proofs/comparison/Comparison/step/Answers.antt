use Rattle.std.proofs.Common.{List, true, false, refl, sym, subst, ◌∙◌, append-nil}
use Rattle.image_differ.specs.Compares.{HasCompared}
use Rattle.image_differ.specs.Sides.{side_view}
use Rattle.image_differ.specs.declared.difference.Difference.{Difference}
use Rattle.image_differ.proofs.Turning.{all_parts, are_ready, at_frames, both_turn, compared, end_turn, fewer_both, first_turn, second_turn, step_both, step_end, step_first, step_second}
use Rattle.image_differ.proofs.comparison.Comparison.step.Goals as goal

pub ready-requires : goal.ready-requires
ready-requires g c = let (told, s) = c.requires.compared in (s.first_frames, (s.bound, s.first))

pub returns-then-not-ready-clause-steps : goal.returns-then-not-ready-clause-steps
returns-then-not-ready-clause-steps g c = λ told s.
    (c.if-not-ready.ensures.readies s.first_frames s.bound s.first, refl)

pub ready-requires-2 : goal.ready-requires-2
ready-requires-2 g c = let (told, s) = c.requires.compared in (s.second_frames, (s.bound, s.second))

pub returns-then-not-ready-2-clause-steps : goal.returns-then-not-ready-2-clause-steps
returns-then-not-ready-2-clause-steps g c = λ told s.
    (c.if-not-ready-2.ensures.readies s.second_frames s.bound s.second, (c.if-not-ready.ensures.readies s.first_frames s.bound s.first).0)

pub returns-in-First-clause-steps : goal.returns-in-First-clause-steps
returns-in-First-clause-steps g c = λ told s.
    let a = side_view g.D.Disk g.R.Report c.args.first.now in
    let b = side_view g.E.Disk g.Q.Report c.args.second.now in
    let k = c.args.self.now in
    let p = c.ready.new.self in
    let q = c.ready-2.new.self in
    let f = c.if-not-ready.ensures.readies s.first_frames s.bound s.first in
    let e = c.if-not-ready-2.ensures.readies s.second_frames s.bound s.second in
    let r = are_ready a b k told s p q c.requires.parts f.1 e.1 in
    let turn = first_turn p.place q.place c.in-First.p c.in-First.ensures e.1.read in
    ((f.0, e.0), all_parts a b k.parts k.one k.two (compared p) q _ c.requires.parts (step_first a b c.in-First.p k.one k.two p q told r turn.0 turn.1))

pub returns-in-Second-clause-steps : goal.returns-in-Second-clause-steps
returns-in-Second-clause-steps g c = λ told s.
    let a = side_view g.D.Disk g.R.Report c.args.first.now in
    let b = side_view g.E.Disk g.Q.Report c.args.second.now in
    let k = c.args.self.now in
    let p = c.ready.new.self in
    let q = c.ready-2.new.self in
    let f = c.if-not-ready.ensures.readies s.first_frames s.bound s.first in
    let e = c.if-not-ready-2.ensures.readies s.second_frames s.bound s.second in
    let r = are_ready a b k told s p q c.requires.parts f.1 e.1 in
    let turn = second_turn p.place q.place c.in-Second.p c.in-Second.ensures f.1.read in
    ((f.0, e.0), all_parts a b k.parts k.one k.two p (compared q) _ c.requires.parts (step_second a b c.in-Second.p k.one k.two p q told r turn.0 turn.1))

pub returns-in-End-clause-steps : goal.returns-in-End-clause-steps
returns-in-End-clause-steps g c = λ told s.
    let a = side_view g.D.Disk g.R.Report c.args.first.now in
    let b = side_view g.E.Disk g.Q.Report c.args.second.now in
    let k = c.args.self.now in
    let p = c.ready.new.self in
    let q = c.ready-2.new.self in
    let f = c.if-not-ready.ensures.readies s.first_frames s.bound s.first in
    let e = c.if-not-ready-2.ensures.readies s.second_frames s.bound s.second in
    let r = are_ready a b k told s p q c.requires.parts f.1 e.1 in
    let turn = end_turn p.place q.place c.in-End.ensures f.1.read e.1.read in
    ((f.0, e.0), step_end a (side_view g.D.Disk g.R.Report c.ready.new.side) b (side_view g.E.Disk g.Q.Report c.ready-2.new.side) k.one k.two p q told r turn.0 turn.1)

pub returns-then-is_same_page-clause-steps : goal.returns-then-is_same_page-clause-steps
returns-then-is_same_page-clause-steps g c = λ told s.
    let a = side_view g.D.Disk g.R.Report c.args.first.now in
    let b = side_view g.E.Disk g.Q.Report c.args.second.now in
    let k = c.args.self.now in
    let p = c.ready.new.self in
    let q = c.ready-2.new.self in
    let f = c.if-not-ready.ensures.readies s.first_frames s.bound s.first in
    let e = c.if-not-ready-2.ensures.readies s.second_frames s.bound s.second in
    let r = are_ready a b k told s p q c.requires.parts f.1 e.1 in
    let turn = both_turn p.place q.place c.in-Both.p c.in-Both.ensures in
    let now = step_both a b c.in-Both.p k.one k.two p q told true r turn.0 turn.1 (sym c.is_same_page.ensures ∙ c.if-is_same_page.true) in
    let same = subst (λ (t : List Difference). HasCompared a b (at_frames k.one k.two (compared p) (compared q)) t) (append-nil told) now in (
      (f.0, e.0),
      all_parts a b k.parts k.one k.two (compared p) (compared q) told c.requires.parts same,
      fewer_both k p q c.in-Both.p turn.0 turn.1 f.1.left e.1.left,
    )

pub returns-else-is_same_page-clause-steps : goal.returns-else-is_same_page-clause-steps
returns-else-is_same_page-clause-steps g c = λ told s.
    let a = side_view g.D.Disk g.R.Report c.args.first.now in
    let b = side_view g.E.Disk g.Q.Report c.args.second.now in
    let k = c.args.self.now in
    let p = c.ready.new.self in
    let q = c.ready-2.new.self in
    let f = c.if-not-ready.ensures.readies s.first_frames s.bound s.first in
    let e = c.if-not-ready-2.ensures.readies s.second_frames s.bound s.second in
    let r = are_ready a b k told s p q c.requires.parts f.1 e.1 in
    let turn = both_turn p.place q.place c.in-Both.p c.in-Both.ensures in
    let now = step_both a b c.in-Both.p k.one k.two p q told false r turn.0 turn.1 (sym c.is_same_page.ensures ∙ c.if-is_same_page.false) in
    ((f.0, e.0), all_parts a b k.parts k.one k.two (compared p) (compared q) _ c.requires.parts now)
