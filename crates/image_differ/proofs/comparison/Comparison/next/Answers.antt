use Rattle.std.proofs.Common.{List, Some, refl, ◌∙◌}
use Rattle.image_differ.specs.Compares.{HasCompared}
use Rattle.image_differ.specs.Sides.{side_view}
use Rattle.image_differ.specs.declared.difference.Difference.{Difference}
use Rattle.image_differ.proofs.Headings.{no_part_told, part_told}
use Rattle.image_differ.proofs.Sides.{compared_after, reads_on, says_since}
use Rattle.image_differ.proofs.comparison.Comparison.next.Goals as goal

pub returns-in-Some-clause-says : goal.returns-in-Some-clause-says
returns-in-Some-clause-says g c = λ told s.
    let e = c.in-Some.ensures in
    ((refl, refl), part_told (side_view g.D.Disk g.R.Report c.args.first.now) (side_view g.E.Disk g.Q.Report c.args.second.now) c.args.self.now told c.next_part.new.parts (Some c.in-Some.difference) s e.difference e.some e.on e.begun)

pub returns-in-Some-step-clause-says : goal.returns-in-Some-step-clause-says
returns-in-Some-step-clause-says g c = λ told s.
    let i = c.loop-next.invariant in
    let e = c.in_default.ensures in
    let a = side_view g.D.Disk g.R.Report c.args.first.now in
    let b = side_view g.E.Disk g.Q.Report c.args.second.now in
    let begun = no_part_told a b c.args.self.now told c.next_part.new.parts s e.difference e.some e.on in
    says_since a (side_view g.D.Disk g.R.Report c.loop-next.first) (side_view g.D.Disk g.R.Report c.step.new.first) b (side_view g.E.Disk g.Q.Report c.loop-next.second) (side_view g.E.Disk g.Q.Report c.step.new.second) told c.step.new.self c.in-Some-step.next i.first i.second i.first_untold i.second_untold
    (c.in-Some-step.ensures.steps told (i.still told begun))

pub loop-next-smaller : goal.loop-next-smaller
loop-next-smaller g c =
    let (told, s) = c.loop-next.invariant.compared in
    (c.in_default-step.ensures.steps told s).2

pub loop-next-preserved : goal.loop-next-preserved
loop-next-preserved g c =
    let i = c.loop-next.invariant in
    let (told, s) = i.compared in
    let steps = c.in_default-step.ensures.steps told s in
    let a = side_view g.D.Disk g.R.Report c.loop-next.first in
    let b = side_view g.E.Disk g.Q.Report c.loop-next.second in
    let x = side_view g.D.Disk g.R.Report c.step.new.first in
    let y = side_view g.E.Disk g.Q.Report c.step.new.second in
    let f = c.step.ensures.first in
    let e = c.step.ensures.second in
    let since = λ (t : List Difference) (r : HasCompared a b c.step.new.self t). compared_after a x b y c.step.new.self t f e r in
    record {
      compared = (told, since told steps.1);
      still = λ t r. since t (c.in_default-step.ensures.steps t (i.still t r)).1;
      first_untold = steps.0.0 ∙ i.first_untold;
      second_untold = steps.0.1 ∙ i.second_untold;
      parts = c.step.ensures.parts;
      first = reads_on (side_view g.D.Disk g.R.Report c.args.first.now) a x i.first f;
      second = reads_on (side_view g.E.Disk g.Q.Report c.args.second.now) b y i.second e;
    }
