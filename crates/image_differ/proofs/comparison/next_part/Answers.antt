use Rattle.std.proofs.Common.{◌++◌, ◌∷◌, [], List, Option, sym, ap, ◌∙◌, arith, append-nil}
use Rattle.image_differ.specs.Headings.{heading_differences, list_of}
use Rattle.image_differ.specs.declared.difference.Difference.{Difference}
use Rattle.image_differ.proofs.Headings.{heading_more}
use Rattle.image_differ.proofs.comparison.next_part.Goals as goal

pub returns-in-Some-clause-difference : goal.returns-in-Some-clause-difference
returns-in-Some-clause-difference c =
    let one = c.args.one.now in
    let two = c.args.two.now in
    let k = c.loop-parts.parts in
    heading_more one two k
    ∙ ap (λ (o : Option Difference). heading_differences one two k ++ list_of o) (sym c.heading_difference.ensures ∙ c.in-Some.is)
    ∙ ap (λ (xs : List Difference). xs ++ c.in-Some.difference ∷ []) c.loop-parts.invariant.same

pub loop-parts-preserved : goal.loop-parts-preserved
loop-parts-preserved c =
    let one = c.args.one.now in
    let two = c.args.two.now in
    let k = c.loop-parts.parts in
    record {
      same =
          heading_more one two k
          ∙ ap (λ (o : Option Difference). heading_differences one two k ++ list_of o) (sym c.heading_difference.ensures ∙ c.in_default.is)
          ∙ append-nil (heading_differences one two k)
          ∙ c.loop-parts.invariant.same;
      few = omega (arith, c.loop-parts-test.true);
      on = omega (arith, c.loop-parts.invariant.on);
    }
