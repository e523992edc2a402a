use Rattle.std.proofs.Common.{◌≡◌, ◌-◌, ◌≤◌}
use Rattle.image_differ.specs.Headings.{heading_differences}
use Rattle.image_differ.proofs.comparison.next_part.Given as goal

abbrev pub invariant-loop-parts : goal.invariant-loop-parts
invariant-loop-parts l = record {
  same : heading_differences l.one l.two l.parts ≡ heading_differences l.one l.two l.initial.parts;
  few : l.parts ≤ 10;
  on : l.initial.parts ≤ l.parts;
}

abbrev pub decreases-loop-parts : goal.decreases-loop-parts
decreases-loop-parts l = 10 - l.parts
