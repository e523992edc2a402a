-- Two images with nothing compared yet.
use Rattle.std.proofs.Common.{ℕ, List, [], ◌++◌, refl, sym, ap, ◌∙◌, arith}
use Rattle.image_differ.specs.Compares.{HasCompared}
use Rattle.image_differ.specs.Differences.{frame_differences}
use Rattle.image_differ.specs.Marks.{IsHeading}
use Rattle.image_differ.specs.Readings.{IsReading}
use Rattle.image_differ.specs.Sides.{SideView}
use Rattle.image_differ.specs.declared.difference.Difference.{Difference}
use Rattle.image_differ.specs.declared.heading.Heading.{Heading}
use Rattle.image_differ.specs.declared.reading.Reading.{Reading}
use Rattle.image_differ.proofs.Headings.{heading_none}
use Rattle.image_differ.proofs.Listing.{differences_none}

pub both_opened : (a b : SideView) (one two : Heading) (p q : Reading) → IsHeading a p.frames.numbers.info one → IsHeading b q.frames.numbers.info two → IsReading a p [] 0 → IsReading b q [] 0 → HasCompared a b (record { one = one; two = two; parts = 0; first = p; second = q }) []
both_opened a b one two p q first second i j = record {
  first_heading = first;
  second_heading = second;
  first_frames = [];
  second_frames = [];
  bound = 0;
  first = i;
  second = j;
  small = omega arith;
  parts = omega arith;
  order = λ lt. refl;
  is = sym (ap (λ (xs : List Difference). xs ++ frame_differences [] [] 0) (heading_none one two) ∙ differences_none [] []);
}
