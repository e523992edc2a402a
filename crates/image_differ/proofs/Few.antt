-- There are no more differences than parts of a heading and page frames.
use Rattle.std.proofs.Common.{ℕ, ◌≤◌, Bool, true, false, List, [], ◌∷◌, ◌++◌, length, flat_map, nat_eq, if◌then◌else◌, Option, Some, None, ap, arith, length-append}
use Rattle.std.proofs.lemmas.List.FromFn.{length-range_with_len}
use Rattle.std.specs.List.{range_with_len}
use Rattle.std.specs.Cmp.Lexicographic.{pointwise}
use Rattle.image_pages.specs.SavedFrames.{SavedFrame}
use Rattle.image_differ.specs.Compares.{HasCompared}
use Rattle.image_differ.specs.Differences.{difference_at, frame_differences, page_of}
use Rattle.image_differ.specs.Headings.{heading_difference, heading_differences, list_of}
use Rattle.image_differ.specs.Sides.{SideView}
use Rattle.image_differ.specs.declared.comparison.Comparison.{Comparison}
use Rattle.image_differ.specs.declared.difference.Difference.{Difference}
use Rattle.image_differ.specs.declared.difference.Difference.TheVariants as difference
use Rattle.image_differ.specs.declared.heading.Heading.{Heading}

-- as many as numbers at most, where each has one at most
few_mapped : (f : ℕ → List Difference) → ((k : ℕ) → length (f k) ≤ 1) → (ks : List ℕ) → length (flat_map f ks) ≤ length ks
few_mapped f few [] = omega arith
few_mapped f few (k ∷ ks) = omega (arith, length-append (f k) (flat_map f ks), few k, few_mapped f few ks)

one_listed : (o : Option Difference) → length (list_of o) ≤ 1
one_listed None = omega arith
one_listed (Some d) = omega arith

one_chosen : (t : Bool) (d : Difference) → length (if t then [] else (d ∷ [])) ≤ 1
one_chosen true d = omega arith
one_chosen false d = omega arith

one_at : (p : ℕ) (a b : Option (List ℕ)) → length (difference_at p a b) ≤ 1
one_at p None None = omega arith
one_at p (Some a) None = omega arith
one_at p None (Some b) = omega arith
one_at p (Some a) (Some b) = one_chosen (pointwise nat_eq a b) (difference.Page p)

few_heads : (one two : Heading) (n : ℕ) → length (heading_differences one two n) ≤ n
unfolding heading_differences
few_heads one two n =
    omega (arith, few_mapped (λ (k : ℕ). list_of (heading_difference k one two)) (λ k. one_listed (heading_difference k one two)) (range_with_len 0 n), length-range_with_len 0 n)

few_frames : (a b : List SavedFrame) (n : ℕ) → length (frame_differences a b n) ≤ n
unfolding frame_differences
few_frames a b n =
    omega (arith, few_mapped (λ (p : ℕ). difference_at p (page_of p a) (page_of p b)) (λ p. one_at p (page_of p a) (page_of p b)) (range_with_len 0 n), length-range_with_len 0 n)

pub few_told : (a b : SideView) (c : Comparison) (told : List Difference) → HasCompared a b c told → length told ≤ 4503599627370506
few_told a b c told h =
    omega (arith, ap length h.is, length-append (heading_differences c.one c.two c.parts) (frame_differences h.first_frames h.second_frames h.bound), few_heads c.one c.two c.parts, few_frames h.first_frames h.second_frames h.bound, h.parts, h.small)
