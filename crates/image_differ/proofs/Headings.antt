-- The differences of two headings, part by part.
use Rattle.std.proofs.Common.{◌≡◌, ℕ, ◌+◌, ◌≤◌, List, [], ◌++◌, Option, None, refl, sym, ap, subst, ◌∙◌, arith, inl, inr, append-nil}
use Rattle.std.proofs.lemmas.Bool.{cases_lt}
use Rattle.image_differ.specs.Compares.{HasCompared}
use Rattle.image_differ.specs.Differences.{frame_differences}
use Rattle.image_differ.specs.Headings.{heading_difference, heading_differences, list_of}
use Rattle.image_differ.specs.Sides.{SideView}
use Rattle.image_differ.specs.declared.comparison.Comparison.{Comparison}
use Rattle.image_differ.specs.declared.difference.Difference.{Difference}
use Rattle.image_differ.specs.declared.heading.Heading.{Heading}
use Rattle.image_differ.proofs.Listing.{differences_none, flat_more}

pub heading_none : (a b : Heading) → heading_differences a b 0 ≡ []
unfolding heading_differences
heading_none a b = refl

pub heading_more : (a b : Heading) (n : ℕ) → heading_differences a b (n + 1) ≡ heading_differences a b n ++ list_of (heading_difference n a b)
unfolding heading_differences
heading_more a b n = flat_more (λ k. list_of (heading_difference k a b)) n

-- a comparison with the given number of parts compared
abbrev pub with_parts : Comparison → ℕ → Comparison
with_parts c parts = record { one = c.one; two = c.two; parts = parts; first = c.first; second = c.second }

-- no page frame is compared before all parts are
pub part_told : (a b : SideView) (c : Comparison) (told : List Difference) (parts : ℕ) (d : Option Difference) → HasCompared a b c told → heading_differences c.one c.two parts ≡ heading_differences c.one c.two c.parts ++ list_of d → parts ≤ 10 → c.parts ≤ parts → (c.parts ≡ 10 → d ≡ None) → HasCompared a b (with_parts c parts) (told ++ list_of d)
part_told a b c told parts d h more few on last = record {
  first_heading = h.first_heading;
  second_heading = h.second_heading;
  first_frames = h.first_frames;
  second_frames = h.second_frames;
  bound = h.bound;
  first = h.first;
  second = h.second;
  small = h.small;
  parts = few;
  order = λ lt. h.order (omega arith);
  is = elim (cases_lt c.parts 10) [
    | inl lt ↦
        let none : frame_differences h.first_frames h.second_frames h.bound ≡ [] =
        ap (frame_differences h.first_frames h.second_frames) (h.order lt) ∙ differences_none h.first_frames h.second_frames in
        ap (λ (xs : List Difference). xs ++ list_of d) (h.is ∙ ap (λ (xs : List Difference). heading_differences c.one c.two c.parts ++ xs) none ∙ append-nil (heading_differences c.one c.two c.parts))
        ∙ sym more
        ∙ sym (append-nil (heading_differences c.one c.two parts))
        ∙ ap (λ (xs : List Difference). heading_differences c.one c.two parts ++ xs) (sym none)
    | inr le ↦
        let some = h.parts in
        let gone : list_of d ≡ [] = ap list_of (last (omega arith)) in
        let same : parts ≡ c.parts = omega arith in
        ap (λ (xs : List Difference). told ++ xs) gone
        ∙ append-nil told
        ∙ h.is
        ∙ ap (λ (k : ℕ). heading_differences c.one c.two k ++ frame_differences h.first_frames h.second_frames h.bound) (sym same)
  ];
}

pub no_part_told : (a b : SideView) (c : Comparison) (told : List Difference) (parts : ℕ) → HasCompared a b c told → heading_differences c.one c.two parts ≡ heading_differences c.one c.two c.parts ++ [] → parts ≤ 10 → c.parts ≤ parts → HasCompared a b (with_parts c parts) told
no_part_told a b c told parts h more few on =
    subst (λ (t : List Difference). HasCompared a b (with_parts c parts) t) (append-nil told)
    (part_told a b c told parts None h more few on (λ e. refl))
