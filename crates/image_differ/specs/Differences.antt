-- Where two images differ: in their headings, and then at each page frame, in ascending order, that only one of them
-- saved or that both saved with different pages.
use Rattle.std.specs.Prelude.{ℕ, ◌==◌, ◌^◌, nat_eq, List, [], ◌∷◌, ◌++◌, flat_map, if◌then◌else◌, Option, Some, None}
use Rattle.std.specs.List.{range_with_len}
use Rattle.std.specs.Cmp.Lexicographic.{pointwise}
use Rattle.image_pages.specs.SavedFrames.{SavedFrame}
use Rattle.image_differ.specs.Headings.{heading_differences}
use Rattle.image_differ.specs.declared.difference.Difference.{Difference}
use Rattle.image_differ.specs.declared.difference.Difference.TheVariants as difference
use Rattle.image_differ.specs.declared.heading.Heading.{Heading}

-- the page of a page frame, if it was saved
abbrev pub page_of : ℕ → List SavedFrame → Option (List ℕ)
page_of p [] = None
page_of p (f ∷ fs) = if f.number == p then Some f.page else page_of p fs

-- the difference at a page frame, given the pages that the two images saved of it
abbrev pub difference_at : ℕ → Option (List ℕ) → Option (List ℕ) → List Difference
difference_at p None None = []
difference_at p (Some a) None = difference.FirstAlone p ∷ []
difference_at p None (Some b) = difference.SecondAlone p ∷ []
difference_at p (Some a) (Some b) = if pointwise nat_eq a b then [] else difference.Page p ∷ []

-- the differences at the page frames below a number
unfoldable pub frame_differences : List SavedFrame → List SavedFrame → ℕ → List Difference
frame_differences a b bound = flat_map (λ p. difference_at p (page_of p a) (page_of p b)) (range_with_len 0 bound)

-- the first number that no page frame has, since its address would have more than 64 bits
abbrev pub no_frame : ℕ
no_frame = 2 ^ 52

-- what an image says, and the page frames that it saved
pub record Image : Type 0 where
  pub heading : Heading
  pub frames : List SavedFrame

abbrev pub differences : Image → Image → List Difference
differences a b = heading_differences a.heading b.heading 10 ++ frame_differences a.frames b.frames no_frame
