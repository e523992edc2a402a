-- What a form of lines prints.
use Rattle.std.proofs.Common.{◌≡◌, ◌⊎◌, ℕ, false, true, List, [], ◌∷◌, ◌++◌, Option, None, refl, ap, inl, inr}
use Rattle.definitions.specs.Disk.{HasRisen}
use Rattle.image_show.specs.declared.facts.fact.Fact.{Fact}
use Rattle.image_show.specs.Forms.{pieces}
use Rattle.image_show.specs.Texts.{line_text, lines, text_of}

pub lines_are : (last : Option Fact) (facts : List Fact) → pieces lines last facts ≡ text_of facts
lines_are last [] = refl
lines_are last (f ∷ fs) = ap (λ (t : List ℕ). line_text f ++ t) (lines_are None fs)

-- such a form is never refused memory
pub only_risen : (before now : ℕ) → HasRisen before now ⊎ (false ≡ true) → HasRisen before now
only_risen before now (inl risen) = risen
only_risen before now (inr refused) = cc
