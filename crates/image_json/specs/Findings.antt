-- The object of a check.
use Rattle.std.specs.Prelude.{ℕ, ◌==◌, ◌&&◌, Bool, true, false, List, [], ◌∷◌, ◌++◌, length, map, codes}
use Rattle.std.specs.Prelude.{Option, Some, None}
use Rattle.serde_json.specs.Data.{Data, array, boolean, object, string, member, no_members}
use Rattle.serde_json.specs.View.{items_of}
use Rattle.serde_json.specs.Written.{compact_text}
use Rattle.image_check.specs.Lines.{finding_text}
use Rattle.image_check.specs.Told.{Told}
use Rattle.image_check.specs.declared.finding.Finding.{Finding}
use Rattle.image_json.specs.Values.{characters}

-- the state of findings of which none was kept yet
abbrev pub untold : Told
untold = record { text = Some []; count = 0; failed = false; faults = 0 }

abbrev pub text_value : List ℕ → Data
text_value text = string (characters text)

-- the texts of findings: their lines without the ends
abbrev pub texts_of : List Finding → List Data
texts_of found = map (λ finding. text_value (finding_text finding)) found

-- there is an image, and nothing is wrong with it
abbrev pub is_whole : Bool → List Finding → Bool
is_whole image found = image && (length found == 0)

-- the findings, whether there is an image, and whether it is whole, in the order of their keys
abbrev pub check_object : Bool → List Finding → Data
check_object image found =
    object (member (codes "findings") (array (items_of (texts_of found))) (member (codes "image") (boolean image)
    (member (codes "whole") (boolean (is_whole image found)) no_members)))

abbrev pub check_line : Bool → List Finding → List ℕ
check_line image found = compact_text (check_object image found) ++ 10 ∷ []

-- the line of an image with these findings, or of an area without an image
abbrev pub found_line : Option (List Finding) → List ℕ
found_line None = check_line false []
found_line (Some found) = check_line true found

abbrev pub found_whole : Option (List Finding) → Bool
found_whole None = false
found_whole (Some found) = is_whole true found
