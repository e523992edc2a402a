-- What holds over a disk that reads as before.
use Rattle.std.proofs.Common.{◌≡◌, ℕ, ◌≤◌, List, [], ◌∷◌, length, Option, inl, inr, subst, arith}
use Rattle.page_core.specs.declared.format.Format.{Format}
use Rattle.definitions.specs.Disk.{Content}
use Rattle.image_check.specs.Info.{counts_in}
use Rattle.image_check.specs.Told.{Told}
use Rattle.image_pages.specs.Chain.{IsSized}
use Rattle.image_pages.specs.Ends.{IsRefused}
use Rattle.image_pages.specs.Stands.{Stands}
use Rattle.image_pages.specs.declared.pages.Pages.{Pages}
use Rattle.image_pages.proofs.Earlier.{refused_earlier}
use Rattle.image_pages.specs.Ahead.{HasMore, HasRead}
use Rattle.image_pages.specs.Found.{Finds}
use Rattle.image_pages.specs.declared.saved.finding.Found.{Found}
use Rattle.image_pages.specs.declared.saved.finding.Found.TheVariants.{NoImage, Refused, NoPage, Page}
use Rattle.image_pages.proofs.Searching.{Searched}
use Rattle.image_pages.proofs.Starting.{bad_earlier}

pub stands_since : (c d : Option Content) (m n header : ℕ) (p : Pages) (given : List (List ℕ)) → c ≡ d → m ≡ n → Stands c m header p given → Stands d n header p given
stands_since c d m n header p given e f s =
    subst (λ (x : Option Content). Stands x n header p given) e (subst (λ (k : ℕ). Stands c k header p given) f s)

pub searched_since : (c d : Option Content) (m n header : ℕ) (p : Pages) (format : Format) (info : List ℕ) (all frame k earlier : ℕ) → c ≡ d → m ≡ n → Searched c m header p format info all frame k earlier → Searched d n header p format info all frame k earlier
searched_since c d m n header p format info all frame k earlier e f s =
    subst (λ (x : Option Content). Searched x n header p format info all frame k earlier) e (subst (λ (j : ℕ). Searched c j header p format info all frame k earlier) f s)

pub has_read_since : (c d : Option Content) (m n header : ℕ) (given : List (List ℕ)) (p : Pages) (page : List ℕ) (k : ℕ) → c ≡ d → m ≡ n → HasRead c m header given p page k → HasRead d n header given p page k
has_read_since c d m n header given p page k e f s =
    subst (λ (x : Option Content). HasRead x n header given p page k) e (subst (λ (j : ℕ). HasRead c j header given p page k) f s)

pub refused_since : (c d : Option Content) (m n header before then now : ℕ) (told old new : Told) (given : List (List ℕ)) → c ≡ d → m ≡ n → old ≡ told → before ≤ then → IsRefused c m header then now old new given → IsRefused d n header before now told new given
refused_since c d m n header before then now told old new given e f t le r =
    refused_earlier d n header before then now told new given le
    (subst (λ (x : Told). IsRefused d n header then now x new given) t
    (subst (λ (x : Option Content). IsRefused x n header then now old new given) e
    (subst (λ (k : ℕ). IsRefused c k header then now old new given) f r)))

pub not_whole : (given : List (List ℕ)) → HasMore given → IsSized given → ⊥
not_whole [] more sized = sized
not_whole (info ∷ rest) more sized = omega arith

-- what was found, after other calls of the disk
finds_earlier : (content : Option Content) (blocks header before then now : ℕ) (told end : Told) (frame : ℕ) (page : List ℕ) (f : Found) → before ≤ then → Finds content blocks header then now told end frame page f → Finds content blocks header before now told end frame page f
finds_earlier content blocks header before then now told end frame page NoImage le h = h
finds_earlier content blocks header before then now told end frame page Refused le (inl bad) = inl (bad_earlier content blocks header before then now told end le bad)
finds_earlier content blocks header before then now told end frame page Refused le (inr (given, refused)) =
    inr (given, refused_earlier content blocks header before then now told end given le refused)
finds_earlier content blocks header before then now told end frame page NoPage le h = h
finds_earlier content blocks header before then now told end frame page Page le h = h

pub finds_since : (c d : Option Content) (m n header before then now : ℕ) (told old end : Told) (frame : ℕ) (page : List ℕ) (f : Found) → c ≡ d → m ≡ n → old ≡ told → before ≤ then → Finds c m header then now old end frame page f → Finds d n header before now told end frame page f
finds_since c d m n header before then now told old end frame page f e i t le h =
    finds_earlier d n header before then now told end frame page f le
    (subst (λ (x : Told). Finds d n header then now x end frame page f) t
    (subst (λ (x : Option Content). Finds x n header then now old end frame page f) e
    (subst (λ (k : ℕ). Finds c k header then now old end frame page f) i h)))
