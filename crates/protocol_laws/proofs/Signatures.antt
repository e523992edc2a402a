-- A block is an image's if and only if it carries the signature.
use Rattle.std.proofs.Common.{◌≡◌, ℕ, Bool, true, false, cond, List, Option, Some, None, refl, sym, ◌∙◌, nat_lt, nat_eq, eqb}
use Rattle.std.specs.Cmp.Lexicographic.{pointwise, same_text, other_text}
use Rattle.definitions.specs.SwapHeader.{IsMarked, sig_of, image_signature, old_signature, area_signature, version_of, last_page_of, bad_count_of, bad_pages_of, first_outside}
use Rattle.image_format.specs.AreaKind.{area_kind, version_1_kind, area_with, mark_of}
use Rattle.image_format.specs.declared.signature.area.AreaKind.{AreaKind}
use Rattle.image_format.specs.declared.signature.area.AreaKind.TheVariants.{Image, Old, Other, BadArea, Swap}
use Rattle.image_format.specs.declared.signature.area.Mark.{Mark}
use Rattle.protocol_laws.specs.Headers.{is_image}

with_not_image : (page : List ℕ) (o : Option ℕ) → is_image (area_with page o) ≡ false
with_not_image page None = refl
with_not_image page (Some slot) = refl

tests_not_image : (b c d : Bool) (x y z w : AreaKind) → is_image x ≡ false → is_image y ≡ false → is_image z ≡ false → is_image w ≡ false → is_image (cond b (cond c x (cond d y z)) w) ≡ false
tests_not_image true true d x y z w ex ey ez ew = ex
tests_not_image true false true x y z w ex ey ez ew = ey
tests_not_image true false false x y z w ex ey ez ew = ez
tests_not_image false c d x y z w ex ey ez ew = ew

version_not_image : (page : List ℕ) → is_image (version_1_kind page) ≡ false
version_not_image page =
    tests_not_image (eqb (version_of page) 1) (nat_lt 630 (bad_count_of page)) (eqb (last_page_of page) 0) _ _ (area_with page (first_outside (last_page_of page) (bad_pages_of page (bad_count_of page)))) _ refl refl
    (with_not_image page (first_outside (last_page_of page) (bad_pages_of page (bad_count_of page)))) refl

first_test : (b c d : Bool) (x y z w : AreaKind) → is_image x ≡ true → is_image y ≡ false → is_image z ≡ false → is_image w ≡ false → is_image (cond b x (cond c y (cond d z w))) ≡ b
first_test true c d x y z w ex ey ez ew = ex
first_test false true d x y z w ex ey ez ew = ey
first_test false false true x y z w ex ey ez ew = ez
first_test false false false x y z w ex ey ez ew = ew

pub image_by_signature : (page : List ℕ) → is_image (area_kind page) ≡ pointwise nat_eq (sig_of page) image_signature
unfolding area_kind
image_by_signature page =
    first_test (pointwise nat_eq (sig_of page) image_signature) (pointwise nat_eq (sig_of page) old_signature) (pointwise nat_eq (sig_of page) area_signature) (Image (mark_of page)) Old (version_1_kind page) (Other (sig_of page)) refl refl (version_not_image page) refl

pub marked_true : (page : List ℕ) → is_image (area_kind page) ≡ true → IsMarked page
marked_true page e = same_text (sig_of page) image_signature (sym e ∙ image_by_signature page)

pub marked_false : (page : List ℕ) → is_image (area_kind page) ≡ false → IsMarked page → ⊥
marked_false page e = other_text (sig_of page) image_signature (sym e ∙ image_by_signature page)

pub not_image : (kind : AreaKind) → ((mark : Mark) → kind ≡ Image mark → ⊥) → is_image kind ≡ false
not_image (Image mark) never = absurd (never mark refl)
not_image Old never = refl
not_image (Other sig) never = refl
not_image (BadArea why) never = refl
not_image (Swap area) never = refl
