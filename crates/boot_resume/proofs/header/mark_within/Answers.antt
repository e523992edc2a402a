use Rattle.std.proofs.Common.{◌≡◌, ℕ, List, Bool, true, false, cond, ◌==◌, nat_lt, refl, ap, ◌∙◌, Option, Some, None}
use Rattle.image_format.specs.AreaKind.{area_kind, area_with, version_1_kind, mark_of, same_bytes}
use Rattle.definitions.specs.SwapHeader.{area_signature, bad_count_of, bad_pages_of, first_outside, image_signature, last_page_of, old_signature, sig_of, version_of}
use Rattle.image_format.specs.declared.signature.area.Mark.{Mark}
use Rattle.image_format.specs.declared.signature.area.AreaFault.{AreaFault}
use Rattle.image_format.specs.declared.signature.area.AreaKind.{AreaKind}
use Rattle.image_format.specs.declared.signature.area.AreaKind.TheVariants.{Image, Old, Other, BadArea}
use Rattle.boot_resume.specs.Marks.{mark_by, mark_within}
use Rattle.boot_resume.proofs.header.mark_within.Goals as goal

at_kind : (a b d : Bool) (mark : Mark) (sig : List ℕ) (other : AreaKind) → mark_within other ≡ None → mark_within (cond a (Image mark) (cond b Old (cond d other (Other sig)))) ≡ cond a (Some mark) None
at_kind true b d mark sig other none = refl
at_kind false true d mark sig other none = refl
at_kind false false true mark sig other none = none
at_kind false false false mark sig other none = refl

at_version : (a b d : Bool) (p q s : AreaFault) (other : AreaKind) → mark_within other ≡ None → mark_within (cond a (cond b (BadArea p) (cond d (BadArea q) other)) (BadArea s)) ≡ None
at_version false b d p q s other none = refl
at_version true true d p q s other none = refl
at_version true false true p q s other none = refl
at_version true false false p q s other none = none

at_area : (page : List ℕ) (o : Option ℕ) → mark_within (area_with page o) ≡ None
at_area page None = refl
at_area page (Some slot) = refl

marked_kind : (page : List ℕ) → mark_within (area_kind page) ≡ mark_by page
unfolding area_kind
marked_kind page =
    at_kind (same_bytes (sig_of page) image_signature) (same_bytes (sig_of page) old_signature) (same_bytes (sig_of page) area_signature) (mark_of page) (sig_of page) (version_1_kind page)
    (at_version (version_of page == 1) (nat_lt 630 (bad_count_of page)) (last_page_of page == 0) _ _ _ _
    (at_area page (first_outside (last_page_of page) (bad_pages_of page (bad_count_of page)))))

pub returns : goal.returns
returns c = c.mark_of_kind.ensures ∙ ap mark_within c.read.ensures ∙ marked_kind c.args.page.now
