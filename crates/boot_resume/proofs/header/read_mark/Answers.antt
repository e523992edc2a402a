use Rattle.std.proofs.Common.{◌≡◌, List, ℕ, Bool, true, false, cond, not, Option, Some, None, refl, sym, ap, ◌∙◌, subst, IfOk}
use Rattle.image_format.specs.AreaKind.{mark_of, same_bytes}
use Rattle.image_format.specs.declared.signature.area.Mark.{Mark}
use Rattle.definitions.specs.SwapHeader.{image_signature, sig_of}
use Rattle.boot_resume.specs.Marks.{mark_by}
use Rattle.boot_resume.specs.Memory.{Tests}
use Rattle.boot_resume.specs.OnDisk.{header_cause, mode_cause}
use Rattle.boot_resume.specs.declared.cause.Cause.{Cause}
use Rattle.boot_resume.specs.declared.cause.Cause.TheVariants.{NoImage}
use Rattle.boot_resume.proofs.header.read_mark.Goals as goal

unmarked : (b : Bool) (x : Mark) (other : Option Cause) → None ≡ cond b (Some x) None → cond (not b) (Some NoImage) other ≡ Some NoImage
unmarked true x other is = cc
unmarked false x other is = refl

marked : (b : Bool) (x y : Mark) → Some y ≡ cond b (Some x) None → (y ≡ x) × (b ≡ true)
marked true x y is = (cc, refl)
marked false x y is = cc

has_mode : (page : List ℕ) (mark : Mark) → Some mark ≡ mark_by page → header_cause page ≡ mode_cause mark
has_mode page mark is =
    let m = marked (same_bytes (sig_of page) image_signature) (mark_of page) mark is in
    ap (λ b. cond (not b) (Some NoImage) (mode_cause (mark_of page))) m.1 ∙ ap mode_cause (sym m.0)

pub returns-in-None-clause-tests : goal.returns-in-None-clause-tests
returns-in-None-clause-tests c = unmarked (same_bytes (sig_of c.args.page.now) image_signature) (mark_of c.args.page.now) _ c.in-None.ensures

pub returns-in-Some-clause-tests : goal.returns-in-Some-clause-tests
returns-in-Some-clause-tests c = subst (λ x. Tests x c.check_mode.result) (sym (has_mode c.args.page.now c.in-Some.mark c.in-Some.ensures)) c.check_mode.ensures.tests

pub returns-in-Some-clause-mark : goal.returns-in-Some-clause-mark
returns-in-Some-clause-mark c =
    subst (λ (x : Mark). IfOk c.check_mode.result (λ m. m ≡ x)) (marked (same_bytes (sig_of c.args.page.now) image_signature) (mark_of c.args.page.now) c.in-Some.mark c.in-Some.ensures).0
    c.check_mode.ensures.mark
