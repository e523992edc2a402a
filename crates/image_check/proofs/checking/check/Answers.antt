use Rattle.std.proofs.Common.{◌≡◌, ℕ, [], ◌∷◌, Option, Some, None, Bool, true, false, Result, Ok, Err, OnOk, OnErr, refl, subst, sym, ap, ◌∙◌, inl, inr}
use Rattle.std.specs.Result.{is_err}
use Rattle.definitions.specs.Disk.{Content}
use Rattle.image_format.specs.AreaKind.{area_kind}
use Rattle.image_format.specs.declared.signature.area.Mark.{Mark}
use Rattle.image_check.specs.Checked.{FindsImage, FindsMark, mark_in}
use Rattle.image_check.specs.declared.finding.Finding.TheVariants as finding
use Rattle.image_check.proofs.Earlier.{image_earlier}
use Rattle.image_check.proofs.checking.check.Goals as goal

on_ok : {T E P : Type 0} (r : Result T E) (b : Bool) → b ≡ false → b ≡ is_err r → OnOk r P → P
on_ok (Ok v) b f e h = h
on_ok (Err w) b f e h = cc

on_err : {T E P : Type 0} (r : Result T E) (b : Bool) → b ≡ true → b ≡ is_err r → OnErr r P → P
on_err (Ok v) b t e h = cc
on_err (Err w) b t e h = h

pub returns-then-is_err-clause-checked : goal.returns-then-is_err-clause-checked
returns-then-is_err-clause-checked g c = (
  Some (finding.HeaderUnread c.args.header ∷ []),
  (
    inr (inl (refl, on_err c.read.result c.is_err.result c.if-is_err.true c.is_err.ensures.value c.read.ensures.cause)),
    (refl, c.tell.ensures),
  ),
)

pub returns-in_default-clause-checked : goal.returns-in_default-clause-checked
returns-in_default-clause-checked g c =
    let content = g.D.Disk.content c.args.disk.now in
    let blocks = g.D.Disk.block_count c.args.disk.now in
    let before = g.D.Disk.faults c.args.disk.now in
    let now = g.D.Disk.faults c.read.new.self in
    let page = c.read.new.into in
    let none : mark_in (area_kind page) ≡ None = ap mark_in (sym c.read-2.ensures) ∙ sym c.mark_in.ensures ∙ c.in_default.is in (
      None,
      (
        inr (inr (
          page,
          (
            on_ok c.read.result c.is_err.result c.if-is_err.false c.is_err.ensures.value c.read.ensures.bytes,
            subst (λ (m : Option Mark). FindsMark content blocks c.args.header before now page m None) (sym none) refl,
          ),
        )),
        (refl, refl),
      ),
    )

pub returns-clause-checked : goal.returns-clause-checked
returns-clause-checked g c =
    let content = g.D.Disk.content c.args.disk.now in
    let blocks = g.D.Disk.block_count c.args.disk.now in
    let before = g.D.Disk.faults c.args.disk.now in
    let then = g.D.Disk.faults c.read.new.self in
    let now = g.D.Disk.faults c.check_image.new.disk in
    let page = c.read.new.into in
    let mark = c.in-Some.mark in
    let told = c.in_ok-check_image.ensures.told in
    let here : FindsImage content blocks c.args.header then now mark page told.0 =
    subst (λ (x : Option Content). FindsImage x blocks c.args.header then now mark page told.0) c.read.ensures.content
    (subst (λ (n : ℕ). FindsImage (g.D.Disk.content c.read.new.self) n c.args.header then now mark page told.0) c.read.ensures.blocks told.1.0) in
    let marked : mark_in (area_kind page) ≡ Some mark = ap mark_in (sym c.read-2.ensures) ∙ sym c.mark_in.ensures ∙ c.in-Some.is in (
      Some told.0,
      (
        inr (inr (
          page,
          (
            on_ok c.read.result c.is_err.result c.if-is_err.false c.is_err.ensures.value c.read.ensures.bytes,
            subst (λ (m : Option Mark). FindsMark content blocks c.args.header before now page m (Some told.0)) (sym marked)
                (image_earlier content blocks c.args.header before then now mark page told.0 c.read.ensures.faults here),
          ),
        )),
        (refl, told.1.1),
      ),
    )
