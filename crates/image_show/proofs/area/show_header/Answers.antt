use Rattle.std.proofs.Common.{◌≡◌, List, [], ◌++◌, true, false, Option, Some, None, refl, sym, ap, ◌∙◌, subst, append-nil}
use Rattle.image_format.specs.AreaKind.{area_kind}
use Rattle.image_format.specs.declared.signature.area.AreaKind.{AreaKind}
use Rattle.image_format.specs.declared.signature.area.Mark.{Mark}
use Rattle.image_check.specs.Checked.{mark_in}
use Rattle.image_show.specs.HeaderFacts.{header_facts}
use Rattle.image_show.specs.declared.facts.fact.Fact.{Fact}
use Rattle.image_show.specs.Shown.{readable_mark, ShowsMark}
use Rattle.image_show.specs.Forms.{Puts, PutsFront}
use Rattle.image_show.proofs.Putting.{on_ok_then}
use Rattle.image_show.proofs.area.show_header.Goals as goal

pub returns-in-Some-clause-shown : goal.returns-in-Some-clause-shown
returns-in-Some-clause-shown g c = λ read.
    let page = c.args.page.now in
    let content = g.D.Disk.content c.args.disk.now in
    let blocks = g.D.Disk.block_count c.args.disk.now in
    let before = g.D.Disk.faults c.args.disk.now in
    let now = g.D.Disk.faults c.show_image.new.disk in
    let marked : readable_mark (mark_in (area_kind page)) ≡ Some c.in-Some.mark =
    ap (λ (k : AreaKind). readable_mark (mark_in k)) (sym c.read.ensures) ∙ sym c.readable_mark.ensures ∙ c.in-Some.is in
    on_ok_then c.show_image.result
    (λ shown. (
      header_facts blocks page ++ shown.0,
      (
        record {
          page = page;
          read = read;
          image = shown.0;
          shows_image = subst (λ (m : Option Mark). ShowsMark true content blocks c.args.header before now page shown.0 m) (sym marked) shown.1.0;
          says = refl;
        },
        shown.1.1,
      ),
    ))
    c.show_image.ensures.shown

pub returns-in-Some-clause-front : goal.returns-in-Some-clause-front
returns-in-Some-clause-front g c = λ read e.
    let page = c.args.page.now in
    let content = g.D.Disk.content c.args.disk.now in
    let blocks = g.D.Disk.block_count c.args.disk.now in
    let before = g.D.Disk.faults c.args.disk.now in
    let now = g.D.Disk.faults c.show_image.new.disk in
    let marked : readable_mark (mark_in (area_kind page)) ≡ Some c.in-Some.mark =
    ap (λ (k : AreaKind). readable_mark (mark_in k)) (sym c.read.ensures) ∙ sym c.readable_mark.ensures ∙ c.in-Some.is in
    let shown = c.show_image.ensures.front e in (
      header_facts blocks page ++ shown.0,
      (
        record {
          page = page;
          read = read;
          image = shown.0;
          shows_image = subst (λ (m : Option Mark). ShowsMark false content blocks c.args.header before now page shown.0 m) (sym marked) shown.1.0;
          says = refl;
        },
        shown.1.1,
      ),
    )

pub returns-in-None-clause-shown : goal.returns-in-None-clause-shown
returns-in-None-clause-shown g c = λ read.
    let page = c.args.page.now in
    let content = g.D.Disk.content c.args.disk.now in
    let blocks = g.D.Disk.block_count c.args.disk.now in
    let before = g.D.Disk.faults c.args.disk.now in
    let marked : readable_mark (mark_in (area_kind page)) ≡ None =
    ap (λ (k : AreaKind). readable_mark (mark_in k)) (sym c.read.ensures) ∙ sym c.readable_mark.ensures ∙ c.in-None.is in
    let nothing : List Fact = [] in
    let says : header_facts c.blocks-in-None.result page ≡ header_facts blocks page ++ nothing =
    ap (λ n. header_facts n page) c.blocks-in-None.ensures ∙ sym (append-nil (header_facts blocks page)) in
    on_ok_then c.print_header_only.result
    (λ takes. (
      header_facts blocks page ++ nothing,
      (
        record {
          page = page;
          read = read;
          image = nothing;
          shows_image = subst (λ (m : Option Mark). ShowsMark true content blocks c.args.header before before page nothing m) (sym marked) refl;
          says = refl;
        },
        subst (λ (fs : List Fact). Puts g.F.Form.style fs (g.F.Form.written c.args.form.now) (g.F.Form.written c.print_header_only.new.form)) says takes,
      ),
    ))
    c.print_header_only.ensures.whole

pub returns-in-None-clause-front : goal.returns-in-None-clause-front
returns-in-None-clause-front g c = λ read e.
    let page = c.args.page.now in
    let content = g.D.Disk.content c.args.disk.now in
    let blocks = g.D.Disk.block_count c.args.disk.now in
    let before = g.D.Disk.faults c.args.disk.now in
    let marked : readable_mark (mark_in (area_kind page)) ≡ None =
    ap (λ (k : AreaKind). readable_mark (mark_in k)) (sym c.read.ensures) ∙ sym c.readable_mark.ensures ∙ c.in-None.is in
    let nothing : List Fact = [] in
    let says : header_facts c.blocks-in-None.result page ≡ header_facts blocks page ++ nothing =
    ap (λ n. header_facts n page) c.blocks-in-None.ensures ∙ sym (append-nil (header_facts blocks page)) in (
      header_facts blocks page ++ nothing,
      (
        record {
          page = page;
          read = read;
          image = nothing;
          shows_image = subst (λ (m : Option Mark). ShowsMark false content blocks c.args.header before before page nothing m) (sym marked) refl;
          says = refl;
        },
        subst (λ (fs : List Fact). PutsFront g.F.Form.style fs (g.F.Form.written c.args.form.now) (g.F.Form.written c.print_header_only.new.form)) says c.print_header_only.ensures.front,
      ),
    )
