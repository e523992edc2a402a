use Rattle.std.proofs.Common.{◌≡◌, ◌≤◌, List, flat_map, sym, ap, ap₂, subst, ◌∙◌}
use Rattle.std.proofs.lemmas.Result.{IfOk-weaker}
use Rattle.image_show.specs.HeaderFacts.{header_facts}
use Rattle.image_show.specs.declared.facts.fact.Fact.{Fact}
use Rattle.image_show.specs.Shown.{Shows, ShowsFront}
use Rattle.image_show.specs.Forms.{HasFailed, Puts, PutsFront}
use Rattle.expanded_disk.specs.Keeps.{FailsWith}
use Rattle.expanded_show.specs.Standing.{standing}
use Rattle.expanded_show.proofs.Leading.{shows_expanded}
use Rattle.expanded_show.proofs.showing.show_below.Goals as goal

pub returns-in-Ok-clause-shown : goal.returns-in-Ok-clause-shown
returns-in-Ok-clause-shown g c =
    let state = g.K.Original.state in
    let image = c.args.image in
    let header : c.as_slice.result.now ≡ header_facts state.blocks image.index.header = c.as_slice.ensures ∙ c.header_facts-header.ensures ∙ ap (λ n. header_facts n image.index.header) c.blocks-2.ensures in
    let fails = subst (λ below. FailsWith state.content state.faults (g.B.ReadOnly.state below).faults c.show_facts-over.new.disk.faults) (sym c.into_below.ensures.below)
    (c.into_source.ensures.cause image.header (c.show_facts-over.ensures.content ∙ c.in-Ok.ensures.content) (c.show_facts-over.ensures.orders ∙ c.in-Ok.ensures.orders)) in
    let given = c.form-1.given.1 (sym c.show_facts-over.ensures.form) in
    IfOk-weaker c.show_facts-over.result.1 _ _
    (λ shown s. (
      flat_map (standing c.as_slice.result.now c.as_slice-in-Ok.result.now) s.0,
      (
        shows_expanded (λ c n h b f fs. Shows c n h b f fs shown) state.content _ state.blocks image.header _ _ _ state.faults (g.B.ReadOnly.state c.into_below.result).faults image.index image.blocks.items _ s.0
            c.in-Ok.ensures.content c.in-Ok.ensures.blocks c.in-Ok.ensures.faults fails s.1.0
            (ap₂ (λ (hs bs : List Fact). flat_map (standing hs bs) s.0) header c.as_slice-in-Ok.ensures.value),
        subst (λ f. Puts g.F.Form.style (flat_map (standing c.as_slice.result.now c.as_slice-in-Ok.result.now) s.0) (g.F.Form.written c.args.form.now) (g.F.Form.written f)) (sym given) s.1.1,
      ),
    ))
    c.show_facts-over.ensures.shown

pub returns-in-Ok-clause-front : goal.returns-in-Ok-clause-front
returns-in-Ok-clause-front g c = λ e.
    let state = g.K.Original.state in
    let image = c.args.image in
    let header : c.as_slice.result.now ≡ header_facts state.blocks image.index.header = c.as_slice.ensures ∙ c.header_facts-header.ensures ∙ ap (λ n. header_facts n image.index.header) c.blocks-2.ensures in
    let fails = subst (λ below. FailsWith state.content state.faults (g.B.ReadOnly.state below).faults c.show_facts-over.new.disk.faults) (sym c.into_below.ensures.below)
    (c.into_source.ensures.cause image.header (c.show_facts-over.ensures.content ∙ c.in-Ok.ensures.content) (c.show_facts-over.ensures.orders ∙ c.in-Ok.ensures.orders)) in
    let given = c.form-1.given.1 (sym c.show_facts-over.ensures.form) in
    let s = c.show_facts-over.ensures.front e in (
      flat_map (standing c.as_slice.result.now c.as_slice-in-Ok.result.now) s.0,
      (
        shows_expanded ShowsFront state.content _ state.blocks image.header _ _ _ state.faults (g.B.ReadOnly.state c.into_below.result).faults image.index image.blocks.items _ s.0
            c.in-Ok.ensures.content c.in-Ok.ensures.blocks c.in-Ok.ensures.faults fails s.1.0
            (ap₂ (λ (hs bs : List Fact). flat_map (standing hs bs) s.0) header c.as_slice-in-Ok.ensures.value),
        subst (λ f. PutsFront g.F.Form.style (flat_map (standing c.as_slice.result.now c.as_slice-in-Ok.result.now) s.0) (g.F.Form.written c.args.form.now) (g.F.Form.written f)) (sym given) s.1.1,
      ),
    )

pub returns-in-Ok-clause-cause : goal.returns-in-Ok-clause-cause
returns-in-Ok-clause-cause g c = λ e.
    let given = c.form-1.given.1 (sym c.show_facts-over.ensures.form) in
    subst (λ f. HasFailed (g.F.Form.faults c.args.form.now) (g.F.Form.faults f) (g.F.Form.refused f)) (sym given) (c.show_facts-over.ensures.cause e)

pub returns-in-Ok-clause-memory : goal.returns-in-Ok-clause-memory
returns-in-Ok-clause-memory g c = λ e.
    let given = c.form-1.given.1 (sym c.show_facts-over.ensures.form) in
    subst (λ f. g.F.Form.written f ≡ g.F.Form.written c.args.form.now) (sym given) (c.show_facts-over.ensures.memory e)

pub returns-in-Ok-clause-counted : goal.returns-in-Ok-clause-counted
returns-in-Ok-clause-counted g c =
    let given = c.form-1.given.1 (sym c.show_facts-over.ensures.form) in
    subst (λ f. g.F.Form.faults c.args.form.now ≤ g.F.Form.faults f) (sym given) c.show_facts-over.ensures.counted
