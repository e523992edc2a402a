use Rattle.std.proofs.Common.{◌≡◌, ◌∙◌, ℕ, List, [], subst, inl, inr}
use Rattle.command_kit.specs.Told.{RunResult}
use Rattle.command_kit.specs.Told.{IsTold}
use Rattle.command_kit.specs.View.{sink_view}
use Rattle.command_kit.specs.declared.status.Status.{Status}
use Rattle.image_json.specs.Objects.{object_line}
use Rattle.image_cli.proofs.showing.show_json.Goals as goal

abbrev ends_with : Status → List ℕ → RunResult
ends_with status text = record { status = status; out = text; note = [] }

pub returns-in-Ok-clause-outcome : goal.returns-in-Ok-clause-outcome
returns-in-Ok-clause-outcome g c =
    let old = sink_view g.O.Sink c.args.out.now in
    let new = sink_view g.O.Sink c.tell.new.out in
    let note = sink_view g.N.Sink c.args.note.now in
    let noted = sink_view g.N.Sink c.tell.new.note in
    let shown = c.in-Ok.ensures.shown in
    let line : c.as_bytes.result.now ≡ object_line shown.0 = c.as_bytes.ensures.value ∙ shown.1.1 in
    let printed = subst (λ (text : List ℕ). IsTold (ends_with c.status_shown.result text) c.tell.result old new note noted) line c.tell.ensures.told in
    inr (
      shown.0,
      (
        c.in-Ok.shown,
        (
          shown.1.0,
          subst (λ (s : Status). IsTold (ends_with s (object_line shown.0)) c.tell.result old new note noted) c.status_shown.ensures.status printed,
        ),
      ),
    )

pub returns-in-Err-clause-outcome : goal.returns-in-Err-clause-outcome
returns-in-Err-clause-outcome g c =
    let old = sink_view g.O.Sink c.args.out.now in
    let new = sink_view g.O.Sink c.tell-in-Err.new.out in
    let note = sink_view g.N.Sink c.args.note.now in
    let noted = sink_view g.N.Sink c.tell-in-Err.new.note in
    inl (subst (λ (r : RunResult). IsTold r c.tell-in-Err.result old new note noted) c.no_memory.ensures.told c.tell-in-Err.ensures.told)
