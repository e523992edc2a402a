use Rattle.std.proofs.Common.{◌≡◌, ℕ, List, [], Option, None, append-nil, sym, Err, ap, subst, inl, inr}
use Rattle.definitions.specs.Streams.{TakesAll, TakesFront}
use Rattle.byte_streams.proofs.Taken.{TakesAll-none}
use Rattle.command_kit.specs.Told.{RunResult}
use Rattle.command_kit.specs.Told.{IsTold}
use Rattle.command_kit.specs.View.{sink_view}
use Rattle.command_kit.specs.declared.status.Status.{Status}
use Rattle.image_show.specs.Forms.{Written}
use Rattle.image_show.specs.Texts.{text_of}
use Rattle.image_cli.specs.Shows.{status_shown}
use Rattle.image_cli.proofs.Causes.{stream_blames}
use Rattle.image_cli.proofs.Shown.{lines_are, only_risen}
use Rattle.image_cli.proofs.Summing.{told_after}
use Rattle.image_cli.proofs.showing.show.Goals as goal

abbrev ends_with : Status → List ℕ → RunResult
ends_with status text = record { status = status; out = text; note = [] }

pub returns-in-Ok-clause-outcome : goal.returns-in-Ok-clause-outcome
returns-in-Ok-clause-outcome g c =
    let old = sink_view g.O.Sink c.args.out.now in
    let mid = sink_view g.O.Sink c.show.new.form in
    let new = sink_view g.O.Sink c.tell.new.out in
    let note = sink_view g.N.Sink c.args.note.now in
    let noted = sink_view g.N.Sink c.tell.new.note in
    let shown = c.in-Ok.ensures.shown in
    let text = text_of shown.0 in
    let takes : TakesAll text old.taken mid.taken = subst (λ (t : List ℕ). TakesAll t old.taken mid.taken) (lines_are None shown.0) shown.1.1.text in
    let told = told_after text (ends_with c.status_shown.result []) c.tell.result old mid new note noted takes c.in-Ok.ensures.counted c.tell.ensures.told in
    let whole : IsTold (ends_with c.status_shown.result text) c.tell.result old new note noted =
    subst (λ (t : List ℕ). IsTold (ends_with c.status_shown.result t) c.tell.result old new note noted) (append-nil text) told in
    let is : IsTold (ends_with (status_shown c.in-Ok.shown) text) c.tell.result old new note noted =
    subst (λ (s : Status). IsTold (ends_with s text) c.tell.result old new note noted) c.status_shown.ensures.status whole in
    inr (inl (shown.0, (c.in-Ok.shown, (shown.1.0, is))))

pub returns-in-Err-NoMemory-clause-outcome : goal.returns-in-Err-NoMemory-clause-outcome
returns-in-Err-NoMemory-clause-outcome g c =
    let old = sink_view g.O.Sink c.args.out.now in
    let mid = sink_view g.O.Sink c.show.new.form in
    let new = sink_view g.O.Sink c.tell-in-Err-NoMemory.new.out in
    let note = sink_view g.N.Sink c.args.note.now in
    let noted = sink_view g.N.Sink c.tell-in-Err-NoMemory.new.note in
    let same : mid.taken ≡ old.taken = ap (λ (w : Written). w.taken) (c.in-Err-NoMemory.ensures.memory (ap Err c.in-Err-NoMemory.field-0-is)) in
    let none : TakesAll [] old.taken mid.taken = subst (λ (x : Option (List ℕ)). TakesAll [] old.taken x) (sym same) (TakesAll-none old.taken) in
    let told = subst (λ (r : RunResult). IsTold r c.tell-in-Err-NoMemory.result mid new note noted) c.no_memory.ensures.told c.tell-in-Err-NoMemory.ensures.told in
    inl (told_after [] _ c.tell-in-Err-NoMemory.result old mid new note noted none c.in-Err-NoMemory.ensures.counted told)

pub returns-in-Err-Write-clause-outcome : goal.returns-in-Err-Write-clause-outcome
returns-in-Err-Write-clause-outcome g c =
    let taken = g.O.Sink.taken in
    let old = taken c.args.out.now in
    let mid = taken c.show.new.form in
    let why = ap Err c.in-Err-Write.field-0-is in
    let shown = c.in-Err-Write.ensures.front why in
    let front : TakesFront (text_of shown.0) old mid = subst (λ (t : List ℕ). TakesFront t old mid) (lines_are None shown.0) shown.1.1 in
    inr (inr (
      shown.0,
      (
        shown.1.0,
        record {
          status_is = c.cut_short.ensures.status;
          front = record { front = front; risen = only_risen (g.O.Sink.faults c.args.out.now) (g.O.Sink.faults c.show.new.form) (c.in-Err-Write.ensures.cause why) };
          noted = c.cut_short.ensures.noted;
        },
      ),
    ))

pub returns-in-Err-Write-clause-cause : goal.returns-in-Err-Write-clause-cause
returns-in-Err-Write-clause-cause g c =
    stream_blames c.cut_short.result c.cut_short.ensures.status
    (inl (only_risen (g.O.Sink.faults c.args.out.now) (g.O.Sink.faults c.show.new.form) (c.in-Err-Write.ensures.cause (ap Err c.in-Err-Write.field-0-is))))
