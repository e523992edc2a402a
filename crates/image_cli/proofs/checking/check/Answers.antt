use Rattle.std.proofs.Common.{◌≡◌, ℕ, List, Bool, false, Option, Some, None, refl, ap₂, subst, ◌∙◌, inl, inr}
use Rattle.command_kit.specs.Told.{memory_told, RunResult}
use Rattle.command_kit.specs.Told.{IsTold}
use Rattle.command_kit.specs.Causes.{SinksFail}
use Rattle.command_kit.specs.View.{SinkView, sink_view}
use Rattle.command_kit.proofs.Causes.{cause_since}
use Rattle.image_check.specs.Checked.{Finds}
use Rattle.image_check.specs.Told.{Told, Tells}
use Rattle.image_check.specs.declared.finding.Finding.{Finding}
use Rattle.image_cli.specs.Checks.{no_image_told}
use Rattle.image_cli.specs.Printed.{IsSoFar, printer_view}
use Rattle.image_cli.proofs.Summing.{told_alone, none_found, all_found}
use Rattle.image_cli.proofs.checking.check.Goals as goal

-- a printer that was told of nothing
fresh : (found : List Finding) (start : SinkView) (old new : Told) → old.text ≡ start.taken → old.faults ≡ start.faults → old.count ≡ 0 → old.failed ≡ false → Tells found old new → IsSoFar found start new
fresh found start old new text faults count failed h =
    let same : old ≡ record { text = start.taken; count = 0; failed = false; faults = start.faults } =
    ap₂ (λ (t : Option (List ℕ)) (f : ℕ). record { text = t; count = old.count; failed = old.failed; faults = f }) text faults
    ∙ ap₂ (λ (n : ℕ) (b : Bool). record { text = start.taken; count = n; failed = b; faults = start.faults }) count failed in
    subst (λ (t : Told). Tells found t new) same h

pub returns-in-Ok-NoImage-clause-outcome : goal.returns-in-Ok-NoImage-clause-outcome
returns-in-Ok-NoImage-clause-outcome g c =
    let old = printer_view g.O.Sink c.args.out.now in
    let mid = printer_view g.O.Sink c.check.new.report in
    let content = g.D.Disk.content c.args.disk.now in
    let blocks = g.D.Disk.block_count c.args.disk.now in
    let before = g.D.Disk.faults c.args.disk.now in
    let now = g.D.Disk.faults c.check.new.disk in
    let all = c.in-Ok-NoImage.ensures.checked in
    let none = none_found all.0 old mid c.in-Ok-NoImage.field-0 c.in-Ok-NoImage.field-0-is all.1.1 in
    inr (
      None,
      (
        subst (λ (x : Option (List Finding)). Finds content blocks c.args.header before now x) none.0 all.1.0,
        told_alone no_image_told c.tell.result old mid (sink_view g.O.Sink c.args.out.now.sink) (sink_view g.O.Sink c.check.new.report.sink)
            (sink_view g.O.Sink c.tell.new.out) (sink_view g.N.Sink c.args.note.now) (sink_view g.N.Sink c.tell.new.note)
            none.1 refl refl refl refl c.tell.ensures.told,
      ),
    )

pub returns-in-Ok-Checked-clause-outcome : goal.returns-in-Ok-Checked-clause-outcome
returns-in-Ok-Checked-clause-outcome g c =
    let old = printer_view g.O.Sink c.args.out.now in
    let mid = printer_view g.O.Sink c.check.new.report in
    let start = sink_view g.O.Sink c.args.out.now.sink in
    let content = g.D.Disk.content c.args.disk.now in
    let blocks = g.D.Disk.block_count c.args.disk.now in
    let before = g.D.Disk.faults c.args.disk.now in
    let now = g.D.Disk.faults c.check.new.disk in
    let all = c.in-Ok-Checked.ensures.checked in
    let found = all_found all.0 old mid c.in-Ok-Checked.field-0 c.in-Ok-Checked.field-0-is all.1.1 in
    inr (
      Some found.0,
      (
        subst (λ (x : Option (List Finding)). Finds content blocks c.args.header before now x) found.1.0 all.1.0,
        c.sum_up.ensures.told found.0 start (fresh found.0 start old mid refl refl c.requires.none c.requires.sound found.1.1),
      ),
    )

pub returns-in-Ok-Checked-clause-cause : goal.returns-in-Ok-Checked-clause-cause
returns-in-Ok-Checked-clause-cause g c =
    let old = printer_view g.O.Sink c.args.out.now in
    let mid = printer_view g.O.Sink c.check.new.report in
    let start = sink_view g.O.Sink c.args.out.now.sink in
    let all = c.in-Ok-Checked.ensures.checked in
    let found = all_found all.0 old mid c.in-Ok-Checked.field-0 c.in-Ok-Checked.field-0-is all.1.1 in
    let last = sink_view g.O.Sink c.sum_up.new.out.sink in
    let note = sink_view g.N.Sink c.args.note.now in
    let noted = sink_view g.N.Sink c.sum_up.new.note in
    cause_since {longer = SinksFail start last note noted} c.sum_up.result (λ fails. fails found.0 start (fresh found.0 start old mid refl refl c.requires.none c.requires.sound found.1.1)) (λ (never : ⊥). never) c.sum_up.ensures.cause

pub returns-in-Err-clause-outcome : goal.returns-in-Err-clause-outcome
returns-in-Err-clause-outcome g c =
    inl (told_alone memory_told c.tell-in-Err.result (printer_view g.O.Sink c.args.out.now) (printer_view g.O.Sink c.check.new.report)
    (sink_view g.O.Sink c.args.out.now.sink) (sink_view g.O.Sink c.check.new.report.sink) (sink_view g.O.Sink c.tell-in-Err.new.out)
    (sink_view g.N.Sink c.args.note.now) (sink_view g.N.Sink c.tell-in-Err.new.note) c.in-Err.ensures.refused refl refl refl refl
    (subst (λ (r : RunResult). IsTold r c.tell-in-Err.result (sink_view g.O.Sink c.check.new.report.sink) (sink_view g.O.Sink c.tell-in-Err.new.out)
    (sink_view g.N.Sink c.args.note.now) (sink_view g.N.Sink c.tell-in-Err.new.note)) c.no_memory.ensures.told c.tell-in-Err.ensures.told))
