use Rattle.std.proofs.Common.{[], subst, inl, inr}
use Rattle.command_kit.specs.Told.{RunResult}
use Rattle.command_kit.specs.Told.{IsTold}
use Rattle.command_kit.specs.View.{sink_view}
use Rattle.image_differ.specs.Lines.{lines_of}
use Rattle.image_differ.specs.Sides.{side_view}
use Rattle.image_cli.specs.Differing.{Finishes}
use Rattle.image_cli.specs.Differs.{has_findings, refused_note}
use Rattle.image_cli.specs.declared.differing.Ended.TheVariants as ended
use Rattle.image_cli.proofs.Summing.{told_after}
use Rattle.image_cli.proofs.Telling.{told_lines}
use Rattle.image_cli.proofs.differing.compare.Goals as goal

pub returns-in-Ok-Same-clause-outcome : goal.returns-in-Ok-Same-clause-outcome
returns-in-Ok-Same-clause-outcome g c =
    let a = side_view g.D.Disk g.R.Report c.args.first.now in
    let a' = side_view g.D.Disk g.R.Report c.tell_differences.new.first in
    let b = side_view g.E.Disk g.Q.Report c.args.second.now in
    let b' = side_view g.E.Disk g.Q.Report c.tell_differences.new.second in
    let old = sink_view g.O.Sink c.args.out.now in
    let mid = sink_view g.O.Sink c.tell_differences.new.out in
    let finished = subst (Finishes c.args.first_only a a' b b' old.taken mid.taken) c.in-Ok-Same.field-0-is (c.in-Ok-Same.ensures.ends) in
    inl (
      finished.0,
      (
        ended.Same,
        (
          finished.1.0,
          told_after (lines_of finished.0) _ c.tell.result old mid (sink_view g.O.Sink c.tell.new.out) (sink_view g.N.Sink c.args.note.now) (sink_view g.N.Sink c.tell.new.note) finished.1.1 c.tell_differences.ensures.counted c.tell.ensures.told,
        ),
      ),
    )

pub returns-in-Ok-Different-clause-outcome : goal.returns-in-Ok-Different-clause-outcome
returns-in-Ok-Different-clause-outcome g c =
    let a = side_view g.D.Disk g.R.Report c.args.first.now in
    let a' = side_view g.D.Disk g.R.Report c.tell_differences.new.first in
    let b = side_view g.E.Disk g.Q.Report c.args.second.now in
    let b' = side_view g.E.Disk g.Q.Report c.tell_differences.new.second in
    let old = sink_view g.O.Sink c.args.out.now in
    let mid = sink_view g.O.Sink c.tell_differences.new.out in
    let finished = subst (Finishes c.args.first_only a a' b b' old.taken mid.taken) c.in-Ok-Different.field-0-is (c.in-Ok-Different.ensures.ends) in
    inl (
      finished.0,
      (
        ended.Different,
        (
          finished.1.0,
          told_lines finished.0 [] c.tell-in-Ok-Different.result old mid (sink_view g.O.Sink c.tell-in-Ok-Different.new.out) (sink_view g.N.Sink c.args.note.now) (sink_view g.N.Sink c.tell-in-Ok-Different.new.note) finished.1.1 c.tell_differences.ensures.counted c.tell-in-Ok-Different.ensures.told,
        ),
      ),
    )

pub returns-in-Ok-Refused-clause-outcome : goal.returns-in-Ok-Refused-clause-outcome
returns-in-Ok-Refused-clause-outcome g c =
    let a = side_view g.D.Disk g.R.Report c.args.first.now in
    let a' = side_view g.D.Disk g.R.Report c.tell_differences.new.first in
    let b = side_view g.E.Disk g.Q.Report c.args.second.now in
    let b' = side_view g.E.Disk g.Q.Report c.tell_differences.new.second in
    let old = sink_view g.O.Sink c.args.out.now in
    let mid = sink_view g.O.Sink c.tell_differences.new.out in
    let new = sink_view g.O.Sink c.tell-in-Ok-Refused.new.out in
    let note = sink_view g.N.Sink c.args.note.now in
    let noted = sink_view g.N.Sink c.tell-in-Ok-Refused.new.note in
    let which = c.in-Ok-Refused.which in
    let finished = subst (Finishes c.args.first_only a a' b b' old.taken mid.taken) c.in-Ok-Refused.field-0-is (c.in-Ok-Refused.ensures.ends) in
    let told = subst (λ (r : RunResult). IsTold r c.tell-in-Ok-Refused.result mid new note noted) c.has_findings.ensures.told c.tell-in-Ok-Refused.ensures.told in
    inl (
      finished.0,
      (
        ended.Refused which,
        (
          finished.1.0,
          told_lines finished.0 (refused_note which has_findings) c.tell-in-Ok-Refused.result old mid new note noted finished.1.1 c.tell_differences.ensures.counted told,
        ),
      ),
    )

pub returns-in-Err-clause-outcome : goal.returns-in-Err-clause-outcome
returns-in-Err-clause-outcome g c =
    let failed = c.in-Err.ensures.fails in
    inr (
      failed.0,
      (
        failed.1.0,
        failed.1.1,
        record {
          status_is = c.cut_short.ensures.status;
          front = record { front = failed.1.2; risen = c.in-Err.ensures.cause };
          noted = c.cut_short.ensures.noted;
        },
      ),
    )
