use Rattle.std.proofs.Common.{◌≡◌, ◌⊎◌, ℕ, List, [], true, false, length, min, zero-add, ap, subst, ◌∙◌, inl, inr, arith}
use Rattle.definitions.specs.Disk.{HasRisen, last_count}
use Rattle.command_kit.specs.Told.{RunResult}
use Rattle.command_kit.specs.AnswerOf.{told_by}
use Rattle.command_kit.specs.Told.{IsTold}
use Rattle.command_kit.specs.Causes.{SinksFail}
use Rattle.command_kit.specs.View.{sink_view}
use Rattle.image_check.specs.Lines.{lines_of}
use Rattle.image_check.specs.declared.finding.Finding.{Finding}
use Rattle.image_cli.specs.Checks.{last_line, status_of}
use Rattle.command_kit.proofs.Causes.{cause_since}
use Rattle.image_cli.proofs.Causes.{sinks_later, stream_blames, told_cause}
use Rattle.image_cli.proofs.Summing.{told_after, told_failed}
use Rattle.image_cli.proofs.checking.sum_up.Goals as goal

abbrev summary_told : List Finding → RunResult
summary_told found = record { status = status_of found; out = last_line found; note = [] }

at_start : (before now : ℕ) → (false ≡ true) ⊎ HasRisen before now → HasRisen before now
at_start before now (inl e) = cc
at_start before now (inr risen) = risen

pub returns-then-out : goal.returns-then-out
returns-then-out g c =
    let now = sink_view g.O.Sink c.args.out.now.sink in
    record {
      told = λ found start so.
          told_failed (lines_of found) (summary_told found) c.cut_short.result start now (sink_view g.N.Sink c.args.note.now) (sink_view g.N.Sink c.cut_short.new.note)
          so.front (at_start start.faults now.faults (so.cause c.if-out.true)) c.cut_short.ensures.noted c.cut_short.ensures.status;
      cause = stream_blames c.cut_short.result c.cut_short.ensures.status (λ found start so. inl (at_start start.faults now.faults (so.cause c.if-out.true)));
    }

pub returns : goal.returns
returns g c =
    let mid = sink_view g.O.Sink c.args.out.now.sink in
    let now = sink_view g.O.Sink c.tell.new.out in
    let note = sink_view g.N.Sink c.args.note.now in
    let noted = sink_view g.N.Sink c.tell.new.note in
    record {
      told = λ found start so.
          let count = so.count (omega arith) ∙ ap (λ (n : ℕ). min n last_count) (zero-add (length found)) in
          let is : told_by c.summary.result ≡ summary_told found = c.summary.ensures.told found count in
          told_after (lines_of found) (summary_told found) c.tell.result start mid now note noted (so.whole c.if-out.false).1 so.faults
          (subst (λ (r : RunResult). IsTold r c.tell.result mid now note noted) is c.tell.ensures.told);
      cause = cause_since c.tell.result
          (λ (fails : SinksFail mid now note noted) found start so. sinks_later start mid now note note noted so.faults (omega arith) fails) (λ (never : ⊥). never)
          (told_cause c.summary.result.status c.tell.result c.summary.ensures.cause c.tell.ensures.stream c.tell.ensures.status);
    }
