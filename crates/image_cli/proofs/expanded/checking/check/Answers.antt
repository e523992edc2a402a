use Rattle.std.proofs.Common.{refl, sym, ap, subst, ◌∙◌, arith}
use Rattle.command_kit.specs.Causes.{SinksFail}
use Rattle.command_kit.specs.OnlyRead.{IsOnlyRead}
use Rattle.command_kit.specs.Told.{RunResult, memory_told}
use Rattle.command_kit.specs.Told.{IsTold}
use Rattle.command_kit.specs.View.{sink_view}
use Rattle.command_kit.proofs.Causes.{cause_since}
use Rattle.command_kit.proofs.OnlyRead.{read_on}
use Rattle.image_check.specs.Told.{Told}
use Rattle.image_cli.specs.Checks.{Checks, findings_told}
use Rattle.image_cli.specs.Printed.{printer_view}
use Rattle.image_cli.proofs.Causes.{cause_later, memory_cause}
use Rattle.image_cli.specs.Runs.{refused, no_memory}
use Rattle.image_cli.specs.ExpandedChecks.{ChecksAny}
use Rattle.image_cli.proofs.Running.{checks_since, index_at, opened_plain, opened_refused, opened_whole, plainly, same_faults, so_far, told_since, unpacks}
use Rattle.image_cli.proofs.expanded.checking.check.Goals as goal

pub check-requires-clause-none : goal.check-requires-clause-none
check-requires-clause-none g c =
    let content = g.D.Disk.content c.args.disk.now in
    let blocks = g.D.Disk.block_count c.args.disk.now in
    let before = g.D.Disk.faults c.args.disk.now in
    let then = g.D.Disk.faults c.open.new.disk in
    let old = printer_view g.O.Sink c.args.out.now in
    let mid = printer_view g.O.Sink c.open.new.report in
    let opens = opened_plain content blocks c.args.header before then old mid c.in-Ok-Plain.field-0 c.in-Ok-Plain.field-0-is c.in-Ok-Plain.ensures.opened in
    ap (λ (t : Told). t.count) opens.0 ∙ c.requires.none

pub check_expanded-over-requires-clause-none : goal.check_expanded-over-requires-clause-none
check_expanded-over-requires-clause-none g c =
    let content = g.D.Disk.content c.args.disk.now in
    let blocks = g.D.Disk.block_count c.args.disk.now in
    let before = g.D.Disk.faults c.args.disk.now in
    let then = g.D.Disk.faults c.open.new.disk in
    let old = printer_view g.O.Sink c.args.out.now in
    let mid = printer_view g.O.Sink c.open.new.report in
    let opens = opened_whole content blocks c.args.header before then old mid c.in-Ok-Whole.field-0 c.in-Ok-Whole.index c.in-Ok-Whole.field-0-is c.in-Ok-Whole.ensures.opened in
    ap (λ (t : Told). t.count) opens.0 ∙ c.requires.none

pub check-requires-clause-sound : goal.check-requires-clause-sound
check-requires-clause-sound g c =
    let content = g.D.Disk.content c.args.disk.now in
    let blocks = g.D.Disk.block_count c.args.disk.now in
    let before = g.D.Disk.faults c.args.disk.now in
    let then = g.D.Disk.faults c.open.new.disk in
    let old = printer_view g.O.Sink c.args.out.now in
    let mid = printer_view g.O.Sink c.open.new.report in
    let opens = opened_plain content blocks c.args.header before then old mid c.in-Ok-Plain.field-0 c.in-Ok-Plain.field-0-is c.in-Ok-Plain.ensures.opened in
    ap (λ (t : Told). t.failed) opens.0 ∙ c.requires.sound

pub check_expanded-over-requires-clause-sound : goal.check_expanded-over-requires-clause-sound
check_expanded-over-requires-clause-sound g c =
    let content = g.D.Disk.content c.args.disk.now in
    let blocks = g.D.Disk.block_count c.args.disk.now in
    let before = g.D.Disk.faults c.args.disk.now in
    let then = g.D.Disk.faults c.open.new.disk in
    let old = printer_view g.O.Sink c.args.out.now in
    let mid = printer_view g.O.Sink c.open.new.report in
    let opens = opened_whole content blocks c.args.header before then old mid c.in-Ok-Whole.field-0 c.in-Ok-Whole.index c.in-Ok-Whole.field-0-is c.in-Ok-Whole.ensures.opened in
    ap (λ (t : Told). t.failed) opens.0 ∙ c.requires.sound

pub check_expanded-over-requires-clause-indexed : goal.check_expanded-over-requires-clause-indexed
check_expanded-over-requires-clause-indexed g c =
    let content = g.D.Disk.content c.args.disk.now in
    let blocks = g.D.Disk.block_count c.args.disk.now in
    let before = g.D.Disk.faults c.args.disk.now in
    let then = g.D.Disk.faults c.open.new.disk in
    let old = printer_view g.O.Sink c.args.out.now in
    let mid = printer_view g.O.Sink c.open.new.report in
    let opens = opened_whole content blocks c.args.header before then old mid c.in-Ok-Whole.field-0 c.in-Ok-Whole.index c.in-Ok-Whole.field-0-is c.in-Ok-Whole.ensures.opened in
    index_at content (g.D.Disk.content c.open.new.disk) blocks (g.D.Disk.block_count c.open.new.disk) c.args.header c.in-Ok-Whole.index c.open.ensures.content c.open.ensures.blocks opens.1

pub returns-in-Ok-Plain-clause-outcome : goal.returns-in-Ok-Plain-clause-outcome
returns-in-Ok-Plain-clause-outcome g c =
    let content = g.D.Disk.content c.args.disk.now in
    let blocks = g.D.Disk.block_count c.args.disk.now in
    let before = g.D.Disk.faults c.args.disk.now in
    let then = g.D.Disk.faults c.open.new.disk in
    let old = printer_view g.O.Sink c.args.out.now in
    let mid = printer_view g.O.Sink c.open.new.report in
    let opens = opened_plain content blocks c.args.header before then old mid c.in-Ok-Plain.field-0 c.in-Ok-Plain.field-0-is c.in-Ok-Plain.ensures.opened in
    let first = sink_view g.O.Sink c.args.out.now.sink in
    let second = sink_view g.O.Sink c.open.new.report.sink in
    let note = sink_view g.N.Sink c.args.note.now in
    let last = sink_view g.O.Sink c.check.new.out.sink in
    let noted = sink_view g.N.Sink c.check.new.note in
    let status = c.check.result in
    plainly (λ c n h b f. Checks c n h b f status second last note noted) (λ c n h b f. Checks c n h b f status first last note noted)
    (λ found. IsTold (findings_told found) status first last note noted) (IsTold memory_told status first last note noted)
    content (g.D.Disk.content c.open.new.disk) blocks (g.D.Disk.block_count c.open.new.disk) c.args.header before then (g.D.Disk.faults c.check.new.disk)
    c.open.ensures.content c.open.ensures.blocks c.open.ensures.faults
    (checks_since status first second last note noted (ap (λ (t : Told). t.text) opens.0) (ap (λ (t : Told). t.faults) opens.0)) opens.1 c.check.ensures.outcome

pub returns-in-Ok-Plain-clause-cause : goal.returns-in-Ok-Plain-clause-cause
returns-in-Ok-Plain-clause-cause g c =
    let old = printer_view g.O.Sink c.args.out.now in
    let mid = printer_view g.O.Sink c.open.new.report in
    let opens = opened_plain (g.D.Disk.content c.args.disk.now) (g.D.Disk.block_count c.args.disk.now) c.args.header (g.D.Disk.faults c.args.disk.now) (g.D.Disk.faults c.open.new.disk) old mid c.in-Ok-Plain.field-0 c.in-Ok-Plain.field-0-is c.in-Ok-Plain.ensures.opened in
    let note = sink_view g.N.Sink c.args.note.now in
    cause_later c.check.result (sink_view g.O.Sink c.args.out.now.sink) (sink_view g.O.Sink c.open.new.report.sink) (sink_view g.O.Sink c.check.new.out.sink)
    note note (sink_view g.N.Sink c.check.new.note) (same_faults old mid opens.0) (omega arith) c.check.ensures.cause

pub returns-in-Ok-Plain-clause-disk : goal.returns-in-Ok-Plain-clause-disk
returns-in-Ok-Plain-clause-disk g c =
    read_on g.D.Disk c.args.disk.now c.open.new.disk c.check.new.disk
    (record { content = c.open.ensures.content; faults = c.open.ensures.faults; orders = c.open.ensures.orders; blocks = c.open.ensures.blocks }) c.check.ensures.disk

pub returns-in-Ok-Refused-clause-outcome : goal.returns-in-Ok-Refused-clause-outcome
returns-in-Ok-Refused-clause-outcome g c =
    let content = g.D.Disk.content c.args.disk.now in
    let blocks = g.D.Disk.block_count c.args.disk.now in
    let before = g.D.Disk.faults c.args.disk.now in
    let then = g.D.Disk.faults c.open.new.disk in
    let old = printer_view g.O.Sink c.args.out.now in
    let mid = printer_view g.O.Sink c.open.new.report in
    let opens = opened_refused content blocks c.args.header before then old mid c.in-Ok-Refused.field-0 c.in-Ok-Refused.field-0-is c.in-Ok-Refused.ensures.opened in
    let first = sink_view g.O.Sink c.args.out.now.sink in
    let second = sink_view g.O.Sink c.open.new.report.sink in
    let note = sink_view g.N.Sink c.args.note.now in
    refused opens.0 opens.1.1 (c.sum_up.ensures.told opens.0 first (so_far opens.0 first old mid refl refl c.requires.none c.requires.sound opens.1.0))

pub returns-in-Ok-Refused-clause-cause : goal.returns-in-Ok-Refused-clause-cause
returns-in-Ok-Refused-clause-cause g c =
    let old = printer_view g.O.Sink c.args.out.now in
    let mid = printer_view g.O.Sink c.open.new.report in
    let opens = opened_refused (g.D.Disk.content c.args.disk.now) (g.D.Disk.block_count c.args.disk.now) c.args.header (g.D.Disk.faults c.args.disk.now) (g.D.Disk.faults c.open.new.disk) old mid c.in-Ok-Refused.field-0 c.in-Ok-Refused.field-0-is c.in-Ok-Refused.ensures.opened in
    let first = sink_view g.O.Sink c.args.out.now.sink in
    let last = sink_view g.O.Sink c.sum_up.new.out.sink in
    let note = sink_view g.N.Sink c.args.note.now in
    let noted = sink_view g.N.Sink c.sum_up.new.note in
    cause_since {longer = SinksFail first last note noted} c.sum_up.result (λ fails. fails opens.0 first (so_far opens.0 first old mid refl refl c.requires.none c.requires.sound opens.1.0)) (λ (never : ⊥). never) c.sum_up.ensures.cause

pub returns-in-Ok-Whole-clause-outcome : goal.returns-in-Ok-Whole-clause-outcome
returns-in-Ok-Whole-clause-outcome g c =
    let content = g.D.Disk.content c.args.disk.now in
    let blocks = g.D.Disk.block_count c.args.disk.now in
    let before = g.D.Disk.faults c.args.disk.now in
    let then = g.D.Disk.faults c.open.new.disk in
    let old = printer_view g.O.Sink c.args.out.now in
    let mid = printer_view g.O.Sink c.open.new.report in
    let opens = opened_whole content blocks c.args.header before then old mid c.in-Ok-Whole.field-0 c.in-Ok-Whole.index c.in-Ok-Whole.field-0-is c.in-Ok-Whole.ensures.opened in
    let first = sink_view g.O.Sink c.args.out.now.sink in
    let second = sink_view g.O.Sink c.open.new.report.sink in
    let note = sink_view g.N.Sink c.args.note.now in
    let last = sink_view g.O.Sink c.check_expanded-over.new.out.sink in
    let noted = sink_view g.N.Sink c.check_expanded-over.new.note in
    let status = c.check_expanded-over.result.1 in
    let taken = ap (λ (t : Told). t.text) opens.0 in
    let faults = ap (λ (t : Told). t.faults) opens.0 in
    let given = c.disk-1.given.1 (sym c.check_expanded-over.ensures.same.which) in
    subst (λ d. ChecksAny content blocks c.args.header before (g.D.Disk.faults d) status first last note noted) (sym given)
    (unpacks (λ c n h b f. Checks c n h b f status second last note noted) (λ c n h b f. Checks c n h b f status first last note noted)
    (λ found. IsTold (findings_told found) status first last note noted) (IsTold memory_told status second last note noted) (IsTold memory_told status first last note noted)
    content (g.D.Disk.content c.open.new.disk) blocks c.args.header before then (g.D.Disk.faults c.check_expanded-over.result.0.disk.now) c.in-Ok-Whole.index
    c.open.ensures.content c.open.ensures.faults
    (checks_since status first second last note noted taken faults) (told_since memory_told status first second last note noted taken faults) opens.1 c.check_expanded-over.ensures.outcome)

pub returns-in-Ok-Whole-clause-cause : goal.returns-in-Ok-Whole-clause-cause
returns-in-Ok-Whole-clause-cause g c =
    let old = printer_view g.O.Sink c.args.out.now in
    let mid = printer_view g.O.Sink c.open.new.report in
    let opens = opened_whole (g.D.Disk.content c.args.disk.now) (g.D.Disk.block_count c.args.disk.now) c.args.header (g.D.Disk.faults c.args.disk.now) (g.D.Disk.faults c.open.new.disk) old mid c.in-Ok-Whole.field-0 c.in-Ok-Whole.index c.in-Ok-Whole.field-0-is c.in-Ok-Whole.ensures.opened in
    let note = sink_view g.N.Sink c.args.note.now in
    cause_later c.check_expanded-over.result.1 (sink_view g.O.Sink c.args.out.now.sink) (sink_view g.O.Sink c.open.new.report.sink) (sink_view g.O.Sink c.check_expanded-over.new.out.sink)
    note note (sink_view g.N.Sink c.check_expanded-over.new.note) (same_faults old mid opens.0) (omega arith) c.check_expanded-over.ensures.cause

pub returns-in-Ok-Whole-clause-disk : goal.returns-in-Ok-Whole-clause-disk
returns-in-Ok-Whole-clause-disk g c =
    let same = c.check_expanded-over.ensures.same in
    let there = c.check_expanded-over.result.0.disk.now in
    let given = c.disk-1.given.1 (sym same.which) in
    subst (λ d. IsOnlyRead g.D.Disk c.args.disk.now d) (sym given)
    (read_on g.D.Disk c.args.disk.now c.open.new.disk there
    (record { content = c.open.ensures.content; faults = c.open.ensures.faults; orders = c.open.ensures.orders; blocks = c.open.ensures.blocks })
    (record { content = same.content; faults = c.check_expanded-over.ensures.faults; orders = same.orders; blocks = same.blocks }))

pub returns-in-Err-clause-outcome : goal.returns-in-Err-clause-outcome
returns-in-Err-clause-outcome g c =
    let first = sink_view g.O.Sink c.args.out.now.sink in
    let second = sink_view g.O.Sink c.open.new.report.sink in
    let last = sink_view g.O.Sink c.tell.new.out in
    let note = sink_view g.N.Sink c.args.note.now in
    let noted = sink_view g.N.Sink c.tell.new.note in
    let untold = c.in-Err.ensures.untold in
    no_memory (told_since memory_told c.tell.result first second last note noted (ap (λ (t : Told). t.text) untold) (ap (λ (t : Told). t.faults) untold)
    (subst (λ (r : RunResult). IsTold r c.tell.result second last note noted) c.no_memory.ensures.told c.tell.ensures.told))

pub returns-in-Err-clause-cause : goal.returns-in-Err-clause-cause
returns-in-Err-clause-cause g c =
    let note = sink_view g.N.Sink c.args.note.now in
    cause_later c.tell.result (sink_view g.O.Sink c.args.out.now.sink) (sink_view g.O.Sink c.open.new.report.sink) (sink_view g.O.Sink c.tell.new.out)
    note note (sink_view g.N.Sink c.tell.new.note) (same_faults (printer_view g.O.Sink c.args.out.now) (printer_view g.O.Sink c.open.new.report) c.in-Err.ensures.untold) (omega arith)
    (memory_cause c.no_memory.result.status c.tell.result c.no_memory.ensures.status c.tell.ensures.stream c.tell.ensures.status)
