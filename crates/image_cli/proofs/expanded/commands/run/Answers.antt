use Rattle.std.proofs.Common.{refl, sym, ap, subst, arith}
use Rattle.command_kit.specs.OnlyRead.{IsOnlyRead}
use Rattle.command_kit.specs.Told.{RunResult}
use Rattle.command_kit.specs.Told.{IsTold}
use Rattle.command_kit.specs.View.{sink_view}
use Rattle.command_kit.proofs.OnlyRead.{read_on}
use Rattle.image_check.specs.Told.{Told}
use Rattle.image_cli.specs.Printed.{printer_view}
use Rattle.image_cli.proofs.Causes.{cause_later, memory_cause, refused_cause}
use Rattle.image_cli.specs.Runs.{refused, no_memory}
use Rattle.image_cli.specs.ExpandedStreams.{NotesAny, NotesFindings, NotesMemory}
use Rattle.image_cli.proofs.Running.{does_since, index_at, memory_since, opened_plain, opened_refused, opened_whole, plainly, same_faults, unpacks}
use Rattle.image_cli.proofs.expanded.commands.run.Goals as goal

pub run_expanded-over-requires-clause-indexed : goal.run_expanded-over-requires-clause-indexed
run_expanded-over-requires-clause-indexed g c =
    let content = g.D.Disk.content c.args.disk.now in
    let blocks = g.D.Disk.block_count c.args.disk.now in
    let before = g.D.Disk.faults c.args.disk.now in
    let then = g.D.Disk.faults c.open.new.disk in
    let old = printer_view g.N.Sink c.args.note.now in
    let mid = printer_view g.N.Sink c.open.new.report in
    let opens = opened_whole content blocks c.args.header before then old mid c.in-Ok-Whole.field-0 c.in-Ok-Whole.index c.in-Ok-Whole.field-0-is c.in-Ok-Whole.ensures.opened in
    index_at content (g.D.Disk.content c.open.new.disk) blocks (g.D.Disk.block_count c.open.new.disk) c.args.header c.in-Ok-Whole.index c.open.ensures.content c.open.ensures.blocks opens.1

-- the image isn't compressed

pub returns-in-Ok-Plain-clause-outcome : goal.returns-in-Ok-Plain-clause-outcome
returns-in-Ok-Plain-clause-outcome g c =
    let does = g.C.Command.does c.args.command.now in
    let content = g.D.Disk.content c.args.disk.now in
    let blocks = g.D.Disk.block_count c.args.disk.now in
    let before = g.D.Disk.faults c.args.disk.now in
    let then = g.D.Disk.faults c.open.new.disk in
    let old = printer_view g.N.Sink c.args.note.now in
    let mid = printer_view g.N.Sink c.open.new.report in
    let opens = opened_plain content blocks c.args.header before then old mid c.in-Ok-Plain.field-0 c.in-Ok-Plain.field-0-is c.in-Ok-Plain.ensures.opened in
    let out = sink_view g.O.Sink c.args.out.now in
    let last = sink_view g.O.Sink c.run.new.out in
    let noted = sink_view g.N.Sink c.run.new.note.sink in
    let status = c.run.result in
    plainly (λ c n h b f. does c n h b f mid status out last noted) (λ c n h b f. does c n h b f old status out last noted)
    (λ found. NotesFindings found old status out last noted) (NotesMemory old status out last noted)
    content (g.D.Disk.content c.open.new.disk) blocks (g.D.Disk.block_count c.open.new.disk) c.args.header before then (g.D.Disk.faults c.run.new.disk)
    c.open.ensures.content c.open.ensures.blocks c.open.ensures.faults
    (does_since does old mid status out last noted opens.0) opens.1 c.run.ensures.outcome

pub returns-in-Ok-Plain-clause-cause : goal.returns-in-Ok-Plain-clause-cause
returns-in-Ok-Plain-clause-cause g c =
    let old = printer_view g.N.Sink c.args.note.now in
    let mid = printer_view g.N.Sink c.open.new.report in
    let opens = opened_plain (g.D.Disk.content c.args.disk.now) (g.D.Disk.block_count c.args.disk.now) c.args.header (g.D.Disk.faults c.args.disk.now) (g.D.Disk.faults c.open.new.disk) old mid c.in-Ok-Plain.field-0 c.in-Ok-Plain.field-0-is c.in-Ok-Plain.ensures.opened in
    let out = sink_view g.O.Sink c.args.out.now in
    cause_later c.run.result out out (sink_view g.O.Sink c.run.new.out)
    (sink_view g.N.Sink c.args.note.now.sink) (sink_view g.N.Sink c.open.new.report.sink) (sink_view g.N.Sink c.run.new.note.sink)
    (omega arith) (same_faults old mid opens.0) c.run.ensures.cause

pub returns-in-Ok-Plain-clause-disk : goal.returns-in-Ok-Plain-clause-disk
returns-in-Ok-Plain-clause-disk g c =
    read_on g.D.Disk c.args.disk.now c.open.new.disk c.run.new.disk
    (record { content = c.open.ensures.content; faults = c.open.ensures.faults; orders = c.open.ensures.orders; blocks = c.open.ensures.blocks }) c.run.ensures.disk

-- something is wrong with it

pub returns-in-Ok-Refused-clause-outcome : goal.returns-in-Ok-Refused-clause-outcome
returns-in-Ok-Refused-clause-outcome g c =
    let content = g.D.Disk.content c.args.disk.now in
    let blocks = g.D.Disk.block_count c.args.disk.now in
    let before = g.D.Disk.faults c.args.disk.now in
    let then = g.D.Disk.faults c.open.new.disk in
    let old = printer_view g.N.Sink c.args.note.now in
    let mid = printer_view g.N.Sink c.open.new.report in
    let opens = opened_refused content blocks c.args.header before then old mid c.in-Ok-Refused.field-0 c.in-Ok-Refused.field-0-is c.in-Ok-Refused.ensures.opened in
    let out = sink_view g.O.Sink c.args.out.now in
    let last = sink_view g.O.Sink c.tell.new.out in
    let second = sink_view g.N.Sink c.open.new.report.sink in
    let noted = sink_view g.N.Sink c.tell.new.note in
    refused opens.0 opens.1.1 (record {
      after = mid;
      noted = second;
      tells = opens.1.0;
      is_noted = record { text = refl; faults = refl };
      ends = subst (λ (r : RunResult). IsTold r c.tell.result out last second noted) c.refused.ensures.told c.tell.ensures.told;
    })

pub returns-in-Ok-Refused-clause-cause : goal.returns-in-Ok-Refused-clause-cause
returns-in-Ok-Refused-clause-cause g c =
    let old = printer_view g.N.Sink c.args.note.now in
    let mid = printer_view g.N.Sink c.open.new.report in
    let opens = opened_refused (g.D.Disk.content c.args.disk.now) (g.D.Disk.block_count c.args.disk.now) c.args.header (g.D.Disk.faults c.args.disk.now) (g.D.Disk.faults c.open.new.disk) old mid c.in-Ok-Refused.field-0 c.in-Ok-Refused.field-0-is c.in-Ok-Refused.ensures.opened in
    let out = sink_view g.O.Sink c.args.out.now in
    cause_later c.tell.result out out (sink_view g.O.Sink c.tell.new.out)
    (sink_view g.N.Sink c.args.note.now.sink) (sink_view g.N.Sink c.open.new.report.sink) (sink_view g.N.Sink c.tell.new.note)
    (omega arith) opens.1.0.faults
    (refused_cause c.refused.result.status c.tell.result c.refused.ensures.status c.tell.ensures.stream c.tell.ensures.status)

-- it is compressed and whole

pub returns-in-Ok-Whole-clause-outcome : goal.returns-in-Ok-Whole-clause-outcome
returns-in-Ok-Whole-clause-outcome g c =
    let does = g.C.Command.does c.args.command.now in
    let content = g.D.Disk.content c.args.disk.now in
    let blocks = g.D.Disk.block_count c.args.disk.now in
    let before = g.D.Disk.faults c.args.disk.now in
    let then = g.D.Disk.faults c.open.new.disk in
    let old = printer_view g.N.Sink c.args.note.now in
    let mid = printer_view g.N.Sink c.open.new.report in
    let opens = opened_whole content blocks c.args.header before then old mid c.in-Ok-Whole.field-0 c.in-Ok-Whole.index c.in-Ok-Whole.field-0-is c.in-Ok-Whole.ensures.opened in
    let out = sink_view g.O.Sink c.args.out.now in
    let last = sink_view g.O.Sink c.run_expanded-over.new.out in
    let noted = sink_view g.N.Sink c.run_expanded-over.new.note.sink in
    let status = c.run_expanded-over.result.1 in
    let given = c.disk-1.given.1 (sym c.run_expanded-over.ensures.same.which) in
    subst (λ d. NotesAny does content blocks c.args.header before (g.D.Disk.faults d) old status out last noted) (sym given)
    (unpacks (λ c n h b f. does c n h b f mid status out last noted) (λ c n h b f. does c n h b f old status out last noted)
    (λ found. NotesFindings found old status out last noted) (NotesMemory mid status out last noted) (NotesMemory old status out last noted)
    content (g.D.Disk.content c.open.new.disk) blocks c.args.header before then (g.D.Disk.faults c.run_expanded-over.result.0.disk.now) c.in-Ok-Whole.index
    c.open.ensures.content c.open.ensures.faults
    (does_since does old mid status out last noted opens.0) (memory_since old mid status out last noted opens.0) opens.1 c.run_expanded-over.ensures.outcome)

pub returns-in-Ok-Whole-clause-cause : goal.returns-in-Ok-Whole-clause-cause
returns-in-Ok-Whole-clause-cause g c =
    let old = printer_view g.N.Sink c.args.note.now in
    let mid = printer_view g.N.Sink c.open.new.report in
    let opens = opened_whole (g.D.Disk.content c.args.disk.now) (g.D.Disk.block_count c.args.disk.now) c.args.header (g.D.Disk.faults c.args.disk.now) (g.D.Disk.faults c.open.new.disk) old mid c.in-Ok-Whole.field-0 c.in-Ok-Whole.index c.in-Ok-Whole.field-0-is c.in-Ok-Whole.ensures.opened in
    let out = sink_view g.O.Sink c.args.out.now in
    cause_later c.run_expanded-over.result.1 out out (sink_view g.O.Sink c.run_expanded-over.new.out)
    (sink_view g.N.Sink c.args.note.now.sink) (sink_view g.N.Sink c.open.new.report.sink) (sink_view g.N.Sink c.run_expanded-over.new.note.sink)
    (omega arith) (same_faults old mid opens.0) c.run_expanded-over.ensures.cause

pub returns-in-Ok-Whole-clause-disk : goal.returns-in-Ok-Whole-clause-disk
returns-in-Ok-Whole-clause-disk g c =
    let same = c.run_expanded-over.ensures.same in
    let there = c.run_expanded-over.result.0.disk.now in
    let given = c.disk-1.given.1 (sym same.which) in
    subst (λ d. IsOnlyRead g.D.Disk c.args.disk.now d) (sym given)
    (read_on g.D.Disk c.args.disk.now c.open.new.disk there
    (record { content = c.open.ensures.content; faults = c.open.ensures.faults; orders = c.open.ensures.orders; blocks = c.open.ensures.blocks })
    (record { content = same.content; faults = c.run_expanded-over.ensures.faults; orders = same.orders; blocks = same.blocks }))

-- memory was refused

pub returns-in-Err-clause-outcome : goal.returns-in-Err-clause-outcome
returns-in-Err-clause-outcome g c =
    let untold = c.in-Err.ensures.untold in
    let out = sink_view g.O.Sink c.args.out.now in
    let last = sink_view g.O.Sink c.tell-in-Err.new.out in
    let second = sink_view g.N.Sink c.open.new.report.sink in
    let noted = sink_view g.N.Sink c.tell-in-Err.new.note in
    no_memory (record {
      noted = second;
      is_noted = record { text = ap (λ (t : Told). t.text) untold; faults = ap (λ (t : Told). t.faults) untold };
      ends = subst (λ (r : RunResult). IsTold r c.tell-in-Err.result out last second noted) c.no_memory.ensures.told c.tell-in-Err.ensures.told;
    })

pub returns-in-Err-clause-cause : goal.returns-in-Err-clause-cause
returns-in-Err-clause-cause g c =
    let old = printer_view g.N.Sink c.args.note.now in
    let mid = printer_view g.N.Sink c.open.new.report in
    let out = sink_view g.O.Sink c.args.out.now in
    cause_later c.tell-in-Err.result out out (sink_view g.O.Sink c.tell-in-Err.new.out)
    (sink_view g.N.Sink c.args.note.now.sink) (sink_view g.N.Sink c.open.new.report.sink) (sink_view g.N.Sink c.tell-in-Err.new.note)
    (omega arith) (same_faults old mid c.in-Err.ensures.untold)
    (memory_cause c.no_memory.result.status c.tell-in-Err.result c.no_memory.ensures.status c.tell-in-Err.ensures.stream c.tell-in-Err.ensures.status)
