use Rattle.std.proofs.Common.{Option, refl, sym, subst, arith}
use Rattle.definitions.specs.Disk.{Content}
use Rattle.command_kit.specs.OnlyRead.{IsOnlyRead}
use Rattle.command_kit.specs.View.{sink_view}
use Rattle.command_kit.proofs.OnlyRead.{read_on}
use Rattle.image_cli.specs.Printed.{printer_view}
use Rattle.image_cli.proofs.Causes.{cause_later, memory_cause}
use Rattle.image_cli.specs.Runs.{refused}
use Rattle.image_cli.specs.ExpandedStreams.{NotesFindings, NotesMemory}
use Rattle.image_cli.proofs.Running.{index_at, memory_since, opened_plain, opened_refused, opened_whole, plainly, same_faults, unpacks}
use Rattle.image_machine.specs.Headings.{IsHeadingOf}
use Rattle.image_machine.specs.declared.dump.headed.Headed.TheVariants.{NoImage, NoArea, Heading}
use Rattle.image_machine_cli.specs.Loads.{GivesDump, GivesFrom}
use Rattle.image_machine_cli.proofs.AnyImage.{gives_since, heads_area, no_area_any, no_image_any}
use Rattle.image_machine_cli.proofs.loading.dump.Goals as goal

pub dump_expanded-over-requires-clause-indexed : goal.dump_expanded-over-requires-clause-indexed
dump_expanded-over-requires-clause-indexed g c =
    let content = g.D.Disk.content c.args.disk.now in
    let blocks = g.D.Disk.block_count c.args.disk.now in
    let before = g.D.Disk.faults c.args.disk.now in
    let then = g.D.Disk.faults c.open.new.disk in
    let old = printer_view g.N.Sink c.args.note.now in
    let mid = printer_view g.N.Sink c.open.new.report in
    let layout = c.args.layout.now in
    let opens = opened_whole content blocks layout.offset before then old mid c.in-Ok-Whole.field-0 c.in-Ok-Whole.index c.in-Ok-Whole.field-0-is c.in-Ok-Whole.ensures.opened in
    index_at content (g.D.Disk.content c.open.new.disk) blocks (g.D.Disk.block_count c.open.new.disk) layout.offset c.in-Ok-Whole.index c.open.ensures.content c.open.ensures.blocks opens.1

pub dump_expanded-over-requires-clause-headed : goal.dump_expanded-over-requires-clause-headed
dump_expanded-over-requires-clause-headed g c =
    let content = g.D.Disk.content c.args.disk.now in
    let blocks = g.D.Disk.block_count c.args.disk.now in
    let before = g.D.Disk.faults c.args.disk.now in
    let then = g.D.Disk.faults c.open.new.disk in
    let old = printer_view g.N.Sink c.args.note.now in
    let mid = printer_view g.N.Sink c.open.new.report in
    let layout = c.args.layout.now in
    let opens = opened_whole content blocks layout.offset before then old mid c.in-Ok-Whole.field-0 c.in-Ok-Whole.index c.in-Ok-Whole.field-0-is c.in-Ok-Whole.ensures.opened in
    let heads = heads_area content blocks layout.offset c.in-Ok-Whole.index c.heading_in.result (Heading c.in-Heading.heading) c.in-Heading.is opens.1 c.heading_in.ensures in
    subst (λ (x : Option Content). IsHeadingOf x layout.offset c.in-Heading.heading) (sym c.open.ensures.content) heads

pub returns-in-Ok-Plain-clause-outcome : goal.returns-in-Ok-Plain-clause-outcome
returns-in-Ok-Plain-clause-outcome g c =
    let content = g.D.Disk.content c.args.disk.now in
    let blocks = g.D.Disk.block_count c.args.disk.now in
    let before = g.D.Disk.faults c.args.disk.now in
    let then = g.D.Disk.faults c.open.new.disk in
    let old = printer_view g.N.Sink c.args.note.now in
    let mid = printer_view g.N.Sink c.open.new.report in
    let layout = c.args.layout.now in
    let opens = opened_plain content blocks layout.offset before then old mid c.in-Ok-Plain.field-0 c.in-Ok-Plain.field-0-is c.in-Ok-Plain.ensures.opened in
    let out = sink_view g.O.Sink c.args.out.now in
    let last = sink_view g.O.Sink c.dump_plain.new.out in
    let noted = sink_view g.N.Sink c.dump_plain.new.note.sink in
    let status = c.dump_plain.result in
    plainly (λ x n h b f. GivesFrom c.args.wanted (g.D.Disk.content c.open.new.disk) x n h b f mid layout status out last noted) (λ x n h b f. GivesFrom c.args.wanted content x n h b f old layout status out last noted)
    (λ found. NotesFindings found old status out last noted) (NotesMemory old status out last noted)
    content (g.D.Disk.content c.open.new.disk) blocks (g.D.Disk.block_count c.open.new.disk) layout.offset before then (g.D.Disk.faults c.dump_plain.new.disk)
    c.open.ensures.content c.open.ensures.blocks c.open.ensures.faults
    (gives_since c.args.wanted content (g.D.Disk.content c.open.new.disk) old mid layout status out last noted c.open.ensures.content opens.0) opens.1 c.dump_plain.ensures.outcome

pub returns-in-Ok-Refused-clause-outcome : goal.returns-in-Ok-Refused-clause-outcome
returns-in-Ok-Refused-clause-outcome g c =
    let content = g.D.Disk.content c.args.disk.now in
    let blocks = g.D.Disk.block_count c.args.disk.now in
    let before = g.D.Disk.faults c.args.disk.now in
    let then = g.D.Disk.faults c.open.new.disk in
    let old = printer_view g.N.Sink c.args.note.now in
    let mid = printer_view g.N.Sink c.open.new.report in
    let layout = c.args.layout.now in
    let opens = opened_refused content blocks layout.offset before then old mid c.in-Ok-Refused.field-0 c.in-Ok-Refused.field-0-is c.in-Ok-Refused.ensures.opened in
    refused opens.0 opens.1.1 (record {
      after = mid;
      noted = sink_view g.N.Sink c.open.new.report.sink;
      tells = opens.1.0;
      is_noted = record { text = refl; faults = refl };
      ends = c.tell_made.ensures.told;
    })

pub returns-in-NoImage-clause-outcome : goal.returns-in-NoImage-clause-outcome
returns-in-NoImage-clause-outcome g c =
    let content = g.D.Disk.content c.args.disk.now in
    let blocks = g.D.Disk.block_count c.args.disk.now in
    let before = g.D.Disk.faults c.args.disk.now in
    let then = g.D.Disk.faults c.open.new.disk in
    let old = printer_view g.N.Sink c.args.note.now in
    let mid = printer_view g.N.Sink c.open.new.report in
    let layout = c.args.layout.now in
    let opens = opened_whole content blocks layout.offset before then old mid c.in-Ok-Whole.field-0 c.in-Ok-Whole.index c.in-Ok-Whole.field-0-is c.in-Ok-Whole.ensures.opened in
    let heads = heads_area content blocks layout.offset c.in-Ok-Whole.index c.heading_in.result NoImage c.in-NoImage.is opens.1 c.heading_in.ensures in
    let out = sink_view g.O.Sink c.args.out.now in
    let last = sink_view g.O.Sink c.tell_made-in-NoImage.new.out in
    let noted = sink_view g.N.Sink c.tell_made-in-NoImage.new.note in
    let status = c.tell_made-in-NoImage.result in
    let note = sink_view g.N.Sink c.open.new.report.sink in
    no_image_any c.args.wanted content blocks before then old mid layout status out last note noted c.open.ensures.faults opens.0 (record { text = refl; faults = refl }) heads c.tell_made-in-NoImage.ensures.told

pub returns-in-NoArea-clause-outcome : goal.returns-in-NoArea-clause-outcome
returns-in-NoArea-clause-outcome g c =
    let content = g.D.Disk.content c.args.disk.now in
    let blocks = g.D.Disk.block_count c.args.disk.now in
    let before = g.D.Disk.faults c.args.disk.now in
    let then = g.D.Disk.faults c.open.new.disk in
    let old = printer_view g.N.Sink c.args.note.now in
    let mid = printer_view g.N.Sink c.open.new.report in
    let layout = c.args.layout.now in
    let opens = opened_whole content blocks layout.offset before then old mid c.in-Ok-Whole.field-0 c.in-Ok-Whole.index c.in-Ok-Whole.field-0-is c.in-Ok-Whole.ensures.opened in
    let heads = heads_area content blocks layout.offset c.in-Ok-Whole.index c.heading_in.result NoArea c.in-NoArea.is opens.1 c.heading_in.ensures in
    let out = sink_view g.O.Sink c.args.out.now in
    let last = sink_view g.O.Sink c.tell_made-in-NoArea.new.out in
    let noted = sink_view g.N.Sink c.tell_made-in-NoArea.new.note in
    let status = c.tell_made-in-NoArea.result in
    let note = sink_view g.N.Sink c.open.new.report.sink in
    no_area_any c.args.wanted content blocks before then old mid layout status out last note noted c.in-Ok-Whole.index opens.1 opens.0 (record { text = refl; faults = refl }) heads c.tell_made-in-NoArea.ensures.told

pub returns-in-Heading-clause-outcome : goal.returns-in-Heading-clause-outcome
returns-in-Heading-clause-outcome g c =
    let content = g.D.Disk.content c.args.disk.now in
    let blocks = g.D.Disk.block_count c.args.disk.now in
    let before = g.D.Disk.faults c.args.disk.now in
    let then = g.D.Disk.faults c.open.new.disk in
    let old = printer_view g.N.Sink c.args.note.now in
    let mid = printer_view g.N.Sink c.open.new.report in
    let layout = c.args.layout.now in
    let opens = opened_whole content blocks layout.offset before then old mid c.in-Ok-Whole.field-0 c.in-Ok-Whole.index c.in-Ok-Whole.field-0-is c.in-Ok-Whole.ensures.opened in
    let out = sink_view g.O.Sink c.args.out.now in
    let last = sink_view g.O.Sink c.dump_expanded-over.new.out in
    let noted = sink_view g.N.Sink c.dump_expanded-over.new.note.sink in
    let status = c.dump_expanded-over.result.1 in
    let given = c.disk-1.given.1 (sym c.dump_expanded-over.ensures.same.which) in
    subst (λ d. GivesDump c.args.wanted content blocks before (g.D.Disk.faults d) old layout status out last noted) (sym given)
    (unpacks (λ x n h b f. GivesFrom c.args.wanted (g.D.Disk.content c.open.new.disk) x n h b f mid layout status out last noted) (λ x n h b f. GivesFrom c.args.wanted content x n h b f old layout status out last noted)
    (λ found. NotesFindings found old status out last noted)
    (NotesMemory mid status out last noted) (NotesMemory old status out last noted)
    content (g.D.Disk.content c.open.new.disk) blocks layout.offset before then (g.D.Disk.faults c.dump_expanded-over.result.0.disk.now) c.in-Ok-Whole.index
    c.open.ensures.content c.open.ensures.faults
    (gives_since c.args.wanted content (g.D.Disk.content c.open.new.disk) old mid layout status out last noted c.open.ensures.content opens.0)
    (memory_since old mid status out last noted opens.0) opens.1 c.dump_expanded-over.ensures.outcome)

pub returns-in-Ok-Plain-clause-cause : goal.returns-in-Ok-Plain-clause-cause
returns-in-Ok-Plain-clause-cause g c =
    let old = printer_view g.N.Sink c.args.note.now in
    let mid = printer_view g.N.Sink c.open.new.report in
    let layout = c.args.layout.now in
    let opens = opened_plain (g.D.Disk.content c.args.disk.now) (g.D.Disk.block_count c.args.disk.now) layout.offset (g.D.Disk.faults c.args.disk.now) (g.D.Disk.faults c.open.new.disk) old mid c.in-Ok-Plain.field-0 c.in-Ok-Plain.field-0-is c.in-Ok-Plain.ensures.opened in
    let out = sink_view g.O.Sink c.args.out.now in
    cause_later c.dump_plain.result out out (sink_view g.O.Sink c.dump_plain.new.out)
    (sink_view g.N.Sink c.args.note.now.sink) (sink_view g.N.Sink c.open.new.report.sink) (sink_view g.N.Sink c.dump_plain.new.note.sink)
    (omega arith) (same_faults old mid opens.0) c.dump_plain.ensures.cause

pub returns-in-Ok-Plain-clause-disk : goal.returns-in-Ok-Plain-clause-disk
returns-in-Ok-Plain-clause-disk g c =
    read_on g.D.Disk c.args.disk.now c.open.new.disk c.dump_plain.new.disk
    (record { content = c.open.ensures.content; faults = c.open.ensures.faults; orders = c.open.ensures.orders; blocks = c.open.ensures.blocks }) c.dump_plain.ensures.disk

pub returns-in-Ok-Refused-clause-cause : goal.returns-in-Ok-Refused-clause-cause
returns-in-Ok-Refused-clause-cause g c =
    let old = printer_view g.N.Sink c.args.note.now in
    let mid = printer_view g.N.Sink c.open.new.report in
    let layout = c.args.layout.now in
    let opens = opened_refused (g.D.Disk.content c.args.disk.now) (g.D.Disk.block_count c.args.disk.now) layout.offset (g.D.Disk.faults c.args.disk.now) (g.D.Disk.faults c.open.new.disk) old mid c.in-Ok-Refused.field-0 c.in-Ok-Refused.field-0-is c.in-Ok-Refused.ensures.opened in
    let out = sink_view g.O.Sink c.args.out.now in
    cause_later c.tell_made.result out out (sink_view g.O.Sink c.tell_made.new.out)
    (sink_view g.N.Sink c.args.note.now.sink) (sink_view g.N.Sink c.open.new.report.sink) (sink_view g.N.Sink c.tell_made.new.note)
    (omega arith) opens.1.0.faults c.tell_made.ensures.cause

pub returns-in-NoImage-clause-cause : goal.returns-in-NoImage-clause-cause
returns-in-NoImage-clause-cause g c =
    let old = printer_view g.N.Sink c.args.note.now in
    let mid = printer_view g.N.Sink c.open.new.report in
    let layout = c.args.layout.now in
    let opens = opened_whole (g.D.Disk.content c.args.disk.now) (g.D.Disk.block_count c.args.disk.now) layout.offset (g.D.Disk.faults c.args.disk.now) (g.D.Disk.faults c.open.new.disk) old mid c.in-Ok-Whole.field-0 c.in-Ok-Whole.index c.in-Ok-Whole.field-0-is c.in-Ok-Whole.ensures.opened in
    let out = sink_view g.O.Sink c.args.out.now in
    cause_later c.tell_made-in-NoImage.result out out (sink_view g.O.Sink c.tell_made-in-NoImage.new.out)
    (sink_view g.N.Sink c.args.note.now.sink) (sink_view g.N.Sink c.open.new.report.sink) (sink_view g.N.Sink c.tell_made-in-NoImage.new.note)
    (omega arith) (same_faults old mid opens.0) c.tell_made-in-NoImage.ensures.cause

pub returns-in-NoArea-clause-cause : goal.returns-in-NoArea-clause-cause
returns-in-NoArea-clause-cause g c =
    let old = printer_view g.N.Sink c.args.note.now in
    let mid = printer_view g.N.Sink c.open.new.report in
    let layout = c.args.layout.now in
    let opens = opened_whole (g.D.Disk.content c.args.disk.now) (g.D.Disk.block_count c.args.disk.now) layout.offset (g.D.Disk.faults c.args.disk.now) (g.D.Disk.faults c.open.new.disk) old mid c.in-Ok-Whole.field-0 c.in-Ok-Whole.index c.in-Ok-Whole.field-0-is c.in-Ok-Whole.ensures.opened in
    let out = sink_view g.O.Sink c.args.out.now in
    cause_later c.tell_made-in-NoArea.result out out (sink_view g.O.Sink c.tell_made-in-NoArea.new.out)
    (sink_view g.N.Sink c.args.note.now.sink) (sink_view g.N.Sink c.open.new.report.sink) (sink_view g.N.Sink c.tell_made-in-NoArea.new.note)
    (omega arith) (same_faults old mid opens.0) c.tell_made-in-NoArea.ensures.cause

pub returns-in-Heading-clause-cause : goal.returns-in-Heading-clause-cause
returns-in-Heading-clause-cause g c =
    let old = printer_view g.N.Sink c.args.note.now in
    let mid = printer_view g.N.Sink c.open.new.report in
    let layout = c.args.layout.now in
    let opens = opened_whole (g.D.Disk.content c.args.disk.now) (g.D.Disk.block_count c.args.disk.now) layout.offset (g.D.Disk.faults c.args.disk.now) (g.D.Disk.faults c.open.new.disk) old mid c.in-Ok-Whole.field-0 c.in-Ok-Whole.index c.in-Ok-Whole.field-0-is c.in-Ok-Whole.ensures.opened in
    let out = sink_view g.O.Sink c.args.out.now in
    cause_later c.dump_expanded-over.result.1 out out (sink_view g.O.Sink c.dump_expanded-over.new.out)
    (sink_view g.N.Sink c.args.note.now.sink) (sink_view g.N.Sink c.open.new.report.sink) (sink_view g.N.Sink c.dump_expanded-over.new.note.sink)
    (omega arith) (same_faults old mid opens.0) c.dump_expanded-over.ensures.cause

pub returns-in-Heading-clause-disk : goal.returns-in-Heading-clause-disk
returns-in-Heading-clause-disk g c =
    let same = c.dump_expanded-over.ensures.same in
    let there = c.dump_expanded-over.result.0.disk.now in
    let given = c.disk-1.given.1 (sym same.which) in
    subst (λ d. IsOnlyRead g.D.Disk c.args.disk.now d) (sym given)
    (read_on g.D.Disk c.args.disk.now c.open.new.disk there
    (record { content = c.open.ensures.content; faults = c.open.ensures.faults; orders = c.open.ensures.orders; blocks = c.open.ensures.blocks })
    (record { content = same.content; faults = c.dump_expanded-over.ensures.faults; orders = same.orders; blocks = same.blocks }))

pub returns-in-Err-clause-cause : goal.returns-in-Err-clause-cause
returns-in-Err-clause-cause g c =
    let old = printer_view g.N.Sink c.args.note.now in
    let mid = printer_view g.N.Sink c.open.new.report in
    let out = sink_view g.O.Sink c.args.out.now in
    cause_later c.tell.result out out (sink_view g.O.Sink c.tell.new.out)
    (sink_view g.N.Sink c.args.note.now.sink) (sink_view g.N.Sink c.open.new.report.sink) (sink_view g.N.Sink c.tell.new.note)
    (omega arith) (same_faults old mid c.in-Err.ensures.untold)
    (memory_cause c.no_memory.result.status c.tell.result c.no_memory.ensures.status c.tell.ensures.stream c.tell.ensures.status)
