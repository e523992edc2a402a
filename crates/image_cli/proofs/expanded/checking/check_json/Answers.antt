use Rattle.std.proofs.Common.{Some, sym, subst}
use Rattle.command_kit.specs.OnlyRead.{IsOnlyRead}
use Rattle.command_kit.specs.Told.{RunResult, memory_told}
use Rattle.command_kit.specs.Told.{IsTold}
use Rattle.command_kit.specs.View.{sink_view}
use Rattle.command_kit.proofs.OnlyRead.{read_on}
use Rattle.image_check.specs.Told.{Told, Tells}
use Rattle.image_cli.specs.Json.{PrintsCheck, TellsCheck}
use Rattle.image_json.proofs.Keeping.{told_of}
use Rattle.image_cli.proofs.Causes.{memory_cause}
use Rattle.image_cli.specs.Runs.{refused, no_memory}
use Rattle.image_cli.specs.ExpandedChecks.{PrintsCheckAny}
use Rattle.image_cli.proofs.Running.{index_at, opened_plain, opened_refused, opened_whole, plainly, unpacks}
use Rattle.image_cli.proofs.expanded.checking.check_json.Goals as goal

pub check_expanded_json-over-requires-clause-indexed : goal.check_expanded_json-over-requires-clause-indexed
check_expanded_json-over-requires-clause-indexed g c =
    let content = g.D.Disk.content c.args.disk.now in
    let blocks = g.D.Disk.block_count c.args.disk.now in
    let before = g.D.Disk.faults c.args.disk.now in
    let then = g.D.Disk.faults c.open.new.disk in
    let opens = opened_whole content blocks c.args.header before then _ _ c.in-Ok-Whole.field-0 c.in-Ok-Whole.index c.in-Ok-Whole.field-0-is c.in-Ok-Whole.ensures.opened in
    index_at content (g.D.Disk.content c.open.new.disk) blocks (g.D.Disk.block_count c.open.new.disk) c.args.header c.in-Ok-Whole.index c.open.ensures.content c.open.ensures.blocks opens.1

pub returns-in-Ok-Plain-clause-outcome : goal.returns-in-Ok-Plain-clause-outcome
returns-in-Ok-Plain-clause-outcome g c =
    let content = g.D.Disk.content c.args.disk.now in
    let blocks = g.D.Disk.block_count c.args.disk.now in
    let before = g.D.Disk.faults c.args.disk.now in
    let then = g.D.Disk.faults c.open.new.disk in
    let opens = opened_plain content blocks c.args.header before then _ _ c.in-Ok-Plain.field-0 c.in-Ok-Plain.field-0-is c.in-Ok-Plain.ensures.opened in
    let out = sink_view g.O.Sink c.args.out.now in
    let note = sink_view g.N.Sink c.args.note.now in
    let last = sink_view g.O.Sink c.check_json.new.out in
    let noted = sink_view g.N.Sink c.check_json.new.note in
    let status = c.check_json.result in
    plainly (λ c n h b f. PrintsCheck c n h b f status out last note noted) (λ c n h b f. PrintsCheck c n h b f status out last note noted)
    (λ found. TellsCheck (Some found) status out last note noted) (IsTold memory_told status out last note noted)
    content (g.D.Disk.content c.open.new.disk) blocks (g.D.Disk.block_count c.open.new.disk) c.args.header before then (g.D.Disk.faults c.check_json.new.disk)
    c.open.ensures.content c.open.ensures.blocks c.open.ensures.faults
    (λ c n h b f runs. runs) opens.1 c.check_json.ensures.outcome

pub returns-in-Ok-Refused-clause-outcome : goal.returns-in-Ok-Refused-clause-outcome
returns-in-Ok-Refused-clause-outcome g c =
    let content = g.D.Disk.content c.args.disk.now in
    let blocks = g.D.Disk.block_count c.args.disk.now in
    let before = g.D.Disk.faults c.args.disk.now in
    let then = g.D.Disk.faults c.open.new.disk in
    let opens = opened_refused content blocks c.args.header before then _ _ c.in-Ok-Refused.field-0 c.in-Ok-Refused.field-0-is c.in-Ok-Refused.ensures.opened in
    let report = c.open.new.report in
    let told : Told = told_of report.kept.items report.count report.refused in
    refused opens.0 opens.1.1 (c.sum_up_json.ensures.told opens.0 (subst (λ (t : Told). Tells opens.0 t told) c.new-findings.ensures opens.1.0))

pub returns-in-Ok-Whole-clause-outcome : goal.returns-in-Ok-Whole-clause-outcome
returns-in-Ok-Whole-clause-outcome g c =
    let content = g.D.Disk.content c.args.disk.now in
    let blocks = g.D.Disk.block_count c.args.disk.now in
    let before = g.D.Disk.faults c.args.disk.now in
    let then = g.D.Disk.faults c.open.new.disk in
    let opens = opened_whole content blocks c.args.header before then _ _ c.in-Ok-Whole.field-0 c.in-Ok-Whole.index c.in-Ok-Whole.field-0-is c.in-Ok-Whole.ensures.opened in
    let out = sink_view g.O.Sink c.args.out.now in
    let note = sink_view g.N.Sink c.args.note.now in
    let last = sink_view g.O.Sink c.check_expanded_json-over.new.out in
    let noted = sink_view g.N.Sink c.check_expanded_json-over.new.note in
    let status = c.check_expanded_json-over.result.1 in
    let given = c.disk-1.given.1 (sym c.check_expanded_json-over.ensures.same.which) in
    subst (λ d. PrintsCheckAny content blocks c.args.header before (g.D.Disk.faults d) status out last note noted) (sym given)
    (unpacks (λ c n h b f. PrintsCheck c n h b f status out last note noted) (λ c n h b f. PrintsCheck c n h b f status out last note noted)
    (λ found. TellsCheck (Some found) status out last note noted) (IsTold memory_told status out last note noted) (IsTold memory_told status out last note noted)
    content (g.D.Disk.content c.open.new.disk) blocks c.args.header before then (g.D.Disk.faults c.check_expanded_json-over.result.0.disk.now) c.in-Ok-Whole.index
    c.open.ensures.content c.open.ensures.faults
    (λ c n h b f runs. runs) (λ lacked. lacked) opens.1 c.check_expanded_json-over.ensures.outcome)

pub returns-clause-outcome : goal.returns-clause-outcome
returns-clause-outcome g c =
    let out = sink_view g.O.Sink c.args.out.now in
    let note = sink_view g.N.Sink c.args.note.now in
    no_memory (subst (λ (r : RunResult). IsTold r c.tell.result out (sink_view g.O.Sink c.tell.new.out) note (sink_view g.N.Sink c.tell.new.note)) c.no_memory.ensures.told c.tell.ensures.told)

pub returns-clause-cause : goal.returns-clause-cause
returns-clause-cause g c =
    memory_cause c.no_memory.result.status c.tell.result c.no_memory.ensures.status c.tell.ensures.stream c.tell.ensures.status

pub returns-in-Ok-Plain-clause-disk : goal.returns-in-Ok-Plain-clause-disk
returns-in-Ok-Plain-clause-disk g c =
    read_on g.D.Disk c.args.disk.now c.open.new.disk c.check_json.new.disk
    (record { content = c.open.ensures.content; faults = c.open.ensures.faults; orders = c.open.ensures.orders; blocks = c.open.ensures.blocks }) c.check_json.ensures.disk

pub returns-in-Ok-Whole-clause-disk : goal.returns-in-Ok-Whole-clause-disk
returns-in-Ok-Whole-clause-disk g c =
    let same = c.check_expanded_json-over.ensures.same in
    let there = c.check_expanded_json-over.result.0.disk.now in
    let given = c.disk-1.given.1 (sym same.which) in
    subst (λ d. IsOnlyRead g.D.Disk c.args.disk.now d) (sym given)
    (read_on g.D.Disk c.args.disk.now c.open.new.disk there
    (record { content = c.open.ensures.content; faults = c.open.ensures.faults; orders = c.open.ensures.orders; blocks = c.open.ensures.blocks })
    (record { content = same.content; faults = c.check_expanded_json-over.ensures.faults; orders = same.orders; blocks = same.blocks }))
