use Rattle.std.proofs.Common.{◌≡◌, ◌≤◌, ◌∙◌, refl, sym, ap, subst, arith}
use Rattle.command_kit.specs.Told.{RunResult}
use Rattle.command_kit.specs.Told.{IsTold}
use Rattle.command_kit.specs.View.{sink_view}
use Rattle.image_differ.specs.Sides.{side_view}
use Rattle.image_differ.specs.declared.side.Which.TheVariants.{Second}
use Rattle.image_cli.proofs.Causes.{memory_cause, refused_cause}
use Rattle.image_cli.specs.ExpandedDiffers.{DiffersFrom, DiffersSecond, IsUncompared, LacksMemory}
use Rattle.image_cli.specs.Runs.{refused, no_memory}
use Rattle.image_cli.proofs.Comparing.{from_read, from_since, lacks_since}
use Rattle.image_cli.proofs.Running.{index_at, opened_plain, opened_refused, opened_whole, plainly, unpacks}
use Rattle.image_cli.proofs.expanded.differing.differ_second.Goals as goal

pub differ_second_expanded-over-requires-clause-indexed : goal.differ_second_expanded-over-requires-clause-indexed
differ_second_expanded-over-requires-clause-indexed g c =
    let content = g.E.Disk.content c.args.second.disk in
    let blocks = g.E.Disk.block_count c.args.second.disk in
    let before = g.E.Disk.faults c.args.second.disk in
    let then = g.E.Disk.faults c.open.new.disk in
    let header = c.args.second.header in
    let old = g.Q.Report.told c.args.second.report in
    let mid = g.Q.Report.told c.open.new.report in
    let opens = opened_whole content blocks header before then old mid c.in-Ok-Whole.field-0 c.in-Ok-Whole.index c.in-Ok-Whole.field-0-is c.in-Ok-Whole.ensures.opened in
    index_at content (g.E.Disk.content c.open.new.disk) blocks (g.E.Disk.block_count c.open.new.disk) header c.in-Ok-Whole.index c.open.ensures.content c.open.ensures.blocks opens.1

pub returns-in-Ok-Plain-clause-outcome : goal.returns-in-Ok-Plain-clause-outcome
returns-in-Ok-Plain-clause-outcome g c =
    let content = g.E.Disk.content c.args.second.disk in
    let blocks = g.E.Disk.block_count c.args.second.disk in
    let before = g.E.Disk.faults c.args.second.disk in
    let then = g.E.Disk.faults c.open.new.disk in
    let header = c.args.second.header in
    let old = g.Q.Report.told c.args.second.report in
    let mid = g.Q.Report.told c.open.new.report in
    let opens = opened_plain content blocks header before then old mid c.in-Ok-Plain.field-0 c.in-Ok-Plain.field-0-is c.in-Ok-Plain.ensures.opened in
    let a = side_view g.D.Disk g.R.Report c.args.first.now in
    let a' = side_view g.D.Disk g.R.Report c.differ-status.new.first in
    let told = g.Q.Report.told c.differ-status.new.second.report in
    let out = sink_view g.O.Sink c.args.out.now in
    let last = sink_view g.O.Sink c.differ-status.new.out in
    let note = sink_view g.N.Sink c.args.note.now in
    let noted = sink_view g.N.Sink c.differ-status.new.note in
    let status = c.differ-status.result in
    plainly (DiffersFrom c.args.first_only a a' mid told status out last note noted) (DiffersFrom c.args.first_only a a' old told status out last note noted)
    (λ found. IsUncompared Second found old told a.told a'.told status out last note noted) (LacksMemory a.told a'.told old told status out last note noted)
    content (g.E.Disk.content c.open.new.disk) blocks (g.E.Disk.block_count c.open.new.disk) header before then (g.E.Disk.faults c.differ-status.new.second.disk)
    c.open.ensures.content c.open.ensures.blocks c.open.ensures.faults
    (from_since c.args.first_only a a' old mid told status out last note noted opens.0) opens.1
    (from_read c.args.first_only a a' _ _ status out last note noted c.differ-status.ensures.second c.differ-status.ensures.outcome)

pub returns-in-Ok-Refused-clause-outcome : goal.returns-in-Ok-Refused-clause-outcome
returns-in-Ok-Refused-clause-outcome g c =
    let content = g.E.Disk.content c.args.second.disk in
    let blocks = g.E.Disk.block_count c.args.second.disk in
    let before = g.E.Disk.faults c.args.second.disk in
    let then = g.E.Disk.faults c.open.new.disk in
    let header = c.args.second.header in
    let old = g.Q.Report.told c.args.second.report in
    let mid = g.Q.Report.told c.open.new.report in
    let opens = opened_refused content blocks header before then old mid c.in-Ok-Refused.field-0 c.in-Ok-Refused.field-0-is c.in-Ok-Refused.ensures.opened in
    let out = sink_view g.O.Sink c.args.out.now in
    let last = sink_view g.O.Sink c.tell-status.new.out in
    let note = sink_view g.N.Sink c.args.note.now in
    let noted = sink_view g.N.Sink c.tell-status.new.note in
    let status = c.tell-status.result in
    refused opens.0 opens.1.1 (record {
      tells = opens.1.0;
      untold = refl;
      ends = subst (λ (r : RunResult). IsTold r status out last note noted) c.has_findings.ensures.told c.tell-status.ensures.told;
    })

pub returns-in-Ok-Whole-clause-outcome : goal.returns-in-Ok-Whole-clause-outcome
returns-in-Ok-Whole-clause-outcome g c =
    let content = g.E.Disk.content c.args.second.disk in
    let blocks = g.E.Disk.block_count c.args.second.disk in
    let before = g.E.Disk.faults c.args.second.disk in
    let then = g.E.Disk.faults c.open.new.disk in
    let header = c.args.second.header in
    let old = g.Q.Report.told c.args.second.report in
    let mid = g.Q.Report.told c.open.new.report in
    let opens = opened_whole content blocks header before then old mid c.in-Ok-Whole.field-0 c.in-Ok-Whole.index c.in-Ok-Whole.field-0-is c.in-Ok-Whole.ensures.opened in
    let a = side_view g.D.Disk g.R.Report c.args.first.now in
    let a' = side_view g.D.Disk g.R.Report c.differ_second_expanded-over.new.first in
    let b = side_view g.E.Disk g.Q.Report c.args.second in
    let side = c.differ_second_expanded-over.result.0 in
    let told = g.Q.Report.told side.report in
    let out = sink_view g.O.Sink c.args.out.now in
    let last = sink_view g.O.Sink c.differ_second_expanded-over.new.out in
    let note = sink_view g.N.Sink c.args.note.now in
    let noted = sink_view g.N.Sink c.differ_second_expanded-over.new.note in
    let status = c.differ_second_expanded-over.result.1 in
    subst (λ disk. DiffersSecond c.args.first_only a a' b (side_view g.E.Disk g.Q.Report (record { disk = disk; report = c.given_back.result.report; header = side.header })) status out last note noted) (sym c.given_back.ensures.disk)
    (subst (λ report. DiffersSecond c.args.first_only a a' b (side_view g.E.Disk g.Q.Report (record { disk = side.disk.disk; report = report; header = side.header })) status out last note noted) (sym c.given_back.ensures.report)
    (unpacks (DiffersFrom c.args.first_only a a' mid told status out last note noted) (DiffersFrom c.args.first_only a a' old told status out last note noted)
    (λ found. IsUncompared Second found old told a.told a'.told status out last note noted)
    (LacksMemory a.told a'.told mid told status out last note noted) (LacksMemory a.told a'.told old told status out last note noted)
    content (g.E.Disk.content c.open.new.disk) blocks header before then (g.E.Disk.faults side.disk.disk) c.in-Ok-Whole.index
    c.open.ensures.content c.open.ensures.faults
    (from_since c.args.first_only a a' old mid told status out last note noted opens.0) (lacks_since a.told a'.told old mid told status out last note noted opens.0) opens.1
    c.differ_second_expanded-over.ensures.outcome))

pub returns-in-Ok-Whole-clause-second : goal.returns-in-Ok-Whole-clause-second
returns-in-Ok-Whole-clause-second g c =
    let given = c.given_back.ensures.disk in
    let same = c.differ_second_expanded-over.ensures.same in
    let there = c.differ_second_expanded-over.result.0.disk.disk in
    let later : g.E.Disk.faults c.open.new.disk ≤ g.E.Disk.faults there = c.differ_second_expanded-over.ensures.faults in
    let is : g.E.Disk.faults c.given_back.result.disk ≡ g.E.Disk.faults there = ap g.E.Disk.faults given in
    record {
      content = ap g.E.Disk.content given ∙ same.content ∙ c.open.ensures.content;
      blocks = ap g.E.Disk.block_count given ∙ same.blocks ∙ c.open.ensures.blocks;
      faults = omega (arith, is, later, c.open.ensures.faults);
      orders = ap g.E.Disk.orders given ∙ same.orders ∙ c.open.ensures.orders;
      header = c.given_back.ensures.header ∙ c.differ_second_expanded-over.ensures.header;
    }

pub returns-in-Err-clause-outcome : goal.returns-in-Err-clause-outcome
returns-in-Err-clause-outcome g c =
    let out = sink_view g.O.Sink c.args.out.now in
    let last = sink_view g.O.Sink c.tell-status-in-Err.new.out in
    let note = sink_view g.N.Sink c.args.note.now in
    let noted = sink_view g.N.Sink c.tell-status-in-Err.new.note in
    let status = c.tell-status-in-Err.result in
    no_memory (refl, c.in-Err.ensures.untold, subst (λ (r : RunResult). IsTold r status out last note noted) c.no_memory.ensures.told c.tell-status-in-Err.ensures.told)

pub returns-in-Ok-Refused-clause-cause : goal.returns-in-Ok-Refused-clause-cause
returns-in-Ok-Refused-clause-cause g c =
    refused_cause c.has_findings.result.status c.tell-status.result c.has_findings.ensures.status c.tell-status.ensures.stream c.tell-status.ensures.status

pub returns-in-Err-clause-cause : goal.returns-in-Err-clause-cause
returns-in-Err-clause-cause g c =
    memory_cause c.no_memory.result.status c.tell-status-in-Err.result c.no_memory.ensures.status c.tell-status-in-Err.ensures.stream c.tell-status-in-Err.ensures.status
