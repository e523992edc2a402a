use Rattle.std.proofs.Common.{◌≡◌, ◌≤◌, ◌∙◌, refl, sym, ap, subst, arith}
use Rattle.command_kit.specs.Told.{RunResult}
use Rattle.command_kit.specs.Told.{IsTold}
use Rattle.command_kit.specs.View.{sink_view}
use Rattle.image_differ.specs.Sides.{side_view}
use Rattle.image_differ.specs.declared.side.Which.TheVariants.{First}
use Rattle.image_cli.proofs.Causes.{memory_cause, refused_cause}
use Rattle.image_cli.specs.ExpandedDiffers.{DiffersAny, DiffersOver, IsUncompared, LacksMemory}
use Rattle.image_cli.specs.Runs.{refused, no_memory}
use Rattle.image_cli.proofs.Comparing.{first_lacks_since, over_read, over_since}
use Rattle.image_cli.proofs.Running.{index_at, opened_plain, opened_refused, opened_whole, plainly, unpacks}
use Rattle.image_cli.proofs.expanded.differing.differ.Goals as goal

pub differ_first_expanded-over-requires-clause-indexed : goal.differ_first_expanded-over-requires-clause-indexed
differ_first_expanded-over-requires-clause-indexed g c =
    let content = g.D.Disk.content c.args.first.disk in
    let blocks = g.D.Disk.block_count c.args.first.disk in
    let before = g.D.Disk.faults c.args.first.disk in
    let then = g.D.Disk.faults c.open.new.disk in
    let header = c.args.first.header in
    let old = g.R.Report.told c.args.first.report in
    let mid = g.R.Report.told c.open.new.report in
    let opens = opened_whole content blocks header before then old mid c.in-Ok-Whole.field-0 c.in-Ok-Whole.index c.in-Ok-Whole.field-0-is c.in-Ok-Whole.ensures.opened in
    index_at content (g.D.Disk.content c.open.new.disk) blocks (g.D.Disk.block_count c.open.new.disk) header c.in-Ok-Whole.index c.open.ensures.content c.open.ensures.blocks opens.1

pub returns-in-Ok-Plain-clause-outcome : goal.returns-in-Ok-Plain-clause-outcome
returns-in-Ok-Plain-clause-outcome g c =
    let content = g.D.Disk.content c.args.first.disk in
    let blocks = g.D.Disk.block_count c.args.first.disk in
    let before = g.D.Disk.faults c.args.first.disk in
    let then = g.D.Disk.faults c.open.new.disk in
    let header = c.args.first.header in
    let old = g.R.Report.told c.args.first.report in
    let mid = g.R.Report.told c.open.new.report in
    let opens = opened_plain content blocks header before then old mid c.in-Ok-Plain.field-0 c.in-Ok-Plain.field-0-is c.in-Ok-Plain.ensures.opened in
    let b = side_view g.E.Disk g.Q.Report c.args.second in
    let b' = side_view g.E.Disk g.Q.Report c.differ_second-over.result.0 in
    let told = g.R.Report.told c.differ_second-over.new.first.report in
    let out = sink_view g.O.Sink c.args.out.now in
    let last = sink_view g.O.Sink c.differ_second-over.new.out in
    let note = sink_view g.N.Sink c.args.note.now in
    let noted = sink_view g.N.Sink c.differ_second-over.new.note in
    let status = c.differ_second-over.result.1 in
    plainly (DiffersOver c.args.first_only mid told b b' status out last note noted) (DiffersOver c.args.first_only old told b b' status out last note noted)
    (λ found. IsUncompared First found old told b.told b'.told status out last note noted) (LacksMemory old told b.told b'.told status out last note noted)
    content (g.D.Disk.content c.open.new.disk) blocks (g.D.Disk.block_count c.open.new.disk) header before then (g.D.Disk.faults c.differ_second-over.new.first.disk)
    c.open.ensures.content c.open.ensures.blocks c.open.ensures.faults
    (over_since c.args.first_only old mid told b b' status out last note noted opens.0) opens.1
    (over_read c.args.first_only _ _ b b' status out last note noted c.differ_second-over.ensures.first c.differ_second-over.ensures.outcome)

pub returns-in-Ok-Refused-clause-outcome : goal.returns-in-Ok-Refused-clause-outcome
returns-in-Ok-Refused-clause-outcome g c =
    let content = g.D.Disk.content c.args.first.disk in
    let blocks = g.D.Disk.block_count c.args.first.disk in
    let before = g.D.Disk.faults c.args.first.disk in
    let then = g.D.Disk.faults c.open.new.disk in
    let header = c.args.first.header in
    let old = g.R.Report.told c.args.first.report in
    let mid = g.R.Report.told c.open.new.report in
    let opens = opened_refused content blocks header before then old mid c.in-Ok-Refused.field-0 c.in-Ok-Refused.field-0-is c.in-Ok-Refused.ensures.opened in
    let out = sink_view g.O.Sink c.args.out.now in
    let last = sink_view g.O.Sink c.tell-status.new.out in
    let note = sink_view g.N.Sink c.args.note.now in
    let noted = sink_view g.N.Sink c.tell-status.new.note in
    let status = c.tell-status.result in
    refused opens.0 opens.1.1 (record {
      tells = opens.1.0;
      untold = refl;
      ends = subst (λ (r : RunResult). IsTold r status out last note noted) c.has_findings.ensures.told c.tell-status.ensures.told;
    })

pub returns-in-Ok-Whole-clause-outcome : goal.returns-in-Ok-Whole-clause-outcome
returns-in-Ok-Whole-clause-outcome g c =
    let content = g.D.Disk.content c.args.first.disk in
    let blocks = g.D.Disk.block_count c.args.first.disk in
    let before = g.D.Disk.faults c.args.first.disk in
    let then = g.D.Disk.faults c.open.new.disk in
    let header = c.args.first.header in
    let old = g.R.Report.told c.args.first.report in
    let mid = g.R.Report.told c.open.new.report in
    let opens = opened_whole content blocks header before then old mid c.in-Ok-Whole.field-0 c.in-Ok-Whole.index c.in-Ok-Whole.field-0-is c.in-Ok-Whole.ensures.opened in
    let a = side_view g.D.Disk g.R.Report c.args.first in
    let b = side_view g.E.Disk g.Q.Report c.args.second in
    let b' = side_view g.E.Disk g.Q.Report c.differ_first_expanded-over.result.1 in
    let side = c.differ_first_expanded-over.result.0 in
    let told = g.R.Report.told side.report in
    let out = sink_view g.O.Sink c.args.out.now in
    let last = sink_view g.O.Sink c.differ_first_expanded-over.new.out in
    let note = sink_view g.N.Sink c.args.note.now in
    let noted = sink_view g.N.Sink c.differ_first_expanded-over.new.note in
    let status = c.differ_first_expanded-over.result.2 in
    subst (λ disk. DiffersAny c.args.first_only a (side_view g.D.Disk g.R.Report (record { disk = disk; report = c.given_back.result.report; header = side.header })) b b' status out last note noted) (sym c.given_back.ensures.disk)
    (subst (λ report. DiffersAny c.args.first_only a (side_view g.D.Disk g.R.Report (record { disk = side.disk.disk; report = report; header = side.header })) b b' status out last note noted) (sym c.given_back.ensures.report)
    (unpacks (DiffersOver c.args.first_only mid told b b' status out last note noted) (DiffersOver c.args.first_only old told b b' status out last note noted)
    (λ found. IsUncompared First found old told b.told b'.told status out last note noted)
    (LacksMemory mid told b.told b'.told status out last note noted) (LacksMemory old told b.told b'.told status out last note noted)
    content (g.D.Disk.content c.open.new.disk) blocks header before then (g.D.Disk.faults side.disk.disk) c.in-Ok-Whole.index
    c.open.ensures.content c.open.ensures.faults
    (over_since c.args.first_only old mid told b b' status out last note noted opens.0) (first_lacks_since old mid told b.told b'.told status out last note noted opens.0) opens.1
    c.differ_first_expanded-over.ensures.outcome))

pub returns-in-Ok-Whole-clause-first : goal.returns-in-Ok-Whole-clause-first
returns-in-Ok-Whole-clause-first g c =
    let given = c.given_back.ensures.disk in
    let same = c.differ_first_expanded-over.ensures.same in
    let there = c.differ_first_expanded-over.result.0.disk.disk in
    let later : g.D.Disk.faults c.open.new.disk ≤ g.D.Disk.faults there = c.differ_first_expanded-over.ensures.faults in
    let is : g.D.Disk.faults c.given_back.result.disk ≡ g.D.Disk.faults there = ap g.D.Disk.faults given in
    record {
      content = ap g.D.Disk.content given ∙ same.content ∙ c.open.ensures.content;
      blocks = ap g.D.Disk.block_count given ∙ same.blocks ∙ c.open.ensures.blocks;
      faults = omega (arith, is, later, c.open.ensures.faults);
      orders = ap g.D.Disk.orders given ∙ same.orders ∙ c.open.ensures.orders;
      header = c.given_back.ensures.header ∙ c.differ_first_expanded-over.ensures.header;
    }

pub returns-in-Err-clause-outcome : goal.returns-in-Err-clause-outcome
returns-in-Err-clause-outcome g c =
    let out = sink_view g.O.Sink c.args.out.now in
    let last = sink_view g.O.Sink c.tell-status-in-Err.new.out in
    let note = sink_view g.N.Sink c.args.note.now in
    let noted = sink_view g.N.Sink c.tell-status-in-Err.new.note in
    let status = c.tell-status-in-Err.result in
    no_memory (c.in-Err.ensures.untold, refl, subst (λ (r : RunResult). IsTold r status out last note noted) c.no_memory.ensures.told c.tell-status-in-Err.ensures.told)

pub returns-in-Ok-Refused-clause-cause : goal.returns-in-Ok-Refused-clause-cause
returns-in-Ok-Refused-clause-cause g c =
    refused_cause c.has_findings.result.status c.tell-status.result c.has_findings.ensures.status c.tell-status.ensures.stream c.tell-status.ensures.status

pub returns-in-Err-clause-cause : goal.returns-in-Err-clause-cause
returns-in-Err-clause-cause g c =
    memory_cause c.no_memory.result.status c.tell-status-in-Err.result c.no_memory.ensures.status c.tell-status-in-Err.ensures.stream c.tell-status-in-Err.ensures.status
