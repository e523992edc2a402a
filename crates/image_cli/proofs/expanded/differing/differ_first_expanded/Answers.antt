use Rattle.std.proofs.Common.{◌∙◌, sym, refl, subst}
use Rattle.command_kit.specs.Told.{RunResult}
use Rattle.command_kit.specs.Told.{IsTold}
use Rattle.command_kit.specs.View.{sink_view}
use Rattle.image_differ.specs.Sides.{side_view}
use Rattle.image_cli.proofs.Causes.{memory_cause}
use Rattle.expanded_disk.specs.Keeps.{FailsWith}
use Rattle.image_cli.specs.ExpandedDiffers.{DiffersOver, LacksMemory}
use Rattle.image_cli.specs.Runs.{lacks}
use Rattle.image_cli.proofs.Comparing.{over_read}
use Rattle.image_cli.proofs.Running.{over_expanded}
use Rattle.image_cli.proofs.expanded.differing.differ_first_expanded.Goals as goal

pub returns-in-Ok-clause-outcome : goal.returns-in-Ok-clause-outcome
returns-in-Ok-clause-outcome g c =
    let state = g.K.Original.state in
    let told = g.R.Report.told c.args.first.side.report in
    let told' = g.R.Report.told c.differ_second-over.new.first.report in
    let b = side_view g.E.Disk g.Q.Report c.args.second in
    let b' = side_view g.E.Disk g.Q.Report c.differ_second-over.result.0 in
    let out = sink_view g.O.Sink c.args.out.now in
    let last = sink_view g.O.Sink c.differ_second-over.new.out in
    let note = sink_view g.N.Sink c.args.note.now in
    let noted = sink_view g.N.Sink c.differ_second-over.new.note in
    let status = c.differ_second-over.result.1 in
    over_expanded (DiffersOver c.args.first_only told told' b b' status out last note noted) (LacksMemory told told' b.told b'.told status out last note noted)
    state.content _ c.args.first.side.header _ _ _ state.faults (g.B.ReadOnly.state c.into_below.result).faults c.args.first.index
    c.in-Ok.ensures.content c.in-Ok.ensures.blocks c.in-Ok.ensures.faults
    (subst (λ below. FailsWith state.content state.faults (g.B.ReadOnly.state below).faults c.differ_second-over.new.first.disk.faults) (sym c.into_below.ensures.below)
    (c.into_source.ensures.cause c.args.first.side.header (c.differ_second-over.ensures.first.content ∙ c.in-Ok.ensures.content) (c.differ_second-over.ensures.first.orders ∙ c.in-Ok.ensures.orders)))
    (over_read c.args.first_only _ _ b b' status out last note noted c.differ_second-over.ensures.first c.differ_second-over.ensures.outcome)

pub returns-in-Err-clause-outcome : goal.returns-in-Err-clause-outcome
returns-in-Err-clause-outcome g c =
    let out = sink_view g.O.Sink c.args.out.now in
    let last = sink_view g.O.Sink c.tell-status.new.out in
    let note = sink_view g.N.Sink c.args.note.now in
    let noted = sink_view g.N.Sink c.tell-status.new.note in
    let status = c.tell-status.result in
    lacks (refl, refl, subst (λ (r : RunResult). IsTold r status out last note noted) c.no_memory.ensures.told c.tell-status.ensures.told)

pub returns-in-Err-clause-cause : goal.returns-in-Err-clause-cause
returns-in-Err-clause-cause g c =
    memory_cause c.no_memory.result.status c.tell-status.result c.no_memory.ensures.status c.tell-status.ensures.stream c.tell-status.ensures.status
