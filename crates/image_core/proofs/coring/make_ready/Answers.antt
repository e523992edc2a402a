use Rattle.std.proofs.Common.{◌≡◌, ◌≤◌, ◌∙◌, ℕ, [], Option, Result, Err, IfErr, sym, ap, subst, arith}
use Rattle.std.proofs.lemmas.Result.{err_from_is_err_and}
use Rattle.definitions.specs.Disk.{Content}
use Rattle.image_pages.specs.Chain.{IsChainPage}
use Rattle.image_pages.specs.Given.{HasGiven}
use Rattle.image_pages.specs.Numbered.{HasNumbered}
use Rattle.image_core.specs.Cores.{IsStopped}
use Rattle.image_core.specs.declared.coring.Ready.{Ready}
use Rattle.image_core.specs.declared.stop.Stop.{Stop}
use Rattle.image_core.proofs.Since.{over, stopped_since}
use Rattle.image_core.proofs.coring.make_ready.Goals as goal

pub returns-in_err-info-clause-stopped : goal.returns-in_err-info-clause-stopped
returns-in_err-info-clause-stopped g c =
    let content = g.D.Disk.content c.args.disk.now in
    let blocks = g.D.Disk.block_count c.args.disk.now in
    let before = g.D.Disk.faults c.args.disk.now in
    let then = g.D.Disk.faults c.count_image.new.disk in
    let now = g.D.Disk.faults c.read_info.new.disk in
    let told = g.R.Report.told c.args.report.now in
    let old = g.R.Report.told c.count_image.new.report in
    let end = g.R.Report.told c.read_info.new.report in
    let p = err_from_is_err_and c.from_residual-in_err-info.result c.from_residual-in_err-info.ensures.1 in
    subst (λ (r : Result Ready Stop). IfErr r (IsStopped content blocks c.args.header before now told end 0 0)) (sym (p.1 ∙ ap Err p.2))
    (stopped_since (g.D.Disk.content c.count_image.new.disk) content (g.D.Disk.block_count c.count_image.new.disk) blocks c.args.header before then now told old end 0 0 c.in_err-info.field-0.0 c.count_image.ensures.content c.count_image.ensures.blocks c.in_ok-tally.ensures.told c.count_image.ensures.faults c.in_err-info.ensures.stopped)

pub returns-in_err-numbers-clause-stopped : goal.returns-in_err-numbers-clause-stopped
returns-in_err-numbers-clause-stopped g c =
    let content = g.D.Disk.content c.args.disk.now in
    let blocks = g.D.Disk.block_count c.args.disk.now in
    let before = g.D.Disk.faults c.args.disk.now in
    let then = g.D.Disk.faults c.read_info.new.disk in
    let now = g.D.Disk.faults c.open.new.disk in
    let told = g.R.Report.told c.args.report.now in
    let old = g.R.Report.told c.read_info.new.report in
    let end = g.R.Report.told c.open.new.report in
    let le : before ≤ then = omega (arith, c.count_image.ensures.faults, c.read_info.ensures.faults) in
    let p = err_from_is_err_and c.from_residual-in_err-numbers.result c.from_residual-in_err-numbers.ensures.1 in
    subst (λ (r : Result Ready Stop). IfErr r (IsStopped content blocks c.args.header before now told end 0 0)) (sym (p.1 ∙ ap Err p.2))
    (stopped_since (g.D.Disk.content c.read_info.new.disk) content (g.D.Disk.block_count c.read_info.new.disk) blocks c.args.header before then now told old end 0 0 c.in_err-numbers.field-0.0 (c.read_info.ensures.content ∙ c.count_image.ensures.content) (c.read_info.ensures.blocks ∙ c.count_image.ensures.blocks) (c.in_ok-info.ensures.told ∙ c.in_ok-tally.ensures.told) le c.in_err-numbers.ensures.stopped)

pub returns-in_err-frames-clause-stopped : goal.returns-in_err-frames-clause-stopped
returns-in_err-frames-clause-stopped g c =
    let content = g.D.Disk.content c.args.disk.now in
    let blocks = g.D.Disk.block_count c.args.disk.now in
    let before = g.D.Disk.faults c.args.disk.now in
    let then = g.D.Disk.faults c.open.new.disk in
    let now = g.D.Disk.faults c.open-2.new.disk in
    let told = g.R.Report.told c.args.report.now in
    let old = g.R.Report.told c.open.new.report in
    let end = g.R.Report.told c.open-2.new.report in
    let le : before ≤ then = omega (arith, c.count_image.ensures.faults, c.read_info.ensures.faults, c.open.ensures.faults) in
    let p = err_from_is_err_and c.from_residual-in_err-frames.result c.from_residual-in_err-frames.ensures.1 in
    subst (λ (r : Result Ready Stop). IfErr r (IsStopped content blocks c.args.header before now told end 0 0)) (sym (p.1 ∙ ap Err p.2))
    (stopped_since (g.D.Disk.content c.open.new.disk) content (g.D.Disk.block_count c.open.new.disk) blocks c.args.header before then now told old end 0 0 c.in_err-frames.field-0.0 (c.open.ensures.content ∙ c.read_info.ensures.content ∙ c.count_image.ensures.content) (c.open.ensures.blocks ∙ c.read_info.ensures.blocks ∙ c.count_image.ensures.blocks) (c.in_ok-numbers.ensures.told ∙ c.in_ok-info.ensures.told ∙ c.in_ok-tally.ensures.told) le c.in_err-frames.ensures.stopped)

pub returns-clause-ready : goal.returns-clause-ready
returns-clause-ready g c =
    let content = g.D.Disk.content c.args.disk.now in
    let blocks = g.D.Disk.block_count c.args.disk.now in
    let h = c.args.header in
    record {
      tallied = c.in_ok-tally.ensures.tallied;
      info = subst (λ (x : Option Content). IsChainPage x h 0 c.in_ok-info.info) c.count_image.ensures.content c.in_ok-info.ensures.page;
      numbered = over (λ (x : Option Content) (k : ℕ). HasNumbered x k h c.in_ok-numbers.numbers []) (g.D.Disk.content c.read_info.new.disk) content (g.D.Disk.block_count c.read_info.new.disk) blocks (c.read_info.ensures.content ∙ c.count_image.ensures.content) (c.read_info.ensures.blocks ∙ c.count_image.ensures.blocks) c.in_ok-numbers.ensures.opened;
      framed = over (λ (x : Option Content) (k : ℕ). HasGiven x k h c.in_ok-frames.frames []) (g.D.Disk.content c.open.new.disk) content (g.D.Disk.block_count c.open.new.disk) blocks (c.open.ensures.content ∙ c.read_info.ensures.content ∙ c.count_image.ensures.content) (c.open.ensures.blocks ∙ c.read_info.ensures.blocks ∙ c.count_image.ensures.blocks) c.in_ok-frames.ensures.opened;
    }
