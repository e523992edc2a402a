use Rattle.std.proofs.Common.{◌≡◌, ◌≤◌, ◌∙◌, ℕ, [], Option, Result, Err, IfErr, sym, ap, subst, arith}
use Rattle.std.proofs.lemmas.Result.{err_from_is_err_and}
use Rattle.definitions.specs.Disk.{Content}
use Rattle.image_check.specs.Info.{counts_in}
use Rattle.image_pages.specs.Numbered.{HasNumbered}
use Rattle.image_core.specs.Cores.{IsStopped}
use Rattle.image_core.specs.declared.counting.Tally.{Tally}
use Rattle.image_core.specs.declared.stop.Stop.{Stop}
use Rattle.image_core.proofs.Since.{info_in_chain, over, stopped_since}
use Rattle.image_core.proofs.counting.count_image.Goals as goal

pub returns-then-count-from-clause-stopped : goal.returns-then-count-from-clause-stopped
returns-then-count-from-clause-stopped g c =
    let content = g.D.Disk.content c.args.disk.now in
    let blocks = g.D.Disk.block_count c.args.disk.now in
    let numbers = c.in_ok-numbers.numbers in
    let has = c.in_ok-numbers.ensures.opened in
    let count = c.count-count.ensures.count content blocks c.args.header [] has in
    let many : 4294967295 ≤ (counts_in numbers.info).image_pages = omega (arith, count, c.if-count-from.true, c.from.ensures) in
    ((numbers.info, info_in_chain content blocks c.args.header numbers.pages numbers.info has.listed has.stands, many), c.in_ok-numbers.ensures.told)

pub returns-in_err-runs-clause-stopped : goal.returns-in_err-runs-clause-stopped
returns-in_err-runs-clause-stopped g c =
    let content = g.D.Disk.content c.args.disk.now in
    let blocks = g.D.Disk.block_count c.args.disk.now in
    let after = g.D.Disk.content c.open.new.disk in
    let many = g.D.Disk.block_count c.open.new.disk in
    let before = g.D.Disk.faults c.args.disk.now in
    let then = g.D.Disk.faults c.open.new.disk in
    let now = g.D.Disk.faults c.count_runs.new.disk in
    let told = g.R.Report.told c.args.report.now in
    let old = g.R.Report.told c.open.new.report in
    let end = g.R.Report.told c.count_runs.new.report in
    let has = c.in_ok-numbers.ensures.opened in
    let count = c.count-count.ensures.count content blocks c.args.header [] has in
    let start = over (λ (x : Option Content) (k : ℕ). HasNumbered x k c.args.header c.in_ok-numbers.numbers []) content after blocks many (sym c.open.ensures.content) (sym c.open.ensures.blocks) has in
    let stopped = c.in_err-runs.ensures.stopped c.args.header start (sym count) in
    let p = err_from_is_err_and c.from_residual-in_err-runs.result c.from_residual-in_err-runs.ensures.1 in
    subst (λ (r : Result Tally Stop). IfErr r (IsStopped content blocks c.args.header before now told end 0 0)) (sym (p.1 ∙ ap Err p.2))
    (stopped_since after content many blocks c.args.header before then now told old end 0 0 c.in_err-runs.field-0.0 c.open.ensures.content c.open.ensures.blocks c.in_ok-numbers.ensures.told c.open.ensures.faults stopped)
