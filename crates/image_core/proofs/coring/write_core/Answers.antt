use Rattle.std.proofs.Common.{◌≡◌, ◌≤◌, ◌∙◌, ℕ, List, Option, Result, Err, IfErr, sym, ap, subst}
use Rattle.std.proofs.lemmas.Result.{err_from_is_err_and}
use Rattle.definitions.specs.Disk.{Content}
use Rattle.image_core.specs.Cores.{IsFront, IsStopped, IsUnwritten, IsWritten}
use Rattle.image_core.specs.Ready.{IsReady}
use Rattle.image_core.specs.declared.stop.Stop.{Stop}
use Rattle.image_core.proofs.Composing.{front_none, unwritten_yet, written_earlier}
use Rattle.image_core.proofs.Outcomes.{if_err_then, on_err_of, on_err_then, on_ok_then}
use Rattle.image_core.proofs.Since.{over, stopped_since, stopped_without}
use Rattle.image_core.proofs.coring.write_core.Goals as goal

pub returns-in_err-ready-clause-stopped : goal.returns-in_err-ready-clause-stopped
returns-in_err-ready-clause-stopped g c =
    let p = err_from_is_err_and c.from_residual.result c.from_residual.ensures.1 in
    let content = g.D.Disk.content c.args.disk.now in
    let blocks = g.D.Disk.block_count c.args.disk.now in
    let before = g.D.Disk.faults c.args.disk.now in
    let now = g.D.Disk.faults c.make_ready.new.disk in
    let told = g.R.Report.told c.args.report.now in
    let end = g.R.Report.told c.make_ready.new.report in
    let faults = g.S.Sink.faults c.args.out.now in
    subst (λ (r : Result (Unit {0}) Stop). IfErr r (IsStopped content blocks c.args.header before now told end faults faults)) (sym (p.1 ∙ ap Err p.2))
    (stopped_without content blocks c.args.header before now told end faults faults c.in_err-ready.field-0.0 c.in_err-ready.ensures.stopped)

pub returns-in_err-ready-clause-front : goal.returns-in_err-ready-clause-front
returns-in_err-ready-clause-front g c =
    on_err_of c.from_residual.result (front_none (g.D.Disk.content c.args.disk.now) c.args.header (g.S.Sink.taken c.args.out.now))

pub returns-in_err-ready-clause-unwritten : goal.returns-in_err-ready-clause-unwritten
returns-in_err-ready-clause-unwritten g c =
    let p = err_from_is_err_and c.from_residual.result c.from_residual.ensures.1 in
    let taken = g.S.Sink.taken c.args.out.now in
    subst (λ (r : Result (Unit {0}) Stop). IfErr r (IsUnwritten taken taken)) (sym (p.1 ∙ ap Err p.2)) (unwritten_yet taken c.in_err-ready.field-0.0)

pub write-requires : goal.write-requires
write-requires g c =
    (c.args.header, over (λ (x : Option Content) (k : ℕ). IsReady x k c.args.header c.in_ok-ready.ready) (g.D.Disk.content c.args.disk.now) (g.D.Disk.content c.make_ready.new.disk) (g.D.Disk.block_count c.args.disk.now) (g.D.Disk.block_count c.make_ready.new.disk) (sym c.make_ready.ensures.content) (sym c.make_ready.ensures.blocks) c.in_ok-ready.ensures.ready)

pub returns-clause-written : goal.returns-clause-written
returns-clause-written g c =
    let content = g.D.Disk.content c.args.disk.now in
    let blocks = g.D.Disk.block_count c.args.disk.now in
    let after = g.D.Disk.content c.make_ready.new.disk in
    let many = g.D.Disk.block_count c.make_ready.new.disk in
    let then = g.D.Disk.faults c.make_ready.new.disk in
    let now = g.D.Disk.faults c.write.new.disk in
    let old = g.S.Sink.taken c.args.out.now in
    let new = g.S.Sink.taken c.write.new.out in
    let h = c.args.header in
    let ready = over (λ (x : Option Content) (k : ℕ). IsReady x k h c.in_ok-ready.ready) content after blocks many (sym c.make_ready.ensures.content) (sym c.make_ready.ensures.blocks) c.in_ok-ready.ensures.ready in
    on_ok_then c.write.result
    (λ (w : IsWritten after many h then now old new). written_earlier after content many blocks h (g.D.Disk.faults c.args.disk.now) then now old new c.make_ready.ensures.content c.make_ready.ensures.blocks c.make_ready.ensures.faults w)
    (c.write.ensures.written h ready)

pub returns-clause-told : goal.returns-clause-told
returns-clause-told g c =
    let old = g.R.Report.told c.make_ready.new.report in
    let end = g.R.Report.told c.write.new.report in
    on_ok_then c.write.result (λ (e : end ≡ old). e ∙ c.in_ok-ready.ensures.told) c.write.ensures.told

pub returns-clause-stopped : goal.returns-clause-stopped
returns-clause-stopped g c =
    let content = g.D.Disk.content c.args.disk.now in
    let blocks = g.D.Disk.block_count c.args.disk.now in
    let after = g.D.Disk.content c.make_ready.new.disk in
    let many = g.D.Disk.block_count c.make_ready.new.disk in
    let before = g.D.Disk.faults c.args.disk.now in
    let then = g.D.Disk.faults c.make_ready.new.disk in
    let now = g.D.Disk.faults c.write.new.disk in
    let told = g.R.Report.told c.args.report.now in
    let old = g.R.Report.told c.make_ready.new.report in
    let end = g.R.Report.told c.write.new.report in
    let first = g.S.Sink.faults c.args.out.now in
    let last = g.S.Sink.faults c.write.new.out in
    let h = c.args.header in
    let ready = over (λ (x : Option Content) (k : ℕ). IsReady x k h c.in_ok-ready.ready) content after blocks many (sym c.make_ready.ensures.content) (sym c.make_ready.ensures.blocks) c.in_ok-ready.ensures.ready in
    if_err_then c.write.result (IsStopped after many h then now old end first last) (IsStopped content blocks h before now told end first last)
    (λ (s : Stop) (stopped : IsStopped after many h then now old end first last s).
    stopped_since after content many blocks h before then now told old end first last s c.make_ready.ensures.content c.make_ready.ensures.blocks c.in_ok-ready.ensures.told c.make_ready.ensures.faults stopped)
    (c.write.ensures.stopped h ready)

pub returns-clause-front : goal.returns-clause-front
returns-clause-front g c =
    let content = g.D.Disk.content c.args.disk.now in
    let blocks = g.D.Disk.block_count c.args.disk.now in
    let after = g.D.Disk.content c.make_ready.new.disk in
    let many = g.D.Disk.block_count c.make_ready.new.disk in
    let old = g.S.Sink.taken c.args.out.now in
    let new = g.S.Sink.taken c.write.new.out in
    let h = c.args.header in
    let ready = over (λ (x : Option Content) (k : ℕ). IsReady x k h c.in_ok-ready.ready) content after blocks many (sym c.make_ready.ensures.content) (sym c.make_ready.ensures.blocks) c.in_ok-ready.ensures.ready in
    on_err_then c.write.result (λ (front : IsFront after h old new). subst (λ (x : Option Content). IsFront x h old new) c.make_ready.ensures.content front) (c.write.ensures.front h ready)
