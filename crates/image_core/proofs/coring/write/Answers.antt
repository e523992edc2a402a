use Rattle.std.proofs.Common.{◌≡◌, ◌≤◌, ◌∙◌, ℕ, List, [], Option, Result, Err, IfErr, refl, sym, ap, subst, arith}
use Rattle.std.proofs.lemmas.Result.{err_from_is_err_and}
use Rattle.definitions.specs.Disk.{Content}
use Rattle.image_pages.specs.Given.{HasGiven}
use Rattle.image_core.specs.Cores.{IsStopped, IsUnwritten}
use Rattle.image_core.specs.Counted.{HasTallied}
use Rattle.image_core.specs.Parts.{HasPages}
use Rattle.image_core.specs.Ready.{IsReady}
use Rattle.image_core.specs.declared.stop.Stop.{Stop}
use Rattle.image_core.proofs.Composing.{back_cut, front_cut, loads_cut, pages_cut, written}
use Rattle.image_core.proofs.Outcomes.{if_err_then, on_err_of, on_err_then, on_ok_then}
use Rattle.image_core.proofs.Paging.{IsPageFront, pages_earlier}
use Rattle.image_core.proofs.RunLaws.{few_runs}
use Rattle.image_core.proofs.Since.{over, risen_earlier, sink_earlier, stopped_since}
use Rattle.image_core.proofs.coring.write.Goals as goal

pub returns-in_err-put_front-clause-stopped : goal.returns-in_err-put_front-clause-stopped
returns-in_err-put_front-clause-stopped g c = λ header ready.
    let p = err_from_is_err_and c.from_residual.result c.from_residual.ensures.1 in
    let told = g.R.Report.told c.args.report.now in
    let faults = g.D.Disk.faults c.args.disk.now in
    subst (λ (r : Result (Unit {0}) Stop). IfErr r (IsStopped (g.D.Disk.content c.args.disk.now) (g.D.Disk.block_count c.args.disk.now) header faults faults told told (g.S.Sink.faults c.args.out.now) (g.S.Sink.faults c.put_front.new.out))) (sym (p.1 ∙ ap Err p.2))
    (c.in_err-put_front.ensures.cause, refl)

pub returns-in_err-put_front-clause-front : goal.returns-in_err-put_front-clause-front
returns-in_err-put_front-clause-front g c = λ header ready.
    on_err_of c.from_residual.result
    (front_cut (g.D.Disk.content c.args.disk.now) header c.args.ready.now.tally c.args.ready.now.info (g.S.Sink.taken c.args.out.now) (g.S.Sink.taken c.put_front.new.out) ready.tallied ready.info c.put_front.ensures.front)

pub returns-in_err-write_loads-clause-stopped : goal.returns-in_err-write_loads-clause-stopped
returns-in_err-write_loads-clause-stopped g c = λ header ready.
    let p = err_from_is_err_and c.from_residual-in_err-write_loads.result c.from_residual-in_err-write_loads.ensures.1 in
    let content = g.D.Disk.content c.args.disk.now in
    let blocks = g.D.Disk.block_count c.args.disk.now in
    let before = g.D.Disk.faults c.args.disk.now in
    let now = g.D.Disk.faults c.write_loads.new.disk in
    let told = g.R.Report.told c.args.report.now in
    let end = g.R.Report.told c.write_loads.new.report in
    let first = g.S.Sink.faults c.args.out.now in
    let mid = g.S.Sink.faults c.put_front.new.out in
    let last = g.S.Sink.faults c.write_loads.new.out in
    subst (λ (r : Result (Unit {0}) Stop). IfErr r (IsStopped content blocks header before now told end first last)) (sym (p.1 ∙ ap Err p.2))
    (sink_earlier content blocks header before now told end first mid last c.in_err-write_loads.field-0.0 c.put_front.ensures.counted (c.in_err-write_loads.ensures.stopped header ready.numbered ready.tallied))

pub returns-in_err-write_loads-clause-front : goal.returns-in_err-write_loads-clause-front
returns-in_err-write_loads-clause-front g c = λ header ready.
    on_err_of c.from_residual-in_err-write_loads.result
    (loads_cut (g.D.Disk.content c.args.disk.now) header c.args.ready.now.tally c.args.ready.now.info (g.S.Sink.taken c.args.out.now) (g.S.Sink.taken c.put_front.new.out) (g.S.Sink.taken c.write_loads.new.out) ready.tallied ready.info c.in_ok-put_front.ensures.whole (c.in_err-write_loads.ensures.front header ready.numbered ready.tallied))

pub returns-in_err-put_back-clause-stopped : goal.returns-in_err-put_back-clause-stopped
returns-in_err-put_back-clause-stopped g c = λ header ready.
    let p = err_from_is_err_and c.from_residual-in_err-put_back.result c.from_residual-in_err-put_back.ensures.1 in
    let content = g.D.Disk.content c.args.disk.now in
    let blocks = g.D.Disk.block_count c.args.disk.now in
    let before = g.D.Disk.faults c.args.disk.now in
    let now = g.D.Disk.faults c.write_loads.new.disk in
    let told = g.R.Report.told c.args.report.now in
    let end = g.R.Report.told c.write_loads.new.report in
    let first = g.S.Sink.faults c.args.out.now in
    let mid = g.S.Sink.faults c.write_loads.new.out in
    let last = g.S.Sink.faults c.put_back.new.out in
    let le : first ≤ mid = omega (arith, c.put_front.ensures.counted, c.write_loads.ensures.counted) in
    subst (λ (r : Result (Unit {0}) Stop). IfErr r (IsStopped content blocks header before now told end first last)) (sym (p.1 ∙ ap Err p.2))
    (risen_earlier first mid last le c.in_err-put_back.ensures.cause, c.in_ok-write_loads.ensures.told)

pub returns-in_err-put_back-clause-front : goal.returns-in_err-put_back-clause-front
returns-in_err-put_back-clause-front g c = λ header ready.
    on_err_of c.from_residual-in_err-put_back.result
    (back_cut (g.D.Disk.content c.args.disk.now) header c.args.ready.now.tally c.args.ready.now.info (g.S.Sink.taken c.args.out.now) (g.S.Sink.taken c.put_front.new.out) (g.S.Sink.taken c.write_loads.new.out) (g.S.Sink.taken c.put_back.new.out) ready.tallied ready.info c.in_ok-put_front.ensures.whole (c.in_ok-write_loads.ensures.listed header ready.numbered ready.tallied) c.put_back.ensures.front)

pub write_pages-requires : goal.write_pages-requires
write_pages-requires g c =
    let (header, ready) = c.requires in
    let content = g.D.Disk.content c.args.disk.now in
    let after = g.D.Disk.content c.write_loads.new.disk in
    let framed = over (λ (x : Option Content) (k : ℕ). HasGiven x k header c.args.ready.now.frames []) content after (g.D.Disk.block_count c.args.disk.now) (g.D.Disk.block_count c.write_loads.new.disk) (sym c.write_loads.ensures.content) (sym c.write_loads.ensures.blocks) ready.framed in
    (header, (framed, subst (λ (x : Option Content). HasTallied x header c.args.ready.now.tally) (sym c.write_loads.ensures.content) ready.tallied))

pub returns-clause-written : goal.returns-clause-written
returns-clause-written g c = λ header ready.
    let content = g.D.Disk.content c.args.disk.now in
    let blocks = g.D.Disk.block_count c.args.disk.now in
    let after = g.D.Disk.content c.write_loads.new.disk in
    let many = g.D.Disk.block_count c.write_loads.new.disk in
    let before = g.D.Disk.faults c.args.disk.now in
    let then = g.D.Disk.faults c.write_loads.new.disk in
    let now = g.D.Disk.faults c.write_pages.new.disk in
    let tally = c.args.ready.now.tally in
    let mid = g.S.Sink.taken c.put_back.new.out in
    let new = g.S.Sink.taken c.write_pages.new.out in
    let framed = over (λ (x : Option Content) (k : ℕ). HasGiven x k header c.args.ready.now.frames []) content after blocks many (sym c.write_loads.ensures.content) (sym c.write_loads.ensures.blocks) ready.framed in
    let tallied = subst (λ (x : Option Content). HasTallied x header tally) (sym c.write_loads.ensures.content) ready.tallied in
    on_ok_then c.write_pages.result
    (λ (pages : HasPages after many header then now tally mid new).
    written content blocks header before now tally c.args.ready.now.info (g.S.Sink.taken c.args.out.now) (g.S.Sink.taken c.put_front.new.out) (g.S.Sink.taken c.write_loads.new.out) mid new ready.tallied ready.info c.in_ok-put_front.ensures.whole (c.in_ok-write_loads.ensures.listed header ready.numbered ready.tallied) c.in_ok-put_back.ensures.whole
    (pages_earlier after content many blocks header before then now tally mid new c.write_loads.ensures.content c.write_loads.ensures.blocks c.write_loads.ensures.faults pages))
    (c.write_pages.ensures.written header framed tallied)

pub returns-clause-told : goal.returns-clause-told
returns-clause-told g c =
    let told = g.R.Report.told c.args.report.now in
    let old = g.R.Report.told c.write_loads.new.report in
    let end = g.R.Report.told c.write_pages.new.report in
    on_ok_then c.write_pages.result (λ (e : end ≡ old). e ∙ c.in_ok-write_loads.ensures.told) c.write_pages.ensures.told

pub returns-clause-stopped : goal.returns-clause-stopped
returns-clause-stopped g c = λ header ready.
    let content = g.D.Disk.content c.args.disk.now in
    let blocks = g.D.Disk.block_count c.args.disk.now in
    let after = g.D.Disk.content c.write_loads.new.disk in
    let many = g.D.Disk.block_count c.write_loads.new.disk in
    let before = g.D.Disk.faults c.args.disk.now in
    let then = g.D.Disk.faults c.write_loads.new.disk in
    let now = g.D.Disk.faults c.write_pages.new.disk in
    let told = g.R.Report.told c.args.report.now in
    let old = g.R.Report.told c.write_loads.new.report in
    let end = g.R.Report.told c.write_pages.new.report in
    let first = g.S.Sink.faults c.args.out.now in
    let mid = g.S.Sink.faults c.put_back.new.out in
    let last = g.S.Sink.faults c.write_pages.new.out in
    let le : first ≤ mid = omega (arith, c.put_front.ensures.counted, c.write_loads.ensures.counted, c.put_back.ensures.counted) in
    let framed = over (λ (x : Option Content) (k : ℕ). HasGiven x k header c.args.ready.now.frames []) content after blocks many (sym c.write_loads.ensures.content) (sym c.write_loads.ensures.blocks) ready.framed in
    let tallied = subst (λ (x : Option Content). HasTallied x header c.args.ready.now.tally) (sym c.write_loads.ensures.content) ready.tallied in
    if_err_then c.write_pages.result (IsStopped after many header then now old end mid last) (IsStopped content blocks header before now told end first last)
    (λ (s : Stop) (h : IsStopped after many header then now old end mid last s).
    sink_earlier content blocks header before now told end first mid last s le
    (stopped_since after content many blocks header before then now told old end mid last s c.write_loads.ensures.content c.write_loads.ensures.blocks c.in_ok-write_loads.ensures.told c.write_loads.ensures.faults h))
    (c.write_pages.ensures.stopped header framed tallied)

pub returns-clause-front : goal.returns-clause-front
returns-clause-front g c = λ header ready.
    let content = g.D.Disk.content c.args.disk.now in
    let blocks = g.D.Disk.block_count c.args.disk.now in
    let after = g.D.Disk.content c.write_loads.new.disk in
    let many = g.D.Disk.block_count c.write_loads.new.disk in
    let mid = g.S.Sink.taken c.put_back.new.out in
    let new = g.S.Sink.taken c.write_pages.new.out in
    let tally = c.args.ready.now.tally in
    let framed = over (λ (x : Option Content) (k : ℕ). HasGiven x k header c.args.ready.now.frames []) content after blocks many (sym c.write_loads.ensures.content) (sym c.write_loads.ensures.blocks) ready.framed in
    let tallied = subst (λ (x : Option Content). HasTallied x header tally) (sym c.write_loads.ensures.content) ready.tallied in
    on_err_then c.write_pages.result
    (λ (front : IsPageFront after header mid new).
    pages_cut content header tally c.args.ready.now.info (g.S.Sink.taken c.args.out.now) (g.S.Sink.taken c.put_front.new.out) (g.S.Sink.taken c.write_loads.new.out) mid new ready.tallied ready.info c.in_ok-put_front.ensures.whole (c.in_ok-write_loads.ensures.listed header ready.numbered ready.tallied) c.in_ok-put_back.ensures.whole
    (subst (λ (x : Option Content). IsPageFront x header mid new) c.write_loads.ensures.content front))
    (c.write_pages.ensures.front header framed tallied)

pub put_back-requires : goal.put_back-requires
put_back-requires g c =
    let (header, ready) = c.requires in
    let t = ready.tallied in
    omega (arith, t.few, t.counted.size, t.counted.count, few_runs t.counted.numbers)

pub returns-in_err-write_loads-clause-late : goal.returns-in_err-write_loads-clause-late
returns-in_err-write_loads-clause-late g c =
    let p = err_from_is_err_and c.from_residual-in_err-write_loads.result c.from_residual-in_err-write_loads.ensures.1 in
    let old = g.S.Sink.taken c.args.out.now in
    let new = g.S.Sink.taken c.write_loads.new.out in
    subst (λ (r : Result (Unit {0}) Stop). IfErr r (IsUnwritten old new)) (sym (p.1 ∙ ap Err p.2)) (c.in_err-write_loads.ensures.late old new)

pub returns-clause-late : goal.returns-clause-late
returns-clause-late g c = c.write_pages.ensures.late (g.S.Sink.taken c.args.out.now) (g.S.Sink.taken c.write_pages.new.out)
