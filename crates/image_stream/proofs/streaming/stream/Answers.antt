use Rattle.std.proofs.Common.{◌≡◌, ℕ, List, [], Option, Result, Ok, Err, IfErr, refl, sym, ap, subst, ◌∙◌}
use Rattle.std.proofs.lemmas.Result.{err_from_is_err_and}
use Rattle.definitions.specs.Disk.{Content}
use Rattle.image_check.specs.Told.{Told}
use Rattle.image_pages.specs.Opens.{Opens}
use Rattle.image_pages.specs.Stands.{Stands}
use Rattle.image_pages.specs.declared.opened.Opened.{Opened}
use Rattle.image_pages.specs.declared.pages.Pages.{Pages}
use Rattle.image_stream.specs.Streamed.{IsFront, IsStopped, IsStreamed}
use Rattle.image_stream.specs.declared.streaming.Stop.{Stop}
use Rattle.image_stream.specs.declared.streaming.Streamed.{Streamed}
use Rattle.image_stream.proofs.Composing.{if_ok_map, on_err_map}
use Rattle.image_stream.proofs.Starting.{streamed_earlier, streamed_since}
use Rattle.image_stream.proofs.streaming.stream.Goals as goal

-- pages over a disk that reads as before
stands_on : (c d : Option Content) (m n header : ℕ) (p : Pages) → d ≡ c → n ≡ m → Stands c m header p [] → Stands d n header p []
stands_on c d m n header p e f s =
    subst (λ (x : Option Content). Stands x n header p []) (sym e) (subst (λ (k : ℕ). Stands c k header p []) (sym f) s)

pub returns-in_err-open-clause-stopped : goal.returns-in_err-open-clause-stopped
returns-in_err-open-clause-stopped g c =
    let p = err_from_is_err_and c.from_residual.result c.from_residual.ensures.1 in
    let taken = g.S.Sink.taken c.args.out.now in
    let faults = g.S.Sink.faults c.args.out.now in
    subst (λ (r : Result Streamed Stop). IfErr r (IsStopped (g.D.Disk.content c.args.disk.now) (g.D.Disk.block_count c.args.disk.now) c.args.header faults faults taken taken)) (sym (p.1 ∙ ap Err p.2)) refl

pub returns-in_err-write_pages-in-Plain-clause-stopped : goal.returns-in_err-write_pages-in-Plain-clause-stopped
returns-in_err-write_pages-in-Plain-clause-stopped g c =
    let p = err_from_is_err_and c.from_residual-in_err-write_pages-in-Plain.result c.from_residual-in_err-write_pages-in-Plain.ensures.1 in
    let w = c.in_err-write_pages-in-Plain.ensures in
    let content = g.D.Disk.content c.args.disk.now in
    let blocks = g.D.Disk.block_count c.args.disk.now in
    let old = g.S.Sink.taken c.args.out.now in
    let new = g.S.Sink.taken c.write_pages.new.out in
    let o = subst (Opens content blocks c.args.header (g.D.Disk.faults c.args.disk.now) (g.D.Disk.faults c.open.new.disk) (g.R.Report.told c.args.report.now) (g.R.Report.told c.open.new.report)) c.in-Open.is c.in_ok-open.ensures.opened in
    let start = stands_on content (g.D.Disk.content c.open.new.disk) blocks (g.D.Disk.block_count c.open.new.disk) c.args.header c.in-Open.pages c.open.ensures.content c.open.ensures.blocks o.1 in
    let front = subst (λ (x : Option Content). IsFront x blocks c.args.header old new) c.open.ensures.content
    (subst (λ (n : ℕ). IsFront (g.D.Disk.content c.open.new.disk) n c.args.header old new) c.open.ensures.blocks
    (w.stopped c.args.header start)) in
    subst (λ (r : Result Streamed Stop). IfErr r (IsStopped content blocks c.args.header (g.S.Sink.faults c.args.out.now) (g.S.Sink.faults c.write_pages.new.out) old new)) (sym (p.1 ∙ ap Err p.2)) (w.cause, front)

pub returns-in_ok-write_pages-in-Plain-clause-streamed : goal.returns-in_ok-write_pages-in-Plain-clause-streamed
returns-in_ok-write_pages-in-Plain-clause-streamed g c =
    let w = c.in_ok-write_pages-in-Plain.ensures in
    let content = g.D.Disk.content c.args.disk.now in
    let blocks = g.D.Disk.block_count c.args.disk.now in
    let before = g.D.Disk.faults c.args.disk.now in
    let then = g.D.Disk.faults c.open.new.disk in
    let now = g.D.Disk.faults c.write_pages.new.disk in
    let told = g.R.Report.told c.args.report.now in
    let end = g.R.Report.told c.write_pages.new.report in
    let old = g.S.Sink.taken c.args.out.now in
    let new = g.S.Sink.taken c.write_pages.new.out in
    let s = c.in_ok-write_pages-in-Plain.field-0 in
    let o = subst (Opens content blocks c.args.header before then told (g.R.Report.told c.open.new.report)) c.in-Open.is c.in_ok-open.ensures.opened in
    let start = stands_on content (g.D.Disk.content c.open.new.disk) blocks (g.D.Disk.block_count c.open.new.disk) c.args.header c.in-Open.pages c.open.ensures.content c.open.ensures.blocks o.1 in
    streamed_earlier content blocks c.args.header before then now told end old new s c.open.ensures.faults
    (subst (λ (t : Told). IsStreamed content blocks c.args.header then now t end old new s) o.0
    (subst (λ (x : Option Content). IsStreamed x blocks c.args.header then now (g.R.Report.told c.open.new.report) end old new s) c.open.ensures.content
    (subst (λ (n : ℕ). IsStreamed (g.D.Disk.content c.open.new.disk) n c.args.header then now (g.R.Report.told c.open.new.report) end old new s) c.open.ensures.blocks
    (w.streamed c.args.header start))))

pub convert-requires-clause-stands : goal.convert-requires-clause-stands
convert-requires-clause-stands g c =
    let content = g.D.Disk.content c.args.disk.now in
    let blocks = g.D.Disk.block_count c.args.disk.now in
    let o = subst (Opens content blocks c.args.header (g.D.Disk.faults c.args.disk.now) (g.D.Disk.faults c.open.new.disk) (g.R.Report.told c.args.report.now) (g.R.Report.told c.open.new.report)) c.in-Open.is c.in_ok-open.ensures.opened in
    (c.args.header, stands_on content (g.D.Disk.content c.open.new.disk) blocks (g.D.Disk.block_count c.open.new.disk) c.args.header c.in-Open.pages c.open.ensures.content c.open.ensures.blocks o.1)

pub returns-in-SkipZeros-clause-stopped : goal.returns-in-SkipZeros-clause-stopped
returns-in-SkipZeros-clause-stopped g c =
    let content = g.D.Disk.content c.args.disk.now in
    let blocks = g.D.Disk.block_count c.args.disk.now in
    let after = g.D.Disk.content c.open.new.disk in
    let many = g.D.Disk.block_count c.open.new.disk in
    let header = c.args.header in
    let old = g.S.Sink.taken c.args.out.now in
    let new = g.S.Sink.taken c.convert.new.out in
    let o = subst (Opens content blocks header (g.D.Disk.faults c.args.disk.now) (g.D.Disk.faults c.open.new.disk) (g.R.Report.told c.args.report.now) (g.R.Report.told c.open.new.report)) c.in-Open.is c.in_ok-open.ensures.opened in
    let start = stands_on content after blocks many header c.in-Open.pages c.open.ensures.content c.open.ensures.blocks o.1 in
    let first = g.S.Sink.faults c.args.out.now in
    let last = g.S.Sink.faults c.convert.new.out in
    subst (λ (x : Option Content). IfErr c.convert.result (IsStopped x blocks header first last old new)) c.open.ensures.content
    (subst (λ (k : ℕ). IfErr c.convert.result (IsStopped after k header first last old new)) c.open.ensures.blocks
    (c.convert.ensures.stopped header start))

pub returns-in-SkipZeros-clause-streamed : goal.returns-in-SkipZeros-clause-streamed
returns-in-SkipZeros-clause-streamed g c =
    let content = g.D.Disk.content c.args.disk.now in
    let blocks = g.D.Disk.block_count c.args.disk.now in
    let after = g.D.Disk.content c.open.new.disk in
    let many = g.D.Disk.block_count c.open.new.disk in
    let header = c.args.header in
    let old = g.S.Sink.taken c.args.out.now in
    let new = g.S.Sink.taken c.convert.new.out in
    let o = subst (Opens content blocks header (g.D.Disk.faults c.args.disk.now) (g.D.Disk.faults c.open.new.disk) (g.R.Report.told c.args.report.now) (g.R.Report.told c.open.new.report)) c.in-Open.is c.in_ok-open.ensures.opened in
    let start = stands_on content after blocks many header c.in-Open.pages c.open.ensures.content c.open.ensures.blocks o.1 in
    let before = g.D.Disk.faults c.args.disk.now in
    let then = g.D.Disk.faults c.open.new.disk in
    let now = g.D.Disk.faults c.convert.new.disk in
    let told = g.R.Report.told c.args.report.now in
    let between = g.R.Report.told c.open.new.report in
    let end = g.R.Report.told c.convert.new.report in
    if_ok_map c.convert.result (IsStreamed after many header then now between end old new) (IsStreamed content blocks header before now told end old new)
    (λ s w. streamed_since after content many blocks header before then now told between end old new s c.open.ensures.content c.open.ensures.blocks o.0 c.open.ensures.faults w)
    (c.convert.ensures.streamed header start)

pub returns-in-SkipZeros-clause-untold : goal.returns-in-SkipZeros-clause-untold
returns-in-SkipZeros-clause-untold g c =
    let content = g.D.Disk.content c.args.disk.now in
    let blocks = g.D.Disk.block_count c.args.disk.now in
    let after = g.D.Disk.content c.open.new.disk in
    let many = g.D.Disk.block_count c.open.new.disk in
    let header = c.args.header in
    let old = g.S.Sink.taken c.args.out.now in
    let new = g.S.Sink.taken c.convert.new.out in
    let o = subst (Opens content blocks header (g.D.Disk.faults c.args.disk.now) (g.D.Disk.faults c.open.new.disk) (g.R.Report.told c.args.report.now) (g.R.Report.told c.open.new.report)) c.in-Open.is c.in_ok-open.ensures.opened in
    let start = stands_on content after blocks many header c.in-Open.pages c.open.ensures.content c.open.ensures.blocks o.1 in
    on_err_map c.convert.result (g.R.Report.told c.convert.new.report ≡ g.R.Report.told c.open.new.report) (g.R.Report.told c.convert.new.report ≡ g.R.Report.told c.args.report.now)
    (λ e. e ∙ o.0) c.convert.ensures.untold
