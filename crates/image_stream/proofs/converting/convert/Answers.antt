use Rattle.std.proofs.Common.{◌≡◌, ◌≤◌, ◌∷◌, [], ℕ, List, Option, Some, None, Result, Ok, Err, IfErr, OnErr, inr, refl, sym, ap, subst, ◌∙◌, arith}
use Rattle.std.proofs.lemmas.Result.{err_from_is_err_and}
use Rattle.definitions.specs.Disk.{HasRisen}
use Rattle.definitions.specs.Streams.{TakesAll, TakesFront}
use Rattle.image_check.specs.Info.{counts_in}
use Rattle.image_check.specs.declared.finding.Counts.{Counts}
use Rattle.image_pages.proofs.Searching.{info_has}
use Rattle.image_stream.specs.Plain.{plain_info}
use Rattle.image_stream.specs.Streamed.{IsStopped}
use Rattle.image_stream.specs.declared.streaming.Stop.{Stop}
use Rattle.image_stream.specs.declared.streaming.Streamed.{Streamed}
use Rattle.image_stream.proofs.Composing.{at_rest, cut_at_info, fork_info, front_of_info, front_on}
use Rattle.image_stream.proofs.Starting.{risen_later, streamed_since}
use Rattle.image_stream.proofs.converting.convert.Goals as goal

on_err_any : {A E : Type 0} (r : Result A E) (P : Type 0) → P → OnErr r P
on_err_any (Ok x) P p = tt
on_err_any (Err e) P p = p

some_none : (o : Option Counts) (c : Counts) → o ≡ Some c → o ≡ None → ⊥
some_none o c e f = cc

pub read_page-requires : goal.read_page-requires
read_page-requires g c = let (header, s) = c.requires.stands in (header, ([], (s, tt)))

pub returns-then-not-read_page-clause-streamed : goal.returns-then-not-read_page-clause-streamed
returns-then-not-read_page-clause-streamed g c = λ header s.
    inr (cut_at_info (g.D.Disk.content c.args.disk.now) (g.D.Disk.block_count c.args.disk.now) header (g.D.Disk.faults c.args.disk.now) (g.D.Disk.faults c.read_page.new.disk) (g.R.Report.told c.args.report.now) (g.R.Report.told c.read_page.new.report) (g.S.Sink.taken c.args.out.now) (c.if-not-read_page.ensures.gives header [] s tt))

pub unreachable-requires : goal.unreachable-requires
unreachable-requires g c =
    let (header, s) = c.requires.stands in
    let info = c.read_page.new.page in
    let gives = c.if-not-read_page.ensures.gives header [] s tt in
    some_none c.counts.result (counts_in info) (c.counts.ensures (g.D.Disk.content c.args.disk.now) (g.D.Disk.block_count c.args.disk.now) header (info ∷ []) gives.1) c.in_default.is

pub plain_info-plain-requires : goal.plain_info-plain-requires
plain_info-plain-requires g c =
    let (header, s) = c.requires.stands in
    let content = g.D.Disk.content c.args.disk.now in
    let blocks = g.D.Disk.block_count c.args.disk.now in
    let after = g.D.Disk.content c.read_page.new.disk in
    let many = g.D.Disk.block_count c.read_page.new.disk in
    let info = c.read_page.new.page in
    let gives = c.if-not-read_page.ensures.gives header [] s tt in
    let has = info_has content after blocks many header c.read_page.new.pages info c.counts.result c.in-Some.counts c.counts.ensures c.in-Some.is c.read_page.ensures.content c.read_page.ensures.blocks gives.1 in
    let first = g.S.Sink.taken c.args.out.now in
    ap (λ (x : Counts). x.image_pages) has.said

pub returns-in_err-ahead-clause-stopped : goal.returns-in_err-ahead-clause-stopped
returns-in_err-ahead-clause-stopped g c = λ header s.
    let p = err_from_is_err_and c.from_residual.result c.from_residual.ensures.1 in
    let taken = g.S.Sink.taken c.args.out.now in
    let faults = g.S.Sink.faults c.args.out.now in
    subst (λ (r : Result Streamed Stop). IfErr r (IsStopped (g.D.Disk.content c.args.disk.now) (g.D.Disk.block_count c.args.disk.now) header faults faults taken taken)) (sym (p.1 ∙ ap Err p.2)) refl

pub returns-in_err-ahead-clause-untold : goal.returns-in_err-ahead-clause-untold
returns-in_err-ahead-clause-untold g c =
    let (header, s) = c.requires.stands in
    on_err_any c.from_residual.result (g.R.Report.told c.read_page.new.report ≡ g.R.Report.told c.args.report.now) (c.if-not-read_page.ensures.gives header [] s tt).0

pub returns-in_err-put_all-clause-stopped : goal.returns-in_err-put_all-clause-stopped
returns-in_err-put_all-clause-stopped g c = λ header s.
    let p = err_from_is_err_and c.from_residual-in_err-put_all.result c.from_residual-in_err-put_all.ensures.1 in
    let content = g.D.Disk.content c.args.disk.now in
    let blocks = g.D.Disk.block_count c.args.disk.now in
    let after = g.D.Disk.content c.read_page.new.disk in
    let many = g.D.Disk.block_count c.read_page.new.disk in
    let info = c.read_page.new.page in
    let gives = c.if-not-read_page.ensures.gives header [] s tt in
    let has = info_has content after blocks many header c.read_page.new.pages info c.counts.result c.in-Some.counts c.counts.ensures c.in-Some.is c.read_page.ensures.content c.read_page.ensures.blocks gives.1 in
    let first = g.S.Sink.taken c.args.out.now in
    let skips = c.read_page.ensures.format ∙ c.requires.skips in
    let last = g.S.Sink.taken c.put_all.new.sink in
    let front = front_of_info content blocks header c.read_page.new.pages info first last gives.1 skips
    (subst (λ (x : List ℕ). TakesFront x first last) (c.as_bytes.ensures.bytes ∙ c.plain_info-plain.ensures) c.in_err-put_all.ensures.front) in
    subst (λ (r : Result Streamed Stop). IfErr r (IsStopped content blocks header (g.S.Sink.faults c.args.out.now) (g.S.Sink.faults c.put_all.new.sink) first last)) (sym (p.1 ∙ ap Err p.2)) (c.in_err-put_all.ensures.cause, front)

pub returns-in_err-put_all-clause-untold : goal.returns-in_err-put_all-clause-untold
returns-in_err-put_all-clause-untold g c =
    let (header, s) = c.requires.stands in
    on_err_any c.from_residual-in_err-put_all.result (g.R.Report.told c.read_page.new.report ≡ g.R.Report.told c.args.report.now) (c.if-not-read_page.ensures.gives header [] s tt).0

pub write_rest-requires : goal.write_rest-requires
write_rest-requires g c =
    let (header, s) = c.requires.stands in
    let content = g.D.Disk.content c.args.disk.now in
    let blocks = g.D.Disk.block_count c.args.disk.now in
    let after = g.D.Disk.content c.read_page.new.disk in
    let many = g.D.Disk.block_count c.read_page.new.disk in
    let info = c.read_page.new.page in
    let gives = c.if-not-read_page.ensures.gives header [] s tt in
    let has = info_has content after blocks many header c.read_page.new.pages info c.counts.result c.in-Some.counts c.counts.ensures c.in-Some.is c.read_page.ensures.content c.read_page.ensures.blocks gives.1 in
    let first = g.S.Sink.taken c.args.out.now in
    let skips = c.read_page.ensures.format ∙ c.requires.skips in
    let fork = fork_info after many header c.read_page.new.pages c.in_ok-ahead.ahead c.in-Some.counts info has (c.in_ok-ahead.ensures.stands after many header (info ∷ [])) in
    let rest = at_rest after many header c.of-numbers.result c.read_page.new.pages info c.of-numbers.ensures.info (c.of-numbers.ensures.numbered after many header fork) has.stands skips in
    (header, rest)

pub returns-in_err-write_rest-clause-stopped : goal.returns-in_err-write_rest-clause-stopped
returns-in_err-write_rest-clause-stopped g c = λ header s.
    let p = err_from_is_err_and c.from_residual-in_err-write_rest.result c.from_residual-in_err-write_rest.ensures.1 in
    let content = g.D.Disk.content c.args.disk.now in
    let blocks = g.D.Disk.block_count c.args.disk.now in
    let after = g.D.Disk.content c.read_page.new.disk in
    let many = g.D.Disk.block_count c.read_page.new.disk in
    let info = c.read_page.new.page in
    let gives = c.if-not-read_page.ensures.gives header [] s tt in
    let has = info_has content after blocks many header c.read_page.new.pages info c.counts.result c.in-Some.counts c.counts.ensures c.in-Some.is c.read_page.ensures.content c.read_page.ensures.blocks gives.1 in
    let first = g.S.Sink.taken c.args.out.now in
    let skips = c.read_page.ensures.format ∙ c.requires.skips in
    let fork = fork_info after many header c.read_page.new.pages c.in_ok-ahead.ahead c.in-Some.counts info has (c.in_ok-ahead.ensures.stands after many header (info ∷ [])) in
    let rest = at_rest after many header c.of-numbers.result c.read_page.new.pages info c.of-numbers.ensures.info (c.of-numbers.ensures.numbered after many header fork) has.stands skips in
    let put = g.S.Sink.taken c.put_all.new.sink in
    let last = g.S.Sink.taken c.write_rest.new.out in
    let taken = subst (λ (x : List ℕ). TakesAll x first put) (c.as_bytes.ensures.bytes ∙ c.plain_info-plain.ensures ∙ ap plain_info (sym c.of-numbers.ensures.info)) c.in_ok-put_all.ensures.whole in
    let front = front_on after content many blocks header first last c.read_page.ensures.content c.read_page.ensures.blocks (c.in_err-write_rest.ensures.stopped header first rest taken) in
    subst (λ (r : Result Streamed Stop). IfErr r (IsStopped content blocks header (g.S.Sink.faults c.args.out.now) (g.S.Sink.faults c.write_rest.new.out) first last)) (sym (p.1 ∙ ap Err p.2))
    (risen_later (g.S.Sink.faults c.args.out.now) (g.S.Sink.faults c.put_all.new.sink) (g.S.Sink.faults c.write_rest.new.out) c.put_all.ensures.counted c.in_err-write_rest.ensures.cause, front)

pub returns-in_err-write_rest-clause-untold : goal.returns-in_err-write_rest-clause-untold
returns-in_err-write_rest-clause-untold g c =
    let (header, s) = c.requires.stands in
    on_err_any c.from_residual-in_err-write_rest.result (g.R.Report.told c.write_rest.new.report ≡ g.R.Report.told c.args.report.now) (c.in_err-write_rest.ensures.untold ∙ (c.if-not-read_page.ensures.gives header [] s tt).0)

pub returns-clause-streamed : goal.returns-clause-streamed
returns-clause-streamed g c = λ header s.
    let content = g.D.Disk.content c.args.disk.now in
    let blocks = g.D.Disk.block_count c.args.disk.now in
    let after = g.D.Disk.content c.read_page.new.disk in
    let many = g.D.Disk.block_count c.read_page.new.disk in
    let info = c.read_page.new.page in
    let gives = c.if-not-read_page.ensures.gives header [] s tt in
    let has = info_has content after blocks many header c.read_page.new.pages info c.counts.result c.in-Some.counts c.counts.ensures c.in-Some.is c.read_page.ensures.content c.read_page.ensures.blocks gives.1 in
    let first = g.S.Sink.taken c.args.out.now in
    let skips = c.read_page.ensures.format ∙ c.requires.skips in
    let fork = fork_info after many header c.read_page.new.pages c.in_ok-ahead.ahead c.in-Some.counts info has (c.in_ok-ahead.ensures.stands after many header (info ∷ [])) in
    let rest = at_rest after many header c.of-numbers.result c.read_page.new.pages info c.of-numbers.ensures.info (c.of-numbers.ensures.numbered after many header fork) has.stands skips in
    let put = g.S.Sink.taken c.put_all.new.sink in
    let last = g.S.Sink.taken c.write_rest.new.out in
    let taken = subst (λ (x : List ℕ). TakesAll x first put) (c.as_bytes.ensures.bytes ∙ c.plain_info-plain.ensures ∙ ap plain_info (sym c.of-numbers.ensures.info)) c.in_ok-put_all.ensures.whole in
    streamed_since after content many blocks header (g.D.Disk.faults c.args.disk.now) (g.D.Disk.faults c.read_page.new.disk) (g.D.Disk.faults c.write_rest.new.disk) (g.R.Report.told c.args.report.now) (g.R.Report.told c.read_page.new.report) (g.R.Report.told c.write_rest.new.report) first last c.in_ok-write_rest.field-0 c.read_page.ensures.content c.read_page.ensures.blocks gives.0 c.read_page.ensures.faults
    (c.in_ok-write_rest.ensures.written header first rest taken)
