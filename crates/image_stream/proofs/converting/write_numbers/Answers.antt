use Rattle.std.proofs.Common.{◌≡◌, ◌<◌, ◌≤◌, ◌*◌, ◌-◌, ℕ, ◌+◌, List, [], ◌∷◌, ◌++◌, length, Option, Result, Ok, Err, OnErr, refl, sym, ap, subst, ◌∙◌, arith}
use Rattle.definitions.specs.Disk.{Content}
use Rattle.definitions.specs.NumberPages.{meta_of}
use Rattle.definitions.specs.Streams.{TakesAll, TakesFront}
use Rattle.image_pages.proofs.SinceSaved.{refused_since, stands_since}
use Rattle.image_stream.specs.Converted.{HasLists, IsAtLists, IsListFront}
use Rattle.image_stream.proofs.Listing.{front_since, lists_cut, lists_next, lists_none, lists_refused, lists_since, more_lists}
use Rattle.image_stream.proofs.converting.write_numbers.Goals as goal

on_err_any : {A E : Type 0} (r : Result A E) (P : Type 0) → P → OnErr r P
on_err_any (Ok x) P p = tt
on_err_any (Err e) P p = p

pub read_page-requires : goal.read_page-requires
read_page-requires g c =
    let (header, (info, at)) = c.requires in
    let s = c.loop-k.invariant.so_far header info at in
    let lt : c.loop-k.k < meta_of c.args.count = omega (arith, c.loop-k-test.true, c.number_page_count-number_pages.ensures) in
    (header, (info ∷ s.listed, (s.stands, more_lists info s.listed c.args.count c.loop-k.k at.room s.size lt)))

pub loop-k-init : goal.loop-k-init
loop-k-init g c = record {
  so_far = λ header info at. lists_none (g.D.Disk.content c.args.disk.now) (g.D.Disk.block_count c.args.disk.now) header c.args.pages.now info c.args.count (g.S.Sink.taken c.args.out.now) at;
  format = refl;
  told = refl;
  counted = omega arith;
  content = refl;
  faults = omega arith;
  orders = refl;
  blocks = refl;
}

pub returns-then-not-read_page-clause-written : goal.returns-then-not-read_page-clause-written
returns-then-not-read_page-clause-written g c = λ header info at.
    let i = c.loop-k.invariant in
    let s = i.so_far header info at in
    let content = g.D.Disk.content c.args.disk.now in
    let blocks = g.D.Disk.block_count c.args.disk.now in
    let lt : c.loop-k.k < meta_of c.args.count = omega (arith, c.loop-k-test.true, c.number_page_count-number_pages.ensures) in
    lists_refused content blocks header (g.D.Disk.faults c.args.disk.now) (g.D.Disk.faults c.read_page.new.disk) (g.R.Report.told c.args.report.now) (g.R.Report.told c.read_page.new.report) c.loop-k.pages info c.args.count c.loop-k.k (g.S.Sink.taken c.args.out.now) (g.S.Sink.taken c.loop-k.out) (g.D.Disk.content c.loop-k.disk) (g.D.Disk.block_count c.loop-k.disk) s (omega (arith, lt))
    (refused_since (g.D.Disk.content c.loop-k.disk) content (g.D.Disk.block_count c.loop-k.disk) blocks header (g.D.Disk.faults c.args.disk.now) (g.D.Disk.faults c.loop-k.disk) (g.D.Disk.faults c.read_page.new.disk) (g.R.Report.told c.args.report.now) (g.R.Report.told c.loop-k.report) (g.R.Report.told c.read_page.new.report) (info ∷ s.listed) i.content i.blocks i.told i.faults
    (c.if-not-read_page.ensures.gives header (info ∷ s.listed) s.stands (more_lists info s.listed c.args.count c.loop-k.k at.room s.size lt)))

pub returns-in_err-put_all-clause-stopped : goal.returns-in_err-put_all-clause-stopped
returns-in_err-put_all-clause-stopped g c = λ header info at.
    let i = c.loop-k.invariant in
    let s = i.so_far header info at in
    let content = g.D.Disk.content c.args.disk.now in
    let blocks = g.D.Disk.block_count c.args.disk.now in
    let held = g.D.Disk.content c.loop-k.disk in
    let many = g.D.Disk.block_count c.loop-k.disk in
    let first = g.S.Sink.taken c.args.out.now in
    let mid = g.S.Sink.taken c.loop-k.out in
    let last = g.S.Sink.taken c.put_all.new.sink in
    let page = c.read_page.new.page in
    let lt : c.loop-k.k < meta_of c.args.count = omega (arith, c.loop-k-test.true, c.number_page_count-number_pages.ensures) in
    let gives = c.if-not-read_page.ensures.gives header (info ∷ s.listed) s.stands (more_lists info s.listed c.args.count c.loop-k.k at.room s.size lt) in
    on_err_any c.from_residual.result (IsListFront content blocks header info c.args.count first last)
    (front_since held content many blocks header info c.args.count first last i.content i.blocks
    (lists_cut held many header c.loop-k.pages c.read_page.new.pages info page c.args.count c.loop-k.k first mid last s gives.1 lt
    (subst (λ (x : List ℕ). TakesFront x mid last) (c.as_bytes.ensures.bytes ∙ c.plain_numbers-plain.ensures) c.in_err-put_all.ensures.front)))

pub returns-in_err-put_all-clause-untold : goal.returns-in_err-put_all-clause-untold
returns-in_err-put_all-clause-untold g c =
    let i = c.loop-k.invariant in
    let (header, (info, at)) = c.requires in
    let s = i.so_far header info at in
    let lt : c.loop-k.k < meta_of c.args.count = omega (arith, c.loop-k-test.true, c.number_page_count-number_pages.ensures) in
    on_err_any c.from_residual.result (g.R.Report.told c.read_page.new.report ≡ g.R.Report.told c.args.report.now)
    ((c.if-not-read_page.ensures.gives header (info ∷ s.listed) s.stands (more_lists info s.listed c.args.count c.loop-k.k at.room s.size lt)).0 ∙ i.told)

pub loop-k-preserved : goal.loop-k-preserved
loop-k-preserved g c =
    let i = c.loop-k.invariant in
    let k = c.loop-k.k in
    let held = g.D.Disk.content c.loop-k.disk in
    let many = g.D.Disk.block_count c.loop-k.disk in
    let first = g.S.Sink.taken c.args.out.now in
    let mid = g.S.Sink.taken c.loop-k.out in
    let last = g.S.Sink.taken c.put_all.new.sink in
    let page = c.read_page.new.page in
    let lt : k < meta_of c.args.count = omega (arith, c.loop-k-test.true, c.number_page_count-number_pages.ensures) in
    let gives = λ (header : ℕ) (info : List ℕ) (at : IsAtLists (g.D.Disk.content c.args.disk.now) (g.D.Disk.block_count c.args.disk.now) header c.args.pages.now info c.args.count).
    let s = i.so_far header info at in
    c.if-not-read_page.ensures.gives header (info ∷ s.listed) s.stands (more_lists info s.listed c.args.count k at.room s.size lt) in
    let (h, (start, here)) = c.requires in
    record {
      so_far = λ header info at.
          lists_since held (g.D.Disk.content c.read_page.new.disk) many (g.D.Disk.block_count c.read_page.new.disk) header c.read_page.new.pages info c.args.count (k + 1) first last (sym c.read_page.ensures.content) (sym c.read_page.ensures.blocks)
          (lists_next held many header c.loop-k.pages c.read_page.new.pages info page c.args.count k first mid last (i.so_far header info at) (gives header info at).1
          (subst (λ (x : List ℕ). TakesAll x mid last) (c.as_bytes.ensures.bytes ∙ c.plain_numbers-plain.ensures) c.in_ok-put_all.ensures.whole));
      format = c.read_page.ensures.format ∙ i.format;
      told = (gives h start here).0 ∙ i.told;
      counted = omega (arith, i.counted, c.put_all.ensures.counted);
      content = c.read_page.ensures.content ∙ i.content;
      faults = omega (arith, i.faults, c.read_page.ensures.faults);
      orders = c.read_page.ensures.orders ∙ i.orders;
      blocks = c.read_page.ensures.blocks ∙ i.blocks;
    }

pub returns-clause-written : goal.returns-clause-written
returns-clause-written g c = λ header info at.
    let i = c.loop-k.invariant in
    let all : c.loop-k.k ≡ meta_of c.args.count = omega (arith, c.loop-k-test.false, c.loop-k.auto.k-end, c.number_page_count-number_pages.ensures) in
    let first = g.S.Sink.taken c.args.out.now in
    let last = g.S.Sink.taken c.loop-k.out in (
      i.told,
      subst (λ (k : ℕ). HasLists (g.D.Disk.content c.args.disk.now) (g.D.Disk.block_count c.args.disk.now) header c.loop-k.pages info c.args.count k first last) all
          (lists_since (g.D.Disk.content c.loop-k.disk) (g.D.Disk.content c.args.disk.now) (g.D.Disk.block_count c.loop-k.disk) (g.D.Disk.block_count c.args.disk.now) header c.loop-k.pages info c.args.count c.loop-k.k first last i.content i.blocks (i.so_far header info at)),
    )
