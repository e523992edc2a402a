use Rattle.std.proofs.Common.{◌≡◌, ◌≢◌, ◌<◌, ◌≤◌, ℕ, ◌+◌, ◌*◌, ◌-◌, List, [], ◌∷◌, ◌++◌, length, refl, sym, ap, subst, ◌∙◌, arith}
use Rattle.page_core.specs.declared.format.Format.{Format}
use Rattle.definitions.specs.NumberPages.{meta_of}
use Rattle.image_check.specs.Info.{counts_in}
use Rattle.image_check.specs.declared.finding.Counts.{Counts}
use Rattle.image_check.specs.Numbers.{frame_of}
use Rattle.image_pages.specs.Ahead.{HasInfo, HasMore, Seeks, listed}
use Rattle.image_pages.proofs.Searching.{Searched, has_more, searched_found, searched_more, searched_none}
use Rattle.image_pages.proofs.SinceSaved.{stands_since, searched_since, refused_since}
use Rattle.image_pages.proofs.saved.finding.find_number.Goals as goal

-- a number page is wanted
wanted : (info : List ℕ) (pages : List (List ℕ)) (counts : Counts) (k m : ℕ) → counts_in info ≡ counts → m + 1 ≤ counts.pages → length pages ≡ k → k < m → HasMore (info ∷ pages)
wanted info pages counts k m said room size lt =
    has_more info pages counts.pages (omega (arith, ap (λ (c : Counts). c.pages) said)) (omega arith)

pub read_page-requires : goal.read_page-requires
read_page-requires g c =
    let (header, (info, has)) = c.requires in
    let s = c.loop-k.invariant.so_far header info has in
    let lt : c.loop-k.k < meta_of c.args.counts.image_pages = omega (arith, c.loop-k-test.true, c.number_page_count-number_pages.ensures) in
    (header, (info ∷ s.pages, (s.stands, wanted info s.pages c.args.counts c.loop-k.k (meta_of c.args.counts.image_pages) has.said has.room s.size lt)))

pub loop-k-init : goal.loop-k-init
loop-k-init g c = record {
  so_far = λ header info has. searched_none (g.D.Disk.content c.args.disk.now) (g.D.Disk.block_count c.args.disk.now) header c.args.pages.now c.format-format.result info c.args.counts.image_pages c.args.frame has.stands;
  few = omega arith;
  fits = omega arith;
  format = refl;
  told = refl;
  content = refl;
  faults = omega arith;
  orders = refl;
  blocks = refl;
}

pub returns-then-not-read_page-clause-seeks : goal.returns-then-not-read_page-clause-seeks
returns-then-not-read_page-clause-seeks g c = λ header info has.
    let i = c.loop-k.invariant in
    let s = i.so_far header info has in
    let lt : c.loop-k.k < meta_of c.args.counts.image_pages = omega (arith, c.loop-k-test.true, c.number_page_count-number_pages.ensures) in
    let more = wanted info s.pages c.args.counts c.loop-k.k (meta_of c.args.counts.image_pages) has.said has.room s.size lt in (
      info ∷ s.pages,
      refused_since (g.D.Disk.content c.loop-k.disk) (g.D.Disk.content c.args.disk.now) (g.D.Disk.block_count c.loop-k.disk) (g.D.Disk.block_count c.args.disk.now) header (g.D.Disk.faults c.args.disk.now) (g.D.Disk.faults c.loop-k.disk) (g.D.Disk.faults c.read_page.new.disk) (g.R.Report.told c.args.report.now) (g.R.Report.told c.loop-k.report) (g.R.Report.told c.read_page.new.report) (info ∷ s.pages) i.content i.blocks i.told i.faults
          (c.if-not-read_page.ensures.gives header (info ∷ s.pages) s.stands more),
    )

pub returns-in-Some-clause-seeks : goal.returns-in-Some-clause-seeks
returns-in-Some-clause-seeks g c = λ header info has.
    let i = c.loop-k.invariant in
    let s = i.so_far header info has in
    let k = c.loop-k.k in
    let n = c.args.counts.image_pages in
    let lt : k < meta_of n = omega (arith, c.loop-k-test.true, c.number_page_count-number_pages.ensures) in
    let meta : c.number_page_count-number_pages.result ≡ meta_of n = omega (arith, c.number_page_count-number_pages.ensures) in
    let more = wanted info s.pages c.args.counts k (meta_of n) has.said has.room s.size lt in
    let gives = c.if-not-read_page.ensures.gives header (info ∷ s.pages) s.stands more in
    let found = c.in-Some.ensures.found in
    let page = c.read_page.new.page in
    let held = g.D.Disk.content c.args.disk.now in
    let blocks = g.D.Disk.block_count c.args.disk.now in
    subst (λ (f : Format). Seeks held blocks header (g.D.Disk.faults c.args.disk.now) (g.D.Disk.faults c.read_page.new.disk) (g.R.Report.told c.args.report.now) (g.R.Report.told c.read_page.new.report) f c.args.counts info c.args.frame c.read_page.new.pages c.search_at.result) c.format-format.ensures
    (searched_found held blocks header (g.D.Disk.faults c.args.disk.now) (g.D.Disk.faults c.read_page.new.disk) (g.R.Report.told c.args.report.now) (g.R.Report.told c.read_page.new.report) c.read_page.new.pages c.format-format.result c.args.counts info page s.pages c.args.frame k c.in-Some.i (c.number_page_count-number_pages.result - k - 1) c.loop-k.earlier c.search_at.result
    (gives.0 ∙ i.told)
    (stands_since (g.D.Disk.content c.loop-k.disk) held (g.D.Disk.block_count c.loop-k.disk) blocks header c.read_page.new.pages (info ∷ (s.pages ++ page ∷ [])) i.content i.blocks gives.1)
    s.size (omega (arith, found.0, c.count_on_page-count.ensures.left)) (omega (arith, found.0, c.count_on_page-count.ensures.page)) found.1 (omega (arith, meta, lt)) (omega arith) (s.counted (omega (arith, lt))) c.search_at.ensures)

pub loop-k-preserved : goal.loop-k-preserved
loop-k-preserved g c =
    let i = c.loop-k.invariant in
    let k = c.loop-k.k in
    let n = c.args.counts.image_pages in
    let held = g.D.Disk.content c.loop-k.disk in
    let blocks = g.D.Disk.block_count c.loop-k.disk in
    let lt : k < meta_of n = omega (arith, c.loop-k-test.true, c.number_page_count-number_pages.ensures) in
    let page = c.read_page.new.page in
    let gives = λ (header : ℕ) (info : List ℕ) (has : HasInfo (g.D.Disk.content c.args.disk.now) (g.D.Disk.block_count c.args.disk.now) header c.args.pages.now c.args.counts info).
    let s = i.so_far header info has in
    c.if-not-read_page.ensures.gives header (info ∷ s.pages) s.stands (wanted info s.pages c.args.counts k (meta_of n) has.said has.room s.size lt) in
    let (h, (first, had)) = c.requires in
    record {
      so_far = λ header info has.
          searched_since held (g.D.Disk.content c.read_page.new.disk) blocks (g.D.Disk.block_count c.read_page.new.disk) header c.read_page.new.pages c.format-format.result info n c.args.frame (k + 1) (c.loop-k.earlier + c.data_words-earlier.result) (sym c.read_page.ensures.content) (sym c.read_page.ensures.blocks)
          (subst (λ (d : ℕ). Searched held blocks header c.read_page.new.pages c.format-format.result info n c.args.frame (k + 1) (c.loop-k.earlier + d)) (sym c.data_words-earlier.ensures.dense)
          (searched_more held blocks header c.loop-k.pages c.read_page.new.pages c.format-format.result info page n c.args.frame k c.count_on_page-count.result c.loop-k.earlier (i.so_far header info has) (gives header info has).1 (omega (arith, lt)) c.count_on_page-count.ensures.few c.count_on_page-count.ensures.full c.in_default.ensures.none));
      few = omega (arith, i.few, c.data_words-earlier.ensures.few, c.count_on_page-count.ensures.page);
      fits = omega (arith, i.few, c.data_words-earlier.ensures.few, c.count_on_page-count.ensures.left, lt);
      format = c.read_page.ensures.format ∙ i.format;
      told = (gives h first had).0 ∙ i.told;
      content = c.read_page.ensures.content ∙ i.content;
      faults = omega (arith, i.faults, c.read_page.ensures.faults);
      orders = c.read_page.ensures.orders ∙ i.orders;
      blocks = c.read_page.ensures.blocks ∙ i.blocks;
    }

pub returns-clause-seeks : goal.returns-clause-seeks
returns-clause-seeks g c = λ header info has.
    let i = c.loop-k.invariant in
    let s = i.so_far header info has in
    let n = c.args.counts.image_pages in
    let size = s.size in
    let all : c.loop-k.k ≡ meta_of n = omega (arith, c.loop-k-test.false, c.loop-k.auto.k-end, c.number_page_count-number_pages.ensures) in (
      i.told,
      (
        s.pages,
        (
          stands_since (g.D.Disk.content c.loop-k.disk) (g.D.Disk.content c.args.disk.now) (g.D.Disk.block_count c.loop-k.disk) (g.D.Disk.block_count c.args.disk.now) header c.loop-k.pages (info ∷ s.pages) i.content i.blocks s.stands,
          size ∙ all,
          λ j inside is. s.none j (omega (arith, all, inside)) inside (ap (λ (f : Format). frame_of f (listed s.pages j)) c.format-format.ensures ∙ is),
        ),
      ),
    )
