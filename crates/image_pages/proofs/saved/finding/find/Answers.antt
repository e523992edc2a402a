use Rattle.std.proofs.Common.{◌≡◌, ◌≢◌, ◌<◌, ℕ, List, [], ◌∷◌, Option, Some, None, inr, sym, ap, subst, ◌∙◌, arith}
use Rattle.page_core.specs.declared.format.Format.{Format}
use Rattle.definitions.specs.Bytes.{zero_page}
use Rattle.image_check.specs.Info.{counts_in}
use Rattle.image_check.specs.Numbers.{frame_of}
use Rattle.image_check.specs.declared.finding.Counts.{Counts}
use Rattle.image_pages.specs.Ahead.{IsAhead, IsMarked, Seeks, listed}
use Rattle.image_pages.specs.Found.{IsPageThere}
use Rattle.image_pages.specs.declared.saved.finding.Search.{Search}
use Rattle.image_pages.proofs.Saving.{none_there, zeros_there}
use Rattle.image_pages.proofs.Searching.{info_has}
use Rattle.image_pages.proofs.SinceSaved.{finds_since, stands_since, refused_since}
use Rattle.image_pages.proofs.saved.finding.find.Goals as goal

some_none : (o : Option Counts) (c : Counts) → o ≡ Some c → o ≡ None → ⊥
some_none o c e f = cc

pub read_page-requires : goal.read_page-requires
read_page-requires g c = let (header, s) = c.requires in (header, ([], (s, tt)))

pub returns-then-not-read_page-clause-found : goal.returns-then-not-read_page-clause-found
returns-then-not-read_page-clause-found g c = λ header s. inr ([], c.if-not-read_page.ensures.gives header [] s tt)

pub unreachable-requires : goal.unreachable-requires
unreachable-requires g c =
    let (header, s) = c.requires in
    let info = c.read_page.new.page in
    let gives = c.if-not-read_page.ensures.gives header [] s tt in
    some_none c.counts.result (counts_in info) (c.counts.ensures (g.D.Disk.content c.args.disk.now) (g.D.Disk.block_count c.args.disk.now) header (info ∷ []) gives.1) c.in_default.is

pub find_number-requires : goal.find_number-requires
find_number-requires g c =
    let (header, s) = c.requires in
    let info = c.read_page.new.page in
    let content = g.D.Disk.content c.args.disk.now in
    let blocks = g.D.Disk.block_count c.args.disk.now in
    let after = g.D.Disk.content c.read_page.new.disk in
    let many = g.D.Disk.block_count c.read_page.new.disk in
    let gives = c.if-not-read_page.ensures.gives header [] s tt in
    let has = info_has content after blocks many header c.read_page.new.pages info c.counts.result c.in-Some.counts c.counts.ensures c.in-Some.is c.read_page.ensures.content c.read_page.ensures.blocks gives.1 in
    (header, (info, has))

pub returns-in-Refused-clause-found : goal.returns-in-Refused-clause-found
returns-in-Refused-clause-found g c = λ header s.
    let info = c.read_page.new.page in
    let content = g.D.Disk.content c.args.disk.now in
    let blocks = g.D.Disk.block_count c.args.disk.now in
    let after = g.D.Disk.content c.read_page.new.disk in
    let many = g.D.Disk.block_count c.read_page.new.disk in
    let gives = c.if-not-read_page.ensures.gives header [] s tt in
    let has = info_has content after blocks many header c.read_page.new.pages info c.counts.result c.in-Some.counts c.counts.ensures c.in-Some.is c.read_page.ensures.content c.read_page.ensures.blocks gives.1 in
    let seeks = c.in-Refused.ensures.seeks header info has in
    inr (seeks.0, refused_since after content many blocks header (g.D.Disk.faults c.args.disk.now) (g.D.Disk.faults c.read_page.new.disk) (g.D.Disk.faults c.find_number.new.disk) (g.R.Report.told c.args.report.now) (g.R.Report.told c.read_page.new.report) (g.R.Report.told c.find_number.new.report) seeks.0 c.read_page.ensures.content c.read_page.ensures.blocks gives.0 c.read_page.ensures.faults seeks.1)

pub returns-in-Nowhere-clause-found : goal.returns-in-Nowhere-clause-found
returns-in-Nowhere-clause-found g c = λ header s.
    let info = c.read_page.new.page in
    let content = g.D.Disk.content c.args.disk.now in
    let blocks = g.D.Disk.block_count c.args.disk.now in
    let after = g.D.Disk.content c.read_page.new.disk in
    let many = g.D.Disk.block_count c.read_page.new.disk in
    let gives = c.if-not-read_page.ensures.gives header [] s tt in
    let has = info_has content after blocks many header c.read_page.new.pages info c.counts.result c.in-Some.counts c.counts.ensures c.in-Some.is c.read_page.ensures.content c.read_page.ensures.blocks gives.1 in
    let last = c.find_number.new.pages in
    let same : c.read_page.new.pages.format ≡ last.format = sym c.find_number.ensures.format in
    let count = ap (λ (x : Counts). x.image_pages) has.said in
    let seeks = c.in-Nowhere.ensures.seeks header info has in (
      none_there content blocks header last info seeks.1.0 c.in-Some.counts.image_pages c.args.frame
          (stands_since after content many blocks header last (info ∷ seeks.1.0) c.read_page.ensures.content c.read_page.ensures.blocks seeks.1.1.0)
          count seeks.1.1.1
          (λ i inside is. seeks.1.1.2 i inside (ap (λ (f : Format). frame_of f (listed seeks.1.0 i)) same ∙ is)),
      seeks.0 ∙ gives.0,
    )

pub returns-in-Zeros-clause-found : goal.returns-in-Zeros-clause-found
returns-in-Zeros-clause-found g c = λ header s.
    let info = c.read_page.new.page in
    let content = g.D.Disk.content c.args.disk.now in
    let blocks = g.D.Disk.block_count c.args.disk.now in
    let after = g.D.Disk.content c.read_page.new.disk in
    let many = g.D.Disk.block_count c.read_page.new.disk in
    let gives = c.if-not-read_page.ensures.gives header [] s tt in
    let has = info_has content after blocks many header c.read_page.new.pages info c.counts.result c.in-Some.counts c.counts.ensures c.in-Some.is c.read_page.ensures.content c.read_page.ensures.blocks gives.1 in
    let last = c.find_number.new.pages in
    let same : c.read_page.new.pages.format ≡ last.format = sym c.find_number.ensures.format in
    let count = ap (λ (x : Counts). x.image_pages) has.said in
    let seeks = c.in-Zeros.ensures.seeks header info has in (
      subst (IsPageThere content blocks header c.args.frame) (sym c.zero.ensures)
          (zeros_there content blocks header last info seeks.1.0 c.in-Some.counts.image_pages c.args.frame
          (stands_since after content many blocks header last (info ∷ seeks.1.0) c.read_page.ensures.content c.read_page.ensures.blocks seeks.1.1.0)
          count
          (subst (λ (f : Format). IsMarked f seeks.1.0 c.in-Some.counts.image_pages c.args.frame) same seeks.1.1.1)),
      seeks.0 ∙ gives.0,
    )

pub read_data-requires : goal.read_data-requires
read_data-requires g c =
    let (header, s) = c.requires in
    let info = c.read_page.new.page in
    let content = g.D.Disk.content c.args.disk.now in
    let blocks = g.D.Disk.block_count c.args.disk.now in
    let after = g.D.Disk.content c.read_page.new.disk in
    let many = g.D.Disk.block_count c.read_page.new.disk in
    let gives = c.if-not-read_page.ensures.gives header [] s tt in
    let has = info_has content after blocks many header c.read_page.new.pages info c.counts.result c.in-Some.counts c.counts.ensures c.in-Some.is c.read_page.ensures.content c.read_page.ensures.blocks gives.1 in
    let last = c.find_number.new.pages in
    let same : c.read_page.new.pages.format ≡ last.format = sym c.find_number.ensures.format in
    let count = ap (λ (x : Counts). x.image_pages) has.said in
    let then = g.D.Disk.content c.find_number.new.disk in
    let most = g.D.Disk.block_count c.find_number.new.disk in
    let seeks = c.in-Ahead.ensures.seeks header info has in (
      header,
      (
        info,
        (
          seeks.1.0,
          (
            c.args.frame,
            (
              stands_since after then many most header last (info ∷ seeks.1.0) (sym c.find_number.ensures.content) (sym c.find_number.ensures.blocks) seeks.1.1.0,
              subst (λ (f : Format). IsAhead f seeks.1.0 (counts_in info).image_pages c.args.frame c.in-Ahead.lists c.in-Ahead.wanted) same
                  (subst (λ (n : ℕ). IsAhead c.read_page.new.pages.format seeks.1.0 n c.args.frame c.in-Ahead.lists c.in-Ahead.wanted) (sym count) seeks.1.1.1),
            ),
          ),
        ),
      ),
    )

pub returns-in-Ahead-clause-found : goal.returns-in-Ahead-clause-found
returns-in-Ahead-clause-found g c = λ header s.
    let info = c.read_page.new.page in
    let content = g.D.Disk.content c.args.disk.now in
    let blocks = g.D.Disk.block_count c.args.disk.now in
    let after = g.D.Disk.content c.read_page.new.disk in
    let many = g.D.Disk.block_count c.read_page.new.disk in
    let gives = c.if-not-read_page.ensures.gives header [] s tt in
    let has = info_has content after blocks many header c.read_page.new.pages info c.counts.result c.in-Some.counts c.counts.ensures c.in-Some.is c.read_page.ensures.content c.read_page.ensures.blocks gives.1 in
    let last = c.find_number.new.pages in
    let same : c.read_page.new.pages.format ≡ last.format = sym c.find_number.ensures.format in
    let count = ap (λ (x : Counts). x.image_pages) has.said in
    let then = g.D.Disk.content c.find_number.new.disk in
    let most = g.D.Disk.block_count c.find_number.new.disk in
    let seeks = c.in-Ahead.ensures.seeks header info has in
    let start = stands_since after then many most header last (info ∷ seeks.1.0) (sym c.find_number.ensures.content) (sym c.find_number.ensures.blocks) seeks.1.1.0 in
    let ahead = subst (λ (f : Format). IsAhead f seeks.1.0 (counts_in info).image_pages c.args.frame c.in-Ahead.lists c.in-Ahead.wanted) same
    (subst (λ (n : ℕ). IsAhead c.read_page.new.pages.format seeks.1.0 n c.args.frame c.in-Ahead.lists c.in-Ahead.wanted) (sym count) seeks.1.1.1) in
    finds_since then content most blocks header (g.D.Disk.faults c.args.disk.now) (g.D.Disk.faults c.find_number.new.disk) (g.D.Disk.faults c.read_data.new.disk) (g.R.Report.told c.args.report.now) (g.R.Report.told c.find_number.new.report) (g.R.Report.told c.read_data.new.report) c.args.frame c.read_data.new.into c.read_data.result
    (c.find_number.ensures.content ∙ c.read_page.ensures.content) (c.find_number.ensures.blocks ∙ c.read_page.ensures.blocks) (seeks.0 ∙ gives.0) (omega (arith, c.find_number.ensures.faults, c.read_page.ensures.faults))
    (c.read_data.ensures.found header info seeks.1.0 c.args.frame start ahead)
