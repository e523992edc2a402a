use Rattle.std.proofs.Common.{◌≡◌, ℕ, ◌-◌, List, [], ◌∷◌, Option, Some, None, inr, sym, ap, subst, ◌∙◌, arith}
use Rattle.definitions.specs.Disk.{Content}
use Rattle.definitions.specs.NumberPages.{meta_of}
use Rattle.image_check.specs.Info.{counts_in}
use Rattle.image_check.specs.declared.finding.Counts.{Counts}
use Rattle.image_pages.specs.Clean.{counts_by}
use Rattle.image_pages.specs.Stands.{Stands}
use Rattle.image_pages.specs.declared.pages.Pages.{Pages}
use Rattle.image_pages.proofs.Counting.{the_same}
use Rattle.image_pages.specs.Ahead.{HasRead}
use Rattle.image_pages.proofs.SinceSaved.{refused_since, has_read_since}
use Rattle.image_pages.specs.OpensFrames.{OpensNumbers}
use Rattle.image_pages.proofs.Giving.{passed_over}
use Rattle.image_pages.proofs.Opening.{ahead_stands, enough_ahead}
use Rattle.image_pages.proofs.Since.{on_err_any}
use Rattle.image_pages.proofs.frames.frames.FramesReader.open.Goals as goal

pub read_ahead-requires : goal.read_ahead-requires
read_ahead-requires g c =
    let content = g.D.Disk.content c.args.disk.now in
    let blocks = g.D.Disk.block_count c.args.disk.now in
    let n = c.in-Open.numbers in
    let opened = subst (OpensNumbers content blocks c.args.header (g.D.Disk.faults c.args.disk.now) (g.D.Disk.faults c.open.new.disk) (g.R.Report.told c.args.report.now) (g.R.Report.told c.open.new.report)) c.in-Open.is c.in_ok-open.ensures.opened in
    let h = opened.1 in
    let same = c.count.ensures.count content blocks c.args.header [] h in
    let all : c.number_page_count-number_pages.result ≡ meta_of c.count.result = omega (arith, c.number_page_count-number_pages.ensures) in (
      c.args.header,
      (
        n.info,
        (
          [],
          (
            ahead_stands content (g.D.Disk.content c.open.new.disk) blocks (g.D.Disk.block_count c.open.new.disk) c.args.header n c.in_ok-pages.pages c.open.ensures.content c.open.ensures.blocks h (c.in_ok-pages.ensures.stands content blocks c.args.header (n.info ∷ [])),
            enough_ahead content blocks c.args.header n c.count.result c.number_page_count-number_pages.result h same all,
          ),
        ),
      ),
    )

pub returns-in_err-pages-clause-untold : goal.returns-in_err-pages-clause-untold
returns-in_err-pages-clause-untold g c =
    let opened = subst (OpensNumbers (g.D.Disk.content c.args.disk.now) (g.D.Disk.block_count c.args.disk.now) c.args.header (g.D.Disk.faults c.args.disk.now) (g.D.Disk.faults c.open.new.disk) (g.R.Report.told c.args.report.now) (g.R.Report.told c.open.new.report)) c.in-Open.is c.in_ok-open.ensures.opened in
    on_err_any c.from_residual-in_err-pages.result opened.0

pub returns-then-not-read_ahead-clause-opened : goal.returns-then-not-read_ahead-clause-opened
returns-then-not-read_ahead-clause-opened g c =
    let content = g.D.Disk.content c.args.disk.now in
    let blocks = g.D.Disk.block_count c.args.disk.now in
    let after = g.D.Disk.content c.open.new.disk in
    let many = g.D.Disk.block_count c.open.new.disk in
    let n = c.in-Open.numbers in
    let opened = subst (OpensNumbers content blocks c.args.header (g.D.Disk.faults c.args.disk.now) (g.D.Disk.faults c.open.new.disk) (g.R.Report.told c.args.report.now) (g.R.Report.told c.open.new.report)) c.in-Open.is c.in_ok-open.ensures.opened in
    let h = opened.1 in
    let same = c.count.ensures.count content blocks c.args.header [] h in
    let all : c.number_page_count-number_pages.result ≡ meta_of c.count.result = omega (arith, c.number_page_count-number_pages.ensures) in
    let stands = ahead_stands content after blocks many c.args.header n c.in_ok-pages.pages c.open.ensures.content c.open.ensures.blocks h (c.in_ok-pages.ensures.stands content blocks c.args.header (n.info ∷ [])) in
    let refused = c.if-not-read_ahead.ensures.gives c.args.header n.info [] stands (enough_ahead content blocks c.args.header n c.count.result c.number_page_count-number_pages.result h same all) in
    inr (refused.0, refused_since after content many blocks c.args.header (g.D.Disk.faults c.args.disk.now) (g.D.Disk.faults c.open.new.disk) (g.D.Disk.faults c.read_ahead.new.disk) (g.R.Report.told c.args.report.now) (g.R.Report.told c.open.new.report) (g.R.Report.told c.read_ahead.new.report) refused.0 c.open.ensures.content c.open.ensures.blocks opened.0 c.open.ensures.faults refused.1)

pub of-requires : goal.of-requires
of-requires g c =
    let content = g.D.Disk.content c.args.disk.now in
    let blocks = g.D.Disk.block_count c.args.disk.now in
    let after = g.D.Disk.content c.open.new.disk in
    let many = g.D.Disk.block_count c.open.new.disk in
    let n = c.in-Open.numbers in
    let opened = subst (OpensNumbers content blocks c.args.header (g.D.Disk.faults c.args.disk.now) (g.D.Disk.faults c.open.new.disk) (g.R.Report.told c.args.report.now) (g.R.Report.told c.open.new.report)) c.in-Open.is c.in_ok-open.ensures.opened in
    let h = opened.1 in
    let same = c.count.ensures.count content blocks c.args.header [] h in
    let all : c.number_page_count-number_pages.result ≡ meta_of c.count.result = omega (arith, c.number_page_count-number_pages.ensures) in
    let stands = ahead_stands content after blocks many c.args.header n c.in_ok-pages.pages c.open.ensures.content c.open.ensures.blocks h (c.in_ok-pages.ensures.stands content blocks c.args.header (n.info ∷ [])) in
    let more = c.if-not-read_ahead.ensures.gives c.args.header n.info [] stands (enough_ahead content blocks c.args.header n c.count.result c.number_page_count-number_pages.result h same all) in (
      content,
      (
        blocks,
        (
          c.args.header,
          passed_over content blocks c.args.header n c.read_ahead.new.pages c.read_ahead.new.into c.number_page_count-number_pages.result h (all ∙ ap meta_of (same ∙ h.count))
              (has_read_since after content many blocks c.args.header (n.info ∷ []) c.read_ahead.new.pages c.read_ahead.new.into c.number_page_count-number_pages.result c.open.ensures.content c.open.ensures.blocks more.1),
        ),
      ),
    )

pub returns-clause-opened : goal.returns-clause-opened
returns-clause-opened g c =
    let content = g.D.Disk.content c.args.disk.now in
    let blocks = g.D.Disk.block_count c.args.disk.now in
    let after = g.D.Disk.content c.open.new.disk in
    let many = g.D.Disk.block_count c.open.new.disk in
    let n = c.in-Open.numbers in
    let opened = subst (OpensNumbers content blocks c.args.header (g.D.Disk.faults c.args.disk.now) (g.D.Disk.faults c.open.new.disk) (g.R.Report.told c.args.report.now) (g.R.Report.told c.open.new.report)) c.in-Open.is c.in_ok-open.ensures.opened in
    let h = opened.1 in
    let same = c.count.ensures.count content blocks c.args.header [] h in
    let all : c.number_page_count-number_pages.result ≡ meta_of c.count.result = omega (arith, c.number_page_count-number_pages.ensures) in
    let stands = ahead_stands content after blocks many c.args.header n c.in_ok-pages.pages c.open.ensures.content c.open.ensures.blocks h (c.in_ok-pages.ensures.stands content blocks c.args.header (n.info ∷ [])) in
    let more = c.if-not-read_ahead.ensures.gives c.args.header n.info [] stands (enough_ahead content blocks c.args.header n c.count.result c.number_page_count-number_pages.result h same all) in (
      more.0 ∙ opened.0,
      c.of.ensures.given content blocks c.args.header (passed_over content blocks c.args.header n c.read_ahead.new.pages c.read_ahead.new.into c.number_page_count-number_pages.result h (all ∙ ap meta_of (same ∙ h.count))
          (has_read_since after content many blocks c.args.header (n.info ∷ []) c.read_ahead.new.pages c.read_ahead.new.into c.number_page_count-number_pages.result c.open.ensures.content c.open.ensures.blocks more.1)),
    )
