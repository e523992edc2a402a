use Rattle.std.proofs.Common.{◌≡◌, ◌<◌, ◌≤◌, ℕ, ◌+◌, List, [], ◌∷◌, ◌++◌, length, refl, sym, subst, ◌∙◌, arith}
use Rattle.image_check.specs.Info.{counts_in}
use Rattle.image_pages.specs.Stands.{Stands}
use Rattle.image_pages.specs.Ahead.{HasRead}
use Rattle.image_pages.proofs.Searching.{has_read_none, has_read_more, more_ahead}
use Rattle.image_pages.proofs.SinceSaved.{has_read_since, refused_since}
use Rattle.image_pages.proofs.saved.finding.read_ahead.Goals as goal

pub read_page-requires : goal.read_page-requires
read_page-requires g c =
    let (header, (info, (rest, (s, enough)))) = c.requires in
    let r = c.loop.invariant.so_far header info rest s enough in
    (header, ((info ∷ rest) ++ r.more, (r.stands, more_ahead info rest r.more c.loop.counter c.args.count r.size c.loop-test.true enough)))

pub loop-init : goal.loop-init
loop-init g c = record {
  so_far = λ header info rest s enough. has_read_none (g.D.Disk.content c.args.disk.now) (g.D.Disk.block_count c.args.disk.now) header (info ∷ rest) c.args.pages.now c.args.into.now s;
  format = refl;
  told = refl;
  content = refl;
  faults = omega arith;
  orders = refl;
  blocks = refl;
}

pub returns-then-not-read_page-clause-gives : goal.returns-then-not-read_page-clause-gives
returns-then-not-read_page-clause-gives g c = λ header info rest s enough.
    let i = c.loop.invariant in
    let r = i.so_far header info rest s enough in
    let given = (info ∷ rest) ++ r.more in (
      given,
      refused_since (g.D.Disk.content c.loop.disk) (g.D.Disk.content c.args.disk.now) (g.D.Disk.block_count c.loop.disk) (g.D.Disk.block_count c.args.disk.now) header (g.D.Disk.faults c.args.disk.now) (g.D.Disk.faults c.loop.disk) (g.D.Disk.faults c.read_page.new.disk) (g.R.Report.told c.args.report.now) (g.R.Report.told c.loop.report) (g.R.Report.told c.read_page.new.report) given i.content i.blocks i.told i.faults
          (c.if-not-read_page.ensures.gives header given r.stands (more_ahead info rest r.more c.loop.counter c.args.count r.size c.loop-test.true enough)),
    )

pub loop-preserved : goal.loop-preserved
loop-preserved g c =
    let i = c.loop.invariant in
    let held = g.D.Disk.content c.loop.disk in
    let blocks = g.D.Disk.block_count c.loop.disk in
    let gives = λ (header : ℕ) (info : List ℕ) (rest : List (List ℕ)) (s : Stands (g.D.Disk.content c.args.disk.now) (g.D.Disk.block_count c.args.disk.now) header c.args.pages.now (info ∷ rest)) (enough : length (info ∷ rest) + c.args.count ≤ (counts_in info).pages).
    let r = i.so_far header info rest s enough in
    c.if-not-read_page.ensures.gives header ((info ∷ rest) ++ r.more) r.stands (more_ahead info rest r.more c.loop.counter c.args.count r.size c.loop-test.true enough) in
    let (h, (first, (others, (had, fits)))) = c.requires in
    record {
      so_far = λ header info rest s enough.
          has_read_since held (g.D.Disk.content c.read_page.new.disk) blocks (g.D.Disk.block_count c.read_page.new.disk) header (info ∷ rest) c.read_page.new.pages c.read_page.new.page (c.loop.counter + 1) (sym c.read_page.ensures.content) (sym c.read_page.ensures.blocks)
          (has_read_more held blocks header (info ∷ rest) c.loop.pages c.read_page.new.pages c.loop.into c.read_page.new.page c.loop.counter (i.so_far header info rest s enough) (gives header info rest s enough).1);
      format = c.read_page.ensures.format ∙ i.format;
      told = (gives h first others had fits).0 ∙ i.told;
      content = c.read_page.ensures.content ∙ i.content;
      faults = omega (arith, i.faults, c.read_page.ensures.faults);
      orders = c.read_page.ensures.orders ∙ i.orders;
      blocks = c.read_page.ensures.blocks ∙ i.blocks;
    }

pub returns-clause-gives : goal.returns-clause-gives
returns-clause-gives g c = λ header info rest s enough.
    let i = c.loop.invariant in
    let r = i.so_far header info rest s enough in
    let all : c.loop.counter ≡ c.args.count = omega (arith, c.loop-test.false) in (
      i.told,
      subst (λ (k : ℕ). HasRead (g.D.Disk.content c.args.disk.now) (g.D.Disk.block_count c.args.disk.now) header (info ∷ rest) c.loop.pages c.loop.into k) all
          (has_read_since (g.D.Disk.content c.loop.disk) (g.D.Disk.content c.args.disk.now) (g.D.Disk.block_count c.loop.disk) (g.D.Disk.block_count c.args.disk.now) header (info ∷ rest) c.loop.pages c.loop.into c.loop.counter i.content i.blocks r),
    )

pub returns-then-not-read_page-clause-format : goal.returns-then-not-read_page-clause-format
returns-then-not-read_page-clause-format g c = c.read_page.ensures.format ∙ c.loop.invariant.format
