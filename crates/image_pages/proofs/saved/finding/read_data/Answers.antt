use Rattle.std.proofs.Common.{◌≡◌, ◌<◌, ◌≤◌, ℕ, ◌+◌, List, [], ◌∷◌, ◌++◌, length, inr, sym, subst, ◌∙◌, arith}
use Rattle.page_core.specs.declared.format.Format.{Format}
use Rattle.image_check.specs.Info.{counts_in}
use Rattle.image_pages.specs.Ahead.{HasRead, IsAhead}
use Rattle.image_pages.proofs.Saving.{enough_data, enough_lists, page_there}
use Rattle.image_pages.proofs.SinceSaved.{stands_since, has_read_since, refused_since}
use Rattle.image_pages.proofs.saved.finding.read_data.Goals as goal

pub read_ahead-requires : goal.read_ahead-requires
read_ahead-requires g c =
    let (header, (info, (had, (frame, (s, a))))) = c.requires in
    (header, (info, (had, (s, enough_lists (g.D.Disk.content c.args.disk.now) (g.D.Disk.block_count c.args.disk.now) header c.args.pages.now info had frame c.args.lists c.args.wanted s a))))

pub returns-then-not-read_ahead-clause-found : goal.returns-then-not-read_ahead-clause-found
returns-then-not-read_ahead-clause-found g c = λ header info had frame s a.
    inr (c.if-not-read_ahead.ensures.gives header info had s (enough_lists (g.D.Disk.content c.args.disk.now) (g.D.Disk.block_count c.args.disk.now) header c.args.pages.now info had frame c.args.lists c.args.wanted s a))

pub read_ahead-requires-2 : goal.read_ahead-requires-2
read_ahead-requires-2 g c =
    let (header, (info, (had, (frame, (s, a))))) = c.requires in
    let content = g.D.Disk.content c.args.disk.now in
    let blocks = g.D.Disk.block_count c.args.disk.now in
    let q = c.read_ahead.new.pages in
    let r = (c.if-not-read_ahead.ensures.gives header info had s (enough_lists content blocks header c.args.pages.now info had frame c.args.lists c.args.wanted s a)).1 in
    let b = subst (λ (f : Format). IsAhead f had (counts_in info).image_pages frame c.args.lists c.args.wanted) (sym c.read_ahead.ensures.format) a in (
      header,
      (
        info,
        (
          had ++ r.more,
          (
            stands_since content (g.D.Disk.content c.read_ahead.new.disk) blocks (g.D.Disk.block_count c.read_ahead.new.disk) header q (info ∷ (had ++ r.more)) (sym c.read_ahead.ensures.content) (sym c.read_ahead.ensures.blocks) r.stands,
            enough_data content blocks header q info had r.more frame c.args.lists c.args.wanted r.stands r.size b,
          ),
        ),
      ),
    )

pub returns-then-not-read_ahead-2-clause-found : goal.returns-then-not-read_ahead-2-clause-found
returns-then-not-read_ahead-2-clause-found g c = λ header info had frame s a.
    let content = g.D.Disk.content c.args.disk.now in
    let blocks = g.D.Disk.block_count c.args.disk.now in
    let after = g.D.Disk.content c.read_ahead.new.disk in
    let many = g.D.Disk.block_count c.read_ahead.new.disk in
    let q = c.read_ahead.new.pages in
    let first = c.if-not-read_ahead.ensures.gives header info had s (enough_lists content blocks header c.args.pages.now info had frame c.args.lists c.args.wanted s a) in
    let r = first.1 in
    let b = subst (λ (f : Format). IsAhead f had (counts_in info).image_pages frame c.args.lists c.args.wanted) (sym c.read_ahead.ensures.format) a in
    let refused = c.if-not-read_ahead-2.ensures.gives header info (had ++ r.more)
    (stands_since content after blocks many header q (info ∷ (had ++ r.more)) (sym c.read_ahead.ensures.content) (sym c.read_ahead.ensures.blocks) r.stands)
    (enough_data content blocks header q info had r.more frame c.args.lists c.args.wanted r.stands r.size b) in
    inr (refused.0, refused_since after content many blocks header (g.D.Disk.faults c.args.disk.now) (g.D.Disk.faults c.read_ahead.new.disk) (g.D.Disk.faults c.read_ahead-2.new.disk) (g.R.Report.told c.args.report.now) (g.R.Report.told c.read_ahead.new.report) (g.R.Report.told c.read_ahead-2.new.report) refused.0 c.read_ahead.ensures.content c.read_ahead.ensures.blocks first.0 c.read_ahead.ensures.faults refused.1)

pub returns-clause-found : goal.returns-clause-found
returns-clause-found g c = λ header info had frame s a.
    let content = g.D.Disk.content c.args.disk.now in
    let blocks = g.D.Disk.block_count c.args.disk.now in
    let after = g.D.Disk.content c.read_ahead.new.disk in
    let many = g.D.Disk.block_count c.read_ahead.new.disk in
    let q = c.read_ahead.new.pages in
    let last = c.read_ahead-2.new.pages in
    let first = c.if-not-read_ahead.ensures.gives header info had s (enough_lists content blocks header c.args.pages.now info had frame c.args.lists c.args.wanted s a) in
    let r = first.1 in
    let b = subst (λ (f : Format). IsAhead f had (counts_in info).image_pages frame c.args.lists c.args.wanted) (sym c.read_ahead.ensures.format) a in
    let more = c.if-not-read_ahead-2.ensures.gives header info (had ++ r.more)
    (stands_since content after blocks many header q (info ∷ (had ++ r.more)) (sym c.read_ahead.ensures.content) (sym c.read_ahead.ensures.blocks) r.stands)
    (enough_data content blocks header q info had r.more frame c.args.lists c.args.wanted r.stands r.size b) in (
      page_there content blocks header last info c.read_ahead-2.new.into had r.more frame c.args.lists c.args.wanted r.size
          (subst (λ (f : Format). IsAhead f had (counts_in info).image_pages frame c.args.lists c.args.wanted) (sym c.read_ahead-2.ensures.format) b)
          (has_read_since after content many blocks header (info ∷ (had ++ r.more)) last c.read_ahead-2.new.into c.args.wanted c.read_ahead.ensures.content c.read_ahead.ensures.blocks more.1),
      more.0 ∙ first.0,
    )
