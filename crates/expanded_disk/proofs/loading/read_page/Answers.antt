use Rattle.std.proofs.Common.{◌-◌, ◌/◌, ◌<◌, refl, ◌∙◌, arith}
use Rattle.expanded_disk.proofs.Loads.{info_read, unit_page}
use Rattle.expanded_disk.proofs.loading.read_page.Goals as goal

pub returns-then-k-eq0-clause-page : goal.returns-then-k-eq0-clause-page
returns-then-k-eq0-clause-page g c =
    info_read g.K.Original.state.content g.K.Original.state.blocks c.args.index.now c.args.k c.from_bytes.result c.requires.indexed c.if-k-eq0.true (c.from_bytes.ensures.bytes ∙ c.as_bytes.ensures.bytes)

pub returns-clause-page : goal.returns-clause-page
returns-clause-page g c =
    let k = c.args.k in
    let some : 0 < k = omega (arith, c.if-k-eq0.false) in
    unit_page g.K.Original.state.content c.args.index.now k ((k - 1) / 32) c.keep.new.kept.unit.bytes.items c.page.new.into some c.requires.inside refl c.in_ok-keep.ensures.bytes c.page.ensures
