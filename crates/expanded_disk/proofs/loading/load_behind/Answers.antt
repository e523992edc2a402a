use Rattle.std.proofs.Common.{sym}
use Rattle.expanded_disk.proofs.Loads.{fails_none, is_packed, none_expanded, none_length, on_err_map, on_ok_map, rest_inside, unit_expanded}
use Rattle.expanded_disk.proofs.loading.load_behind.Goals as goal

pub returns-then-not-is_length-clause-cause : goal.returns-then-not-is_length-clause-cause
returns-then-not-is_length-clause-cause g c =
    let state = g.K.Original.state in
    fails_none state.content state.faults (g.B.ReadOnly.state c.args.source.now.below).faults
    (none_length state.content state.blocks c.args.index.now c.args.number c.args.start c.word-len.result c.args.page.now
    c.requires.indexed c.requires.inside c.requires.start c.requires.first c.word-len.ensures (sym c.if-not-is_length.ensures))

pub fill-requires-clause-inside : goal.fill-requires-clause-inside
fill-requires-clause-inside g c =
    rest_inside g.K.Original.state.content c.args.index.now c.args.number c.args.start c.word-len.result c.pages_with.result c.args.page.now
    c.requires.inside c.requires.start c.requires.first c.word-len.ensures c.pages_with.ensures.some c.pages_with.ensures.pages

pub returns-clause-bytes : goal.returns-clause-bytes
returns-clause-bytes g c =
    let content = g.K.Original.state.content in
    let index = c.args.index.now in
    let all = is_packed content index c.args.number c.args.start c.word-len.result c.pages_with.result c.args.page.now c.args.unit.now.packed.items c.put.new.self.packed.items c.fill.new.unit.packed.items
    c.requires.start c.requires.first c.word-len.ensures c.pages_with.ensures.some c.pages_with.ensures.pages c.put.ensures.added c.in_ok-fill.ensures.filled in
    on_ok_map c.expand.result (unit_expanded content index c.args.number c.word-len.result c.size_of.result c.fill.new.unit.packed.items c.expand.new.unit.bytes.items c.size_of.ensures.size all) c.expand.ensures.bytes

pub returns-clause-cause : goal.returns-clause-cause
returns-clause-cause g c =
    let state = g.K.Original.state in
    let content = state.content in
    let index = c.args.index.now in
    let packed = c.fill.new.unit.packed.items in
    let all = is_packed content index c.args.number c.args.start c.word-len.result c.pages_with.result c.args.page.now c.args.unit.now.packed.items c.put.new.self.packed.items packed
    c.requires.start c.requires.first c.word-len.ensures c.pages_with.ensures.some c.pages_with.ensures.pages c.put.ensures.added c.in_ok-fill.ensures.filled in
    on_err_map c.expand.result
    (λ other. fails_none content state.faults (g.B.ReadOnly.state c.fill.new.source.below).faults
    (none_expanded content state.blocks index c.args.number c.word-len.result c.size_of.result packed c.requires.indexed c.requires.inside c.size_of.ensures.size all other))
    c.expand.ensures.cause
