use Rattle.std.proofs.Common.{◌<◌, ◌≤◌, length, ◌∙◌, arith}
use Rattle.std.proofs.lemmas.List.{get_or_default}
use Rattle.expanded_disk.proofs.Loads.{fails_none, first_inside, none_past_starts, starts_at}
use Rattle.expanded_disk.proofs.loading.load.Goals as goal

pub returns-then-at-len-clause-cause : goal.returns-then-at-len-clause-cause
returns-then-at-len-clause-cause g c =
    let state = g.K.Original.state in
    let index = c.args.index.now in
    let past : length index.starts.items ≤ c.args.number = omega (arith, c.len.ensures) in
    fails_none state.content state.faults (g.B.ReadOnly.state c.args.source.now.below).faults
    (none_past_starts state.content state.blocks index c.args.number c.requires.indexed c.requires.inside past)

pub read_entry-requires-clause-inside : goal.read_entry-requires-clause-inside
read_entry-requires-clause-inside g c =
    let content = g.K.Original.state.content in
    let index = c.args.index.now in
    let few : c.args.number < length index.starts.items = omega (arith, c.len.ensures) in
    first_inside content index c.args.number c.from-start.result c.requires.inside
    (starts_at content g.K.Original.state.blocks index c.args.number c.from-start.result c.requires.indexed c.requires.inside
    (c.from-start.ensures ∙ c.index.ensures ∙ get_or_default index.starts.items c.args.number c.index.result.now 0 few))
