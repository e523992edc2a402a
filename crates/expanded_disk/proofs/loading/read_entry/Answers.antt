use Rattle.std.proofs.Common.{◌/◌, ◌<◌, ◌≤◌, length, refl, ◌∙◌, arith}
use Rattle.std.proofs.lemmas.List.{get_or_default}
use Rattle.expanded_disk.proofs.Loads.{fails_none, map_inside, none_past_maps}
use Rattle.expanded_disk.proofs.loading.read_entry.Goals as goal

pub returns-then-at-len-clause-cause : goal.returns-then-at-len-clause-cause
returns-then-at-len-clause-cause g c =
    let state = g.K.Original.state in
    let index = c.args.index.now in
    let past : length index.maps.items ≤ c.args.k / 511 = omega (arith, c.len.ensures) in
    fails_none state.content state.faults (g.B.ReadOnly.state c.args.source.now.below).faults
    (none_past_maps state.content state.blocks index c.args.k (c.args.k / 511) c.requires.indexed c.requires.inside refl past)

pub read_at-requires : goal.read_at-requires
read_at-requires g c =
    let state = g.K.Original.state in
    let index = c.args.index.now in
    let few : c.args.k / 511 < length index.maps.items = omega (arith, c.len.ensures) in
    map_inside state.content state.blocks index (c.args.k / 511) c.index.result.now c.requires.indexed few
    (c.index.ensures ∙ get_or_default index.maps.items (c.args.k / 511) c.index.result.now 0 few)
