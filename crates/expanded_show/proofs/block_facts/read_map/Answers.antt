use Rattle.std.proofs.Common.{◌<◌, ◌≤◌, ◌*◌, length, ◌∙◌, arith}
use Rattle.std.proofs.lemmas.List.{get_or_default}
use Rattle.expanded_disk.proofs.Loads.{map_inside, none_past_maps}
use Rattle.expanded_show.proofs.Blocks.{none_past_blocks, reads_none}
use Rattle.expanded_show.proofs.block_facts.read_map.Goals as goal

pub returns-then-place-len-clause-cause : goal.returns-then-place-len-clause-cause
returns-then-place-len-clause-cause g c =
    let content = g.D.Disk.content c.args.disk.now in
    let blocks = g.D.Disk.block_count c.args.disk.now in
    let index = c.args.index.now in
    let past : length index.maps.items ≤ c.args.number = omega (arith, c.len.ensures) in
    reads_none content (g.D.Disk.faults c.args.disk.now) (g.D.Disk.faults c.args.disk.now)
    (none_past_maps content blocks index (511 * c.args.number) c.args.number c.requires.indexed c.requires.inside (omega arith) past)

pub returns-then-at-from-clause-cause : goal.returns-then-at-from-clause-cause
returns-then-at-from-clause-cause g c =
    let content = g.D.Disk.content c.args.disk.now in
    let blocks = g.D.Disk.block_count c.args.disk.now in
    let index = c.args.index.now in
    let few : c.args.number < length index.maps.items = omega (arith, c.len.ensures) in
    let inside = map_inside content blocks index c.args.number c.index-at.result.now c.requires.indexed few
    (c.index-at.ensures ∙ get_or_default index.maps.items c.args.number c.index-at.result.now 0 few) in
    reads_none content (g.D.Disk.faults c.args.disk.now) (g.D.Disk.faults c.args.disk.now)
    (none_past_blocks content c.index-at.result.now blocks inside (omega (arith, c.from.ensures, c.blocks-2.ensures, c.if-at-from.true)))
