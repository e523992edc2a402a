use Rattle.std.proofs.Common.{◌≡◌, ◌+◌, ◌/◌, ◌≤◌, Option, refl, subst, arith, rules, ◌∙◌}
use Rattle.std.proofs.lemmas.Result.{IfOk-weaker}
use Rattle.definitions.specs.Disk.{Content}
use Rattle.expanded_show.proofs.Blocks.{GatheredMaps, IsMapRead, fails_earlier, has_pages, lie_so, maps_more, maps_none, none_left}
use Rattle.expanded_show.proofs.block_facts.block_facts.Goals as goal

pub loop-number-init : goal.loop-number-init
loop-number-init g c = record {
  gathered = maps_none (g.D.Disk.content c.args.disk.now) c.args.index.now c.new-gathered.result c.new-gathered.ensures.none;
  count = omega (arith, c.new-gathered.ensures.count);
  content = refl;
  orders = refl;
  blocks = refl;
  faults = omega arith;
}

pub returns-in_default-clause-facts : goal.returns-in_default-clause-facts
returns-in_default-clause-facts g c =
    let content = g.D.Disk.content c.args.disk.now in
    let index = c.args.index.now in
    let pages = has_pages content (g.D.Disk.block_count c.args.disk.now) index c.page_count-count.result c.requires.indexed c.page_count-count.ensures.count in
    let before = g.D.Disk.faults c.args.disk.now in
    let i = c.loop-number.invariant in
    let most : c.loop-number.number ≤ (c.page_count-count.result + 510) / 511 = search (rules, c.div_ceil-maps.ensures, c.loop-number-test.true) in
    IfOk-weaker c.ended.result _ _
    (λ facts says. lie_so content before (g.D.Disk.faults c.read_map.new.disk) index c.loop-number.number c.page_count-count.result c.loop-number.gathered facts.items pages most
    (λ lt. fails_earlier content (g.D.Disk.content c.loop-number.disk) before (g.D.Disk.faults c.loop-number.disk) (g.D.Disk.faults c.read_map.new.disk) i.content i.faults c.in_default.ensures.cause)
    i.gathered says)
    (c.ended.ensures i.gathered.blocks i.gathered.gathered)

pub loop-number-preserved : goal.loop-number-preserved
loop-number-preserved g c =
    let content = g.D.Disk.content c.args.disk.now in
    let index = c.args.index.now in
    let number = c.loop-number.number in
    let count = c.page_count-count.result in
    let pages = has_pages content (g.D.Disk.block_count c.args.disk.now) index count c.requires.indexed c.page_count-count.ensures.count in
    let i = c.loop-number.invariant in
    let read : IsMapRead content index number c.in-Ok.at c.read_map.new.into =
    subst (λ (x : Option Content). IsMapRead x index number c.in-Ok.at c.read_map.new.into) i.content c.in-Ok.ensures.at in
    record {
      gathered = maps_more content index number count c.entries_in.result c.in-Ok.at c.read_map.new.into c.loop-number.gathered c.add_map.new.self pages read c.entries_in.ensures.entries
          c.in_ok-add_map.ensures.added i.gathered;
      count = omega (arith, i.count, c.in_ok-add_map.ensures.count);
      content = c.in-Ok.ensures.content ∙ i.content;
      orders = c.in-Ok.ensures.orders ∙ i.orders;
      blocks = c.in-Ok.ensures.blocks ∙ i.blocks;
      faults = omega (arith, i.faults, c.in-Ok.ensures.faults);
    }

pub returns-clause-facts : goal.returns-clause-facts
returns-clause-facts g c =
    let content = g.D.Disk.content c.args.disk.now in
    let index = c.args.index.now in
    let count = c.page_count-count.result in
    let maps = c.div_ceil-maps.result in
    let pages = has_pages content (g.D.Disk.block_count c.args.disk.now) index count c.requires.indexed c.page_count-count.ensures.count in
    let before = g.D.Disk.faults c.args.disk.now in
    let i = c.loop-number.invariant in
    let end : c.loop-number.number ≡ maps = omega (arith, c.loop-number-test.false, c.loop-number.auto.number-end) in
    let all : GatheredMaps content index maps c.loop-number.gathered = subst (λ n. GatheredMaps content index n c.loop-number.gathered) end i.gathered in
    let is : maps ≡ (count + 510) / 511 = search (rules, c.div_ceil-maps.ensures) in
    IfOk-weaker c.ended-2.result _ _
    (λ facts says. lie_so content before (g.D.Disk.faults c.loop-number.disk) index maps count c.loop-number.gathered facts.items pages (omega (arith, is))
    (none_left content before (g.D.Disk.faults c.loop-number.disk) maps count is)
    all says)
    (c.ended-2.ensures all.blocks all.gathered)
