use Rattle.std.proofs.Common.{ℕ, List, ◌∷◌, ◌++◌, map, subst, arith}
use Rattle.std.specs.List.{range_with_len}
use Rattle.definitions.specs.Bytes.{word}
use Rattle.expanded_show.specs.Blocks.{HasGathered}
use Rattle.expanded_show.proofs.Blocks.{entries_more}
use Rattle.expanded_show.proofs.gathered.Gathered.add_map.Goals as goal

pub loop-i-preserved : goal.loop-i-preserved
loop-i-preserved c = record {
  added = λ numbers g.
      subst (λ (ns : List ℕ). HasGathered ns c.add-in-loop-i.new.self) (entries_more numbers c.args.at c.args.page.now c.loop-i.i c.word.result c.word.ensures)
      (c.in_ok-add-2.ensures.added (numbers ++ c.args.at ∷ map (word c.args.page.now) (range_with_len 0 c.loop-i.i)) (c.loop-i.invariant.added numbers g));
  count = omega (arith, c.loop-i.invariant.count, c.in_ok-add-2.ensures.count);
}
