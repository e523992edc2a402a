use Rattle.std.proofs.Common.{ℕ, List, ◌+◌, ◌≤◌, ◌∷◌, ◌++◌, map}
use Rattle.std.specs.List.{range_with_len}
use Rattle.definitions.specs.Bytes.{word}
use Rattle.image_show.specs.Runs.{count_of}
use Rattle.expanded_show.specs.Blocks.{HasGathered}
use Rattle.expanded_show.proofs.gathered.Gathered.add_map.Given as goal

abbrev pub invariant-loop-i : goal.invariant-loop-i
invariant-loop-i l = record {
  added : (numbers : List ℕ) → HasGathered numbers l.fn.self → HasGathered (numbers ++ l.at ∷ map (word l.page) (range_with_len 0 l.i)) l.self;
  count : count_of l.self.runs.last ≤ count_of l.fn.self.runs.last + 1 + l.i;
}
