use Rattle.std.proofs.Common.{◌≡◌, ℕ, ◌+◌, ◌/◌, ◌%◌, min, List, [], ◌∷◌, ◌++◌, map, sym, ap, ◌∙◌, append_assoc, arith}
use Rattle.std.proofs.lemmas.Grind.{common_steps}
use Rattle.std.proofs.lemmas.List.FromFn.{map-range_with_len_more}
use Rattle.std.specs.List.{range_with_len}
use Rattle.definitions.specs.FrameSets.{zone_block, zone_blocks}
use Rattle.frame_sets.proofs.bitmap.add_blocks.Goals as goal

one_block_more : (zone : ℕ × ℕ) (runs done : List (ℕ × ℕ)) (j : ℕ) → done ≡ runs ++ map (zone_block zone) (range_with_len 0 j) → done ++ zone_block zone j ∷ [] ≡ runs ++ map (zone_block zone) (range_with_len 0 (j + 1))
one_block_more zone runs done j h =
    ap (λ t. t ++ zone_block zone j ∷ []) h
    ∙ append_assoc runs (map (zone_block zone) (range_with_len 0 j)) (zone_block zone j ∷ [])
    ∙ ap (λ t. runs ++ t) (sym (map-range_with_len_more (zone_block zone) 0 j j (omega arith)))

all_blocks : (zone : ℕ × ℕ) (runs done : List (ℕ × ℕ)) (j : ℕ) → done ≡ runs ++ map (zone_block zone) (range_with_len 0 j) → j ≡ zone.1 / 32768 + min 1 (zone.1 % 32768) → done ≡ runs ++ zone_blocks zone
unfolding zone_blocks
all_blocks zone runs done j h e =
    let same : j ≡ (zone.1 + 32767) / 32768 = omega arith in
    h ∙ ap (λ n. runs ++ map (zone_block zone) (range_with_len 0 n)) same

pub loop-j-preserved : goal.loop-j-preserved
loop-j-preserved c =
    let more = one_block_more c.args.zone c.args.runs.now.items c.loop-j.runs.items c.loop-j.j c.loop-j.invariant in
    grind (arith, common_steps)

pub returns : goal.returns
returns c = all_blocks c.args.zone c.args.runs.now.items c.loop-j.runs.items c.loop-j.j c.loop-j.invariant (let end = c.div_ceil-j-end.ensures in omega arith)
