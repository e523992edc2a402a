-- Worked examples of the order of moves, computed from the definition.
use Rattle.std.proofs.Common.{◌≡◌, ◌+◌, [], ◌∷◌, map, refl}
use Rattle.std.specs.List.{range_with_len}
use Rattle.definitions.specs.Moves.{order_of_moves, sequence}

-- two page frames change places through the bounce frame 41
pub order_of_a_cycle : order_of_moves 48 41 ((20, 21) ∷ (21, 20) ∷ []) ≡ (20, 41, 1) ∷ (21, 20, 1) ∷ (41, 21, 1) ∷ []
unfolding order_of_moves sequence
order_of_a_cycle = refl

-- ten page frames move up by two: one run
pub run_of_moves : order_of_moves 120 0 (map (λ i. (100 + i, 102 + i)) (range_with_len 0 10)) ≡ (100, 102, 10) ∷ []
unfolding order_of_moves sequence
run_of_moves = refl
