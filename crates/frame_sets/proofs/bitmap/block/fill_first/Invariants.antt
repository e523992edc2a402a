use Rattle.std.proofs.Common.{◌≡◌, ◌<◌, ℕ, ◌-◌, ◌*◌, ◌^◌, length, min}
use Rattle.std.specs.Prelude.{slice_index}
use Rattle.frame_sets.proofs.bitmap.block.fill_first.Given as goal

abbrev pub invariant-loop-word : goal.invariant-loop-word
invariant-loop-word l = (length l.block ≡ 512) × ((j : ℕ) → j < l.word → slice_index l.block j ≡ 2 ^ min (l.count - 64 * j) 64 - 1)
