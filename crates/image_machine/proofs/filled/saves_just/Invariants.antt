use Rattle.std.proofs.Common.{ℕ, ◌<◌}
use Rattle.std.specs.Prelude.{◌↔◌}
use Rattle.std.specs.List.{Contains}
use Rattle.plain_machine.specs.Machine.{saveable}
use Rattle.image_machine.proofs.filled.saves_just.Given as goal

abbrev pub invariant-loop-p : goal.invariant-loop-p
invariant-loop-p l = (p : ℕ) → p < l.p → Contains (saveable l.fn.hw l.fn.frames) p ↔ Contains l.fn.saved.members p
