use Rattle.std.proofs.Common.{◌≡◌, ◌-◌, ◌++◌, ℕ, List, filter}
use Rattle.std.specs.List.{range_with_len}
use Rattle.definitions.specs.FreeRuns.{runs_of}
use Rattle.dump_core.specs.Cores.{is_told}
use Rattle.dump_core.proofs.telling.add_zone.Given as goal

abbrev pub invariant-loop-p : goal.invariant-loop-p
invariant-loop-p l =
    (below : List ℕ) → l.fn.runs.items ≡ runs_of below → l.runs.items ≡ runs_of (below ++ filter (is_told l.dump.hw l.dump.frames) (range_with_len l.start (l.p - l.start)))
