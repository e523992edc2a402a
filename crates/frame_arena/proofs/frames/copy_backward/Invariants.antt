use Rattle.std.proofs.Common.{length, ◌≡◌, ◌+◌, ◌-◌}
use Rattle.definitions.specs.FrameRuns.{run_at, with_run}
use Rattle.frame_arena.proofs.frames.copy_backward.Given as goal

-- the page frames of the run from i on are copied
abbrev pub invariant-loop-i : goal.invariant-loop-i
invariant-loop-i l = record {
  copied : l.frames ≡ with_run l.initial.frames (l.to + l.i) (run_at (l.n - l.i) l.initial.frames (l.from + l.i));
  len : length l.frames ≡ length l.initial.frames;
}
