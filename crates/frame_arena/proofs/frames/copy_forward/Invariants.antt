use Rattle.std.proofs.Common.{length, ◌≡◌}
use Rattle.definitions.specs.FrameRuns.{run_at, with_run}
use Rattle.frame_arena.proofs.frames.copy_forward.Given as goal

-- the first i page frames of the run are copied
abbrev pub invariant-loop-i : goal.invariant-loop-i
invariant-loop-i l = record {
  copied : l.frames ≡ with_run l.initial.frames l.to (run_at l.i l.initial.frames l.from);
  len : length l.frames ≡ length l.initial.frames;
}
