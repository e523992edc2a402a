use Rattle.std.proofs.Common.{◌≡◌, ◌+◌, ◌-◌, ◌∙◌, refl, sym, ap, length, arith, List, ℕ}
use Rattle.std.proofs.lemmas.List.{length-set}
use Rattle.definitions.specs.Tables.{frame, with_frame}
use Rattle.definitions.specs.FrameRuns.{run_at, with_run}
use Rattle.definitions.proofs.FrameLists.{with_run_none, with_run-copies_down}
use Rattle.frame_arena.proofs.frames.copy_backward.Goals as goal

pub loop-i-init : goal.loop-i-init
loop-i-init c =
    let from = c.args.from in
    let to = c.args.to in
    let n = c.args.n in
    let frames = c.args.frames.now in
    let none : n - n ≡ 0 = omega arith in
    record {
      copied = sym (ap (λ (m : ℕ). with_run frames (to + n) (run_at m frames (from + n))) none ∙ with_run_none frames (to + n));
      len = refl;
    }

pub loop-i-preserved : goal.loop-i-preserved
loop-i-preserved c =
    let from = c.args.from in
    let to = c.args.to in
    let n = c.args.n in
    let i = c.loop-i.i - 1 in
    let m = n - c.loop-i.i in
    let frames = c.args.frames.now in
    let at : c.loop-i.i ≡ i + 1 = omega arith in
    let to_at : to + c.loop-i.i ≡ to + i + 1 = omega arith in
    let from_at : from + c.loop-i.i ≡ from + i + 1 = omega arith in
    let left : m + 1 ≡ n - i = omega arith in
    let kept = c.loop-i.invariant.copied ∙ ap (λ (k : ℕ). with_run frames k (run_at m frames (from + c.loop-i.i))) to_at ∙ ap (λ (k : ℕ). with_run frames (to + i + 1) (run_at m frames k)) from_at in
    record {
      copied =
          c.copy.ensures
          ∙ ap (λ (all : List (List ℕ)). with_frame all (to + i) (frame all (from + i))) kept
          ∙ with_run-copies_down frames from to i m (omega arith) c.requires.upwards
          ∙ ap (λ (k : ℕ). with_run frames (to + i) (run_at k frames (from + i))) left;
      len = ap length c.copy.ensures ∙ length-set c.loop-i.frames (to + i) (frame c.loop-i.frames (from + i)) ∙ c.loop-i.invariant.len;
    }
