use Rattle.std.proofs.Common.{◌+◌, ◌∙◌, refl, sym, ap, length, arith, List, ℕ}
use Rattle.std.proofs.lemmas.List.{length-set}
use Rattle.definitions.specs.Tables.{frame, with_frame}
use Rattle.definitions.proofs.FrameLists.{with_run_none, with_run-copies_up}
use Rattle.frame_arena.proofs.frames.copy_forward.Goals as goal

pub loop-i-init : goal.loop-i-init
loop-i-init c = record { copied = sym (with_run_none c.args.frames.now c.args.to); len = refl }

pub loop-i-preserved : goal.loop-i-preserved
loop-i-preserved c =
    let from = c.args.from in
    let to = c.args.to in
    let i = c.loop-i.i in
    record {
      copied =
          c.copy.ensures
          ∙ ap (λ (frames : List (List ℕ)). with_frame frames (to + i) (frame frames (from + i))) c.loop-i.invariant.copied
          ∙ with_run-copies_up c.args.frames.now from to i (omega arith) c.requires.downwards;
      len = ap length c.copy.ensures ∙ length-set c.loop-i.frames (to + i) (frame c.loop-i.frames (from + i)) ∙ c.loop-i.invariant.len;
    }
