use Rattle.std.proofs.Common.{◌≡◌, ℕ, ◌++◌, ◌∷◌, [], length, ap, ◌∙◌, arith}
use Rattle.dump_tools.specs.Counts.{frames_of}
use Rattle.dump_tools.specs.declared.facts.counting.Kind.TheVariants.{OwnedBy}
use Rattle.dump_tools.specs.declared.facts.fact.Fact.{Fact}
use Rattle.dump_tools.specs.declared.facts.fact.Fact.TheVariants as fact
use Rattle.dump_tools.proofs.Owners.{owned_some, owned_none, owned_all}
use Rattle.dump_tools.proofs.facts.memory.add_owned_frames.Goals as goal
use Rattle.dump_tools.proofs.facts.memory.add_owned_frames.Goals.{then-count-gt0, else-count-gt0}

pub loop-task-preserved : goal.loop-task-preserved
loop-task-preserved c =
    let h = c.args.dump.now.hw in
    let m = c.args.dump.now.frames in
    let count : ℕ → ℕ = λ t. length (frames_of h m (OwnedBy t)) in
    let says : ℕ → ℕ → Fact = λ t n. fact.OwnedFrames t n in
    let t = c.loop-task.task in
    let n = c.count_frames-count.result in
    elim c.if-count-gt0.branch [
      | then-count-gt0 w ↦
          let size = ap length w.facts-is in
          let from : w.from.result ≡ t = omega (arith, w.from.ensures) in
          record {
            added = w.facts-is
                ∙ owned_some says count t n c.args.facts.now c.loop-task.facts w.add.new.self c.loop-task.auto.task c.count_frames-count.ensures.count w.if-count-gt0.true c.loop-task.invariant.added
                (w.add.ensures.added ∙ ap (λ (k : ℕ). c.loop-task.facts ++ fact.OwnedFrames k n ∷ []) from);
            len = omega (arith, size, w.add.ensures.len, c.loop-task.invariant.len, c.loop-task.auto.task);
          }
      | else-count-gt0 w ↦
          let size = ap length w.facts-is in
          record {
            added = owned_none says count t n c.args.facts.now c.loop-task.facts c.if-count-gt0.facts c.loop-task.auto.task c.count_frames-count.ensures.count w.if-count-gt0.false c.loop-task.invariant.added w.facts-is;
            len = omega (arith, size, c.loop-task.invariant.len, c.loop-task.auto.task);
          }
    ]

pub returns-clause-added : goal.returns-clause-added
returns-clause-added c =
    owned_all (λ t n. fact.OwnedFrames t n) (λ t. length (frames_of c.args.dump.now.hw c.args.dump.now.frames (OwnedBy t))) c.loop-task.task c.args.facts.now c.loop-task.facts
    (omega (arith, c.loop-task.auto.task-end, c.loop-task-test.false)) c.loop-task.invariant.added
