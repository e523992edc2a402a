use Rattle.std.proofs.Common.{ℕ, length, ap, ◌∙◌, arith}
use Rattle.swap_slots.proofs.Entries.{entry_of_word-task}
use Rattle.dump_tools.specs.Counts.{slots_of}
use Rattle.dump_tools.specs.declared.facts.fact.Fact.{Fact}
use Rattle.dump_tools.specs.declared.facts.fact.Fact.TheVariants as fact
use Rattle.dump_tools.proofs.Owners.{owned_some, owned_none, owned_all}
use Rattle.dump_tools.proofs.facts.memory.add_owned_slots.Goals as goal
use Rattle.dump_tools.proofs.facts.memory.add_owned_slots.Goals.{then-count-gt0, else-count-gt0}

pub count_slots-count-requires-clause-entry : goal.count_slots-count-requires-clause-entry
count_slots-count-requires-clause-entry c =
    let some = c.loop-task.auto.task in
    let few = c.loop-task-test.true in
    entry_of_word-task c.loop-task.task (λ e. omega arith) (λ e. omega arith) (λ e. omega arith)

pub loop-task-preserved : goal.loop-task-preserved
loop-task-preserved c =
    let h = c.args.dump.now.hw in
    let m = c.args.dump.now.frames in
    let count : ℕ → ℕ = λ t. length (slots_of h m t) in
    let says : ℕ → ℕ → Fact = λ t n. fact.OwnedSlots t n in
    let t = c.loop-task.task in
    let n = c.count_slots-count.result in
    elim c.if-count-gt0.branch [
      | then-count-gt0 w ↦
          let size = ap length w.facts-is in
          record {
            added = w.facts-is
                ∙ owned_some says count t n c.args.facts.now c.loop-task.facts w.add.new.self c.loop-task.auto.task c.count_slots-count.ensures w.if-count-gt0.true c.loop-task.invariant.added w.add.ensures.added;
            len = omega (arith, size, w.add.ensures.len, c.loop-task.invariant.len, c.loop-task.auto.task);
          }
      | else-count-gt0 w ↦
          let size = ap length w.facts-is in
          record {
            added = owned_none says count t n c.args.facts.now c.loop-task.facts c.if-count-gt0.facts c.loop-task.auto.task c.count_slots-count.ensures w.if-count-gt0.false c.loop-task.invariant.added w.facts-is;
            len = omega (arith, size, c.loop-task.invariant.len, c.loop-task.auto.task);
          }
    ]

pub returns-clause-added : goal.returns-clause-added
returns-clause-added c =
    owned_all (λ t n. fact.OwnedSlots t n) (λ t. length (slots_of c.args.dump.now.hw c.args.dump.now.frames t)) c.loop-task.task c.args.facts.now c.loop-task.facts
    (omega (arith, c.loop-task.auto.task-end, c.loop-task-test.false)) c.loop-task.invariant.added
