use Rattle.std.proofs.Common.{◌≡◌, ◌+◌, ◌-◌, ◌≤◌, ◌++◌, length}
use Rattle.std.specs.List.{range_with_len}
use Rattle.dump_tools.specs.Counts.{slots_of}
use Rattle.dump_tools.specs.Facts.{owned_by}
use Rattle.dump_tools.specs.declared.facts.fact.Fact.TheVariants as fact
use Rattle.dump_tools.proofs.facts.memory.add_owned_slots.Given as goal

abbrev pub invariant-loop-task : goal.invariant-loop-task
invariant-loop-task l = record {
  added : l.facts ≡ l.fn.facts ++ owned_by fact.OwnedSlots (λ t. length (slots_of l.dump.hw l.dump.frames t)) (range_with_len 1 (l.task - 1));
  len : length l.facts ≤ length l.fn.facts + (l.task - 1);
}
