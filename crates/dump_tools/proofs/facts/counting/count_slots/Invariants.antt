use Rattle.std.proofs.Common.{◌≡◌, ◌≤◌, ◌==◌, length, filter}
use Rattle.std.specs.List.{range_with_len}
use Rattle.plain_machine.specs.Machine.{slot_entry}
use Rattle.swap_slots.specs.Entries.{word_of}
use Rattle.dump_tools.proofs.facts.counting.count_slots.Given as goal

abbrev pub invariant-loop-slot : goal.invariant-loop-slot
invariant-loop-slot l =
    (l.total ≡ length (filter (λ s. slot_entry l.dump.hw l.dump.frames s == word_of l.entry) (range_with_len 0 l.slot)))
    × (l.total ≤ l.slot)
