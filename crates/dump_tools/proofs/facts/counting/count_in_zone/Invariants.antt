use Rattle.std.proofs.Common.{◌≡◌, ◌-◌, ◌≤◌, length, filter}
use Rattle.std.specs.List.{range_with_len}
use Rattle.dump_tools.specs.Counts.{is_of}
use Rattle.dump_tools.proofs.facts.counting.count_in_zone.Given as goal

abbrev pub invariant-loop-p : goal.invariant-loop-p
invariant-loop-p l =
    (l.total ≡ length (filter (is_of l.dump.hw l.dump.frames l.kind) (range_with_len l.start (l.p - l.start))))
    × (l.total ≤ l.p - l.start)
