use Rattle.std.proofs.Common.{◌≡◌, filter, map}
use Rattle.std.specs.List.{range_with_len}
use Rattle.core_machine.specs.Segments.{is_kept, segment_at}
use Rattle.core_machine.proofs.segments.kept.kept_of.Given as goal

abbrev pub invariant-loop-i : goal.invariant-loop-i
invariant-loop-i l = record {
  kept : l.segments.items ≡ map (segment_at l.loads) (filter (is_kept l.loads) (range_with_len 0 l.i));
}
