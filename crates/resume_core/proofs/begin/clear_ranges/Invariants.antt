use Rattle.std.proofs.Common.{◌≡◌, ◌&&◌, filter, not, take, leb}
use Rattle.std.specs.List.{list_any}
use Rattle.frame_sets.specs.FrameSet.{IsFrameSet}
use Rattle.resume_core.proofs.begin.clear_ranges.Given as goal

abbrev pub invariant-loop-first : goal.invariant-loop-first
invariant-loop-first l = record {
  set : IsFrameSet l.set;
  zones : l.set.zones ≡ l.fn.set.zones;
  members : l.set.members ≡ filter (λ p. not (list_any (λ r. leb r.0 p && leb p r.1) (take l.first-index (take l.ranges.count l.ranges.list)))) l.fn.set.members;
}
