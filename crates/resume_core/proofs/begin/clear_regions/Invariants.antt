use Rattle.std.proofs.Common.{◌≡◌, ◌+◌, ◌&&◌, eqb, filter, leb, ltb, not, take}
use Rattle.std.specs.List.{list_any}
use Rattle.frame_sets.specs.FrameSet.{IsFrameSet}
use Rattle.resume_core.proofs.begin.clear_regions.Given as goal

abbrev pub invariant-loop-start : goal.invariant-loop-start
invariant-loop-start l = record {
  set : IsFrameSet l.set;
  zones : l.set.zones ≡ l.fn.set.zones;
  members : l.set.members ≡ filter (λ p. not (list_any (λ r. leb r.0 p && ltb p (r.0 + r.1) && not (eqb r.2 0)) (take l.start-index l.hw.regions))) l.fn.set.members;
}
