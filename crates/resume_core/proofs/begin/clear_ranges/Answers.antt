use Rattle.std.proofs.Common.{◌≡◌, ◌&&◌, ℕ, List, length, get_or, take, leb, filter, not, Bool, refl, ap, ◌∙◌, arith}
use Rattle.std.proofs.lemmas.List.{take_all}
use Rattle.frame_sets.specs.FrameSet.{FrameSet}
use Rattle.resume_core.proofs.Clearing.{without_any, one_more, none_yet, set_left, set_is}
use Rattle.resume_core.proofs.begin.clear_ranges.Goals as goal

abbrev in_range : ℕ × ℕ → ℕ → Bool
in_range r p = leb r.0 p && leb p r.1

pub loop-first-init : goal.loop-first-init
loop-first-init c = record { set = c.requires; zones = refl; members = none_yet in_range (take c.args.ranges.now.count c.args.ranges.now.list) c.args.set.now.members }

pub loop-first-preserved : goal.loop-first-preserved
loop-first-preserved c =
    let listed = c.listed-first-items.result.now in
    let are = c.listed-first-items.ensures in
    let ranges = take c.args.ranges.now.count c.args.ranges.now.list in
    let k = c.loop-first.first-index in
    let lt = c.loop-first-test.true in
    let count = ap length are in
    let at : get_or listed k (0, 0) ≡ get_or ranges k (0, 0) = ap (λ (rs : List (ℕ × ℕ)). get_or rs k (0, 0)) are in
    record {
      set = set_left c.loop-first.set c.clear_between.new.set _ c.loop-first.invariant.set c.clear_between.ensures;
      zones = ap (λ (s : FrameSet). s.zones) c.clear_between.ensures ∙ c.loop-first.invariant.zones;
      members =
          ap (λ (s : FrameSet). s.members) c.clear_between.ensures
          ∙ ap (λ (ms : List ℕ). filter (λ p. not (in_range (get_or listed k (0, 0)) p)) ms) c.loop-first.invariant.members
          ∙ one_more in_range ranges k (0, 0) (in_range (get_or listed k (0, 0))) c.args.set.now.members (omega arith) (λ p. ap (λ (r : ℕ × ℕ). in_range r p) at);
    }

pub returns : goal.returns
returns c =
    let ranges = take c.args.ranges.now.count c.args.ranges.now.list in
    let count = ap length c.listed-first-items.ensures in
    let over = c.loop-first-test.false in
    set_is c.loop-first.set c.args.set.now.zones c.loop-first.invariant.zones
    (c.loop-first.invariant.members ∙ ap (λ (rs : List (ℕ × ℕ)). without_any in_range rs c.args.set.now.members) (take_all c.loop-first.first-index ranges (omega arith)))
