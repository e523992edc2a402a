use Rattle.std.proofs.Common.{◌&&◌, ℕ, Bool, List, filter, not, ap, ◌∙◌}
use Rattle.definitions.specs.Zones.{numbers}
use Rattle.frame_sets.specs.FrameSet.{FrameSet}
use Rattle.plain_machine.specs.Loader.{is_in_ranges, is_in_regions}
use Rattle.resume_core.proofs.Clearing.{filter_twice, set_left, set_is}
use Rattle.resume_core.proofs.begin.mark_left_free.Goals as goal

pub clear_regions-requires : goal.clear_regions-requires
clear_regions-requires c = set_left c.set_all.new.self c.clear_ranges.new.set (λ p. not (is_in_ranges c.args.ranges.now p)) c.set_all.ensures.set c.clear_ranges.ensures

pub returns-clause-set : goal.returns-clause-set
returns-clause-set c =
    let apart : ℕ → Bool = λ p. not (is_in_ranges c.args.ranges.now p) in
    let plain : ℕ → Bool = λ p. not (is_in_regions c.args.hw.now p) in
    let zones_of : FrameSet → List (ℕ × ℕ) = λ set. set.zones in
    let members_of : FrameSet → List ℕ = λ set. set.members in
    let all = c.set_all.ensures.all in
    let first = c.clear_ranges.ensures in
    let second = c.clear_regions.ensures.set in
    set_is c.clear_regions.new.set c.args.set.now.zones (ap zones_of second ∙ ap zones_of first ∙ ap zones_of all)
    (ap members_of second ∙ ap (filter plain) (ap members_of first ∙ ap (filter apart) (ap members_of all))
    ∙ filter_twice plain apart (numbers c.args.set.now.zones) ∙ ap (λ (zones : List (ℕ × ℕ)). filter (λ p. apart p && plain p) (numbers zones)) c.requires)
