use Rattle.std.proofs.Common.{◌≡◌, ◌+◌, ◌≤◌, ℕ, List, length, sym, ap, ◌∙◌, arith}
use Rattle.frame_sets.specs.FrameSet.{FrameSet, IsFrameSet}
use Rattle.placement.specs.Placed.{Placed}
use Rattle.placement.specs.Plan.{list_frames_for, planned}
use Rattle.placement.proofs.Plans.{Suffice, suffice, enough_apart, few_originals, is_plan, skipped}
use Rattle.frame_sets.proofs.Bounds.{few_members}
use Rattle.placement.proofs.planning.Placement.plan.Goals as goal

pub overflow_add-need : goal.overflow_add-need
overflow_add-need c =
    let few = few_members c.args.origs.now c.len-count.ensures.set in
    let count = c.len-count.ensures.len in
    let list_frames = c.list_frames_for-list_frames.ensures in
    record { fits = omega arith }

pub overflow_add-need-2 : goal.overflow_add-need-2
overflow_add-need-2 c =
    let few = few_members c.args.origs.now c.len-count.ensures.set in
    let count = c.len-count.ensures.len in
    let list_frames = c.list_frames_for-list_frames.ensures in
    record { fits = omega arith }

-- what the test of `plan` leaves to know
enough_for : (zones : List (ℕ × ℕ)) (origs free : FrameSet) (count have list_frames : ℕ) → origs.zones ≡ zones → free.zones ≡ zones → (count ≡ length origs.members) × IsFrameSet origs → (have ≡ length free.members) × IsFrameSet free → list_frames ≡ list_frames_for count → count + list_frames + 1 ≤ have → Suffice zones origs.members free.members
enough_for zones origs free count have list_frames origs_over free_over (count_is, origs_set) (have_is, free_set) list_is enough =
    let list_frames_are = list_is ∙ ap list_frames_for count_is in
    suffice zones origs free origs_over free_over origs_set free_set (omega arith)

pub reserve-self-inside-requires-clause-enough : goal.reserve-self-inside-requires-clause-enough
reserve-self-inside-requires-clause-enough c =
    let h = enough_for c.self.inside.zones c.args.origs.now c.args.free.now c.len-count.result c.len-have.result c.list_frames_for-list_frames.result (c.requires.origs ∙ ap (λ (p : Placed). p.zones) (sym c.self.view_is)) (c.requires.free ∙ ap (λ (p : Placed). p.zones) (sym c.self.view_is)) (c.len-count.ensures.len, c.len-count.ensures.set) (c.len-have.ensures.len, c.len-have.ensures.set) c.list_frames_for-list_frames.ensures c.if-have-need.false in
    let list_is = c.list_frames_for-list_frames.ensures ∙ ap list_frames_for c.len-count.ensures.len in
    let most = enough_apart c.self.inside.zones c.args.origs.now.members c.args.free.now.members h in
    omega arith

pub reserve-self-inside-requires-clause-room : goal.reserve-self-inside-requires-clause-room
reserve-self-inside-requires-clause-room c =
    let h = enough_for c.self.inside.zones c.args.origs.now c.args.free.now c.len-count.result c.len-have.result c.list_frames_for-list_frames.result (c.requires.origs ∙ ap (λ (p : Placed). p.zones) (sym c.self.view_is)) (c.requires.free ∙ ap (λ (p : Placed). p.zones) (sym c.self.view_is)) (c.len-count.ensures.len, c.len-count.ensures.set) (c.len-have.ensures.len, c.len-have.ensures.set) c.list_frames_for-list_frames.ensures c.if-have-need.false in
    let few = few_originals c.self.inside.zones c.args.origs.now.members c.args.free.now.members h in
    let count = c.len-count.ensures.len in
    let list_is = c.list_frames_for-list_frames.ensures in
    let room = c.self.invariant.list_room in
    omega arith

pub pair-requires-clause-each : goal.pair-requires-clause-each
pair-requires-clause-each c =
    let h = enough_for c.self.inside.zones c.args.origs.now c.args.free.now c.len-count.result c.len-have.result c.list_frames_for-list_frames.result (c.requires.origs ∙ ap (λ (p : Placed). p.zones) (sym c.self.view_is)) (c.requires.free ∙ ap (λ (p : Placed). p.zones) (sym c.self.view_is)) (c.len-count.ensures.len, c.len-count.ensures.set) (c.len-have.ensures.len, c.len-have.ensures.set) c.list_frames_for-list_frames.ensures c.if-have-need.false in
    skipped c.self.inside.zones c.args.origs.now.members c.args.free.now.members c.len-count.result c.len-have.result c.list_frames_for-list_frames.result c.reserve-self-inside.result h c.len-count.ensures.len c.len-have.ensures.len c.list_frames_for-list_frames.ensures c.reserve-self-inside.ensures.bounce

pub pair-requires-clause-room : goal.pair-requires-clause-room
pair-requires-clause-room c =
    let h = enough_for c.self.inside.zones c.args.origs.now c.args.free.now c.len-count.result c.len-have.result c.list_frames_for-list_frames.result (c.requires.origs ∙ ap (λ (p : Placed). p.zones) (sym c.self.view_is)) (c.requires.free ∙ ap (λ (p : Placed). p.zones) (sym c.self.view_is)) (c.len-count.ensures.len, c.len-count.ensures.set) (c.len-have.ensures.len, c.len-have.ensures.set) c.list_frames_for-list_frames.ensures c.if-have-need.false in
    let few = few_originals c.self.inside.zones c.args.origs.now.members c.args.free.now.members h in
    let room = c.self.invariant.moves_room in
    omega arith

pub invariant_of-self-2 : goal.invariant_of-self-2
invariant_of-self-2 c =
    let h = enough_for c.self.inside.zones c.args.origs.now c.args.free.now c.len-count.result c.len-have.result c.list_frames_for-list_frames.result (c.requires.origs ∙ ap (λ (p : Placed). p.zones) (sym c.self.view_is)) (c.requires.free ∙ ap (λ (p : Placed). p.zones) (sym c.self.view_is)) (c.len-count.ensures.len, c.len-count.ensures.set) (c.len-have.ensures.len, c.len-have.ensures.set) c.list_frames_for-list_frames.ensures c.if-have-need.false in
    let plan = is_plan c.self.inside.zones c.args.origs.now.members c.args.free.now.members c.reserve-self-inside.new.list.items c.pair.new.moves.items c.len-count.result c.len-have.result c.list_frames_for-list_frames.result c.reserve-self-inside.result h c.len-count.ensures.len c.len-have.ensures.len c.list_frames_for-list_frames.ensures c.reserve-self-inside.ensures.bounce c.reserve-self-inside.ensures.list c.pair.ensures.moves in
    let moves_room = c.pair.ensures.room in
    let moves_had = c.self.invariant.moves_room in
    let list_room = c.reserve-self-inside.ensures.room in
    let list_had = c.self.invariant.list_room in
    record {
      zones = c.self.invariant.zones;
      moves_room = omega arith;
      list_room = omega arith;
      placed = λ _. plan.placement;
    }

pub returns-clause-planned : goal.returns-clause-planned
returns-clause-planned c =
    let h = enough_for c.self.inside.zones c.args.origs.now c.args.free.now c.len-count.result c.len-have.result c.list_frames_for-list_frames.result (c.requires.origs ∙ ap (λ (p : Placed). p.zones) (sym c.self.view_is)) (c.requires.free ∙ ap (λ (p : Placed). p.zones) (sym c.self.view_is)) (c.len-count.ensures.len, c.len-count.ensures.set) (c.len-have.ensures.len, c.len-have.ensures.set) c.list_frames_for-list_frames.ensures c.if-have-need.false in
    let plan = is_plan c.self.inside.zones c.args.origs.now.members c.args.free.now.members c.reserve-self-inside.new.list.items c.pair.new.moves.items c.len-count.result c.len-have.result c.list_frames_for-list_frames.result c.reserve-self-inside.result h c.len-count.ensures.len c.len-have.ensures.len c.list_frames_for-list_frames.ensures c.reserve-self-inside.ensures.bounce c.reserve-self-inside.ensures.list c.pair.ensures.moves in
    plan.is ∙ ap (λ (p : Placed). planned p.zones c.args.origs.now.members c.args.free.now.members) c.self.view_is

pub returns-clause-placement : goal.returns-clause-placement
returns-clause-placement c =
    let h = enough_for c.self.inside.zones c.args.origs.now c.args.free.now c.len-count.result c.len-have.result c.list_frames_for-list_frames.result (c.requires.origs ∙ ap (λ (p : Placed). p.zones) (sym c.self.view_is)) (c.requires.free ∙ ap (λ (p : Placed). p.zones) (sym c.self.view_is)) (c.len-count.ensures.len, c.len-count.ensures.set) (c.len-have.ensures.len, c.len-have.ensures.set) c.list_frames_for-list_frames.ensures c.if-have-need.false in
    let plan = is_plan c.self.inside.zones c.args.origs.now.members c.args.free.now.members c.reserve-self-inside.new.list.items c.pair.new.moves.items c.len-count.result c.len-have.result c.list_frames_for-list_frames.result c.reserve-self-inside.result h c.len-count.ensures.len c.len-have.ensures.len c.list_frames_for-list_frames.ensures c.reserve-self-inside.ensures.bounce c.reserve-self-inside.ensures.list c.pair.ensures.moves in
    plan.placement

pub returns-clause-taken : goal.returns-clause-taken
returns-clause-taken c =
    let h = enough_for c.self.inside.zones c.args.origs.now c.args.free.now c.len-count.result c.len-have.result c.list_frames_for-list_frames.result (c.requires.origs ∙ ap (λ (p : Placed). p.zones) (sym c.self.view_is)) (c.requires.free ∙ ap (λ (p : Placed). p.zones) (sym c.self.view_is)) (c.len-count.ensures.len, c.len-count.ensures.set) (c.len-have.ensures.len, c.len-have.ensures.set) c.list_frames_for-list_frames.ensures c.if-have-need.false in
    let plan = is_plan c.self.inside.zones c.args.origs.now.members c.args.free.now.members c.reserve-self-inside.new.list.items c.pair.new.moves.items c.len-count.result c.len-have.result c.list_frames_for-list_frames.result c.reserve-self-inside.result h c.len-count.ensures.len c.len-have.ensures.len c.list_frames_for-list_frames.ensures c.reserve-self-inside.ensures.bounce c.reserve-self-inside.ensures.list c.pair.ensures.moves in
    plan.taken

pub returns-clause-targets : goal.returns-clause-targets
returns-clause-targets c =
    let h = enough_for c.self.inside.zones c.args.origs.now c.args.free.now c.len-count.result c.len-have.result c.list_frames_for-list_frames.result (c.requires.origs ∙ ap (λ (p : Placed). p.zones) (sym c.self.view_is)) (c.requires.free ∙ ap (λ (p : Placed). p.zones) (sym c.self.view_is)) (c.len-count.ensures.len, c.len-count.ensures.set) (c.len-have.ensures.len, c.len-have.ensures.set) c.list_frames_for-list_frames.ensures c.if-have-need.false in
    let plan = is_plan c.self.inside.zones c.args.origs.now.members c.args.free.now.members c.reserve-self-inside.new.list.items c.pair.new.moves.items c.len-count.result c.len-have.result c.list_frames_for-list_frames.result c.reserve-self-inside.result h c.len-count.ensures.len c.len-have.ensures.len c.list_frames_for-list_frames.ensures c.reserve-self-inside.ensures.bounce c.reserve-self-inside.ensures.list c.pair.ensures.moves in
    plan.targets_are
