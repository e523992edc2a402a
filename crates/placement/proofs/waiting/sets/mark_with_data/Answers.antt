use Rattle.std.proofs.Common.{ℕ, List, ◌∙◌, sym, ap, ap₂, subst}
use Rattle.std.proofs.lemmas.Bool.{false≢true}
use Rattle.std.proofs.lemmas.List.Elements.{All-contains}
use Rattle.std.specs.List.{Contains}
use Rattle.std.specs.List.Sorted.{IsStrictlyIncreasing}
use Rattle.definitions.specs.Zones.{numbers}
use Rattle.definitions.specs.FrameSets.{removed}
use Rattle.definitions.proofs.FrameSets.{removed_other}
use Rattle.frame_sets.specs.FrameSet.{FrameSet}
use Rattle.frame_sets.specs.Left.{left_in}
use Rattle.frame_sets.proofs.Yielded.{next_member, all_yielded}
use Rattle.placement.specs.Waiting.{with_data}
use Rattle.placement.proofs.WithData.{Contains-from_with_data, IsStrictlyIncreasing-with_data, with_one_less, all_with_data}
use Rattle.placement.proofs.waiting.sets.mark_with_data.Goals as goal

pub loop-p-init : goal.loop-p-init
loop-p-init c = record {
  zones = ap (λ (set : FrameSet). set.zones) c.copy_from.ensures ∙ sym c.requires;
  members = ap (λ (set : FrameSet). set.members) c.copy_from.ensures ∙ sym (all_with_data c.args.origs.now.members);
  left = ap left_in c.into_iter-p-iterator.ensures.into_iter_gives ∙ c.iter-p-items.ensures.members;
}

pub clear-requires : goal.clear-requires
clear-requires c =
    let origs = c.args.origs.now in
    let p = c.in-Some.p in
    let member = subst (λ (members : List ℕ). Contains members p) c.loop-p.invariant.members (c.has.ensures.0 c.if-has.true) in
    let valid = All-contains (Contains (numbers origs.zones)) origs.members p c.is_frame_set.ensures.set.valid (Contains-from_with_data origs.members c.loop-p.yielded p member).0 in
    subst (λ (zones : List (ℕ × ℕ)). Contains (numbers zones) p) (sym (c.loop-p.invariant.zones ∙ c.requires)) valid

pub loop-p-preserved-then-has : goal.loop-p-preserved-then-has
loop-p-preserved-then-has c =
    let origs = c.args.origs.now.members in
    let zeros = c.args.zeros.now.members in
    let p = c.in-Some.p in
    let next = next_member zeros c.loop-p.yielded (left_in c.loop-p.p-iterator) (left_in c.next.new.self) p c.iter-p-items.ensures.set.ascending c.loop-p.invariant.left c.in-Some.ensures.steps in
    record {
      zones = ap (λ (set : FrameSet). set.zones) c.clear.ensures ∙ c.loop-p.invariant.zones;
      members =
          ap (λ (set : FrameSet). set.members) c.clear.ensures ∙ ap (λ (ps : List ℕ). removed ps p) c.loop-p.invariant.members
          ∙ sym (with_one_less origs c.loop-p.yielded p c.is_frame_set.ensures.set.ascending);
      left = next.goes_on;
    }

pub loop-p-preserved : goal.loop-p-preserved
loop-p-preserved c =
    let origs = c.args.origs.now.members in
    let zeros = c.args.zeros.now.members in
    let p = c.in-Some.p in
    let before = c.loop-p.set.members in
    let up = c.is_frame_set.ensures.set.ascending in
    let next = next_member zeros c.loop-p.yielded (left_in c.loop-p.p-iterator) (left_in c.next.new.self) p c.iter-p-items.ensures.set.ascending c.loop-p.invariant.left c.in-Some.ensures.steps in
    let rises = subst IsStrictlyIncreasing (sym c.loop-p.invariant.members) (IsStrictlyIncreasing-with_data origs c.loop-p.yielded up) in
    record {
      zones = c.loop-p.invariant.zones;
      members =
          sym (removed_other before p rises (λ in'. false≢true (sym c.if-has.false ∙ c.has.ensures.1 in')))
          ∙ ap (λ (ps : List ℕ). removed ps p) c.loop-p.invariant.members ∙ sym (with_one_less origs c.loop-p.yielded p up);
      left = next.goes_on;
    }

pub returns : goal.returns
returns c =
    let all = all_yielded c.args.zeros.now.members c.loop-p.yielded (left_in c.loop-p.p-iterator) c.loop-p.invariant.left c.in-None.ensures.steps.0 in
    let made = λ (zones : List (ℕ × ℕ)) (members : List ℕ). let set : FrameSet = record { zones = zones; members = members } in set in
    ap₂ made c.loop-p.invariant.zones (c.loop-p.invariant.members ∙ ap (with_data c.args.origs.now.members) all)
