use Rattle.std.proofs.Common.{◌∙◌, ◌++◌, ◌∷◌, [], ℕ, ◌<◌, List, length, sym, subst, arith}
use Rattle.std.proofs.lemmas.Bool.{false≢true}
use Rattle.std.proofs.lemmas.List.Elements.{All-contains}
use Rattle.std.specs.List.{Contains}
use Rattle.definitions.specs.Zones.{numbers}
use Rattle.definitions.proofs.ZoneNumbers.{below_top}
use Rattle.frame_sets.specs.Left.{left_in}
use Rattle.frame_sets.proofs.Yielded.{next_member, all_yielded}
use Rattle.placement.proofs.Clearing.{IsCleared, clears_one, keeps_one}
use Rattle.placement.proofs.waiting.sets.zero_apart.Goals as goal

pub zero-requires : goal.zero-requires
zero-requires c =
    let set = c.args.set.now in
    let p = c.in-Some.p in
    let is = c.iter-p-items.ensures.set in
    let next = next_member set.members c.loop-p.yielded (left_in c.loop-p.p-iterator) (left_in c.next.new.self) p is.ascending c.loop-p.invariant.left c.in-Some.ensures.steps in
    let low = below_top set.zones p is.zones.apart (All-contains (Contains (numbers set.zones)) set.members p is.valid next.within) in
    let fits = c.requires in
    let size = c.loop-p.invariant.cleared.size in
    omega arith

pub loop-p-preserved-then-not-has : goal.loop-p-preserved-then-not-has
loop-p-preserved-then-not-has c =
    let set = c.args.set.now in
    let kept = c.args.kept.now.members in
    let p = c.in-Some.p in
    let old = c.args.frames.now in
    let is = c.iter-p-items.ensures.set in
    let next = next_member set.members c.loop-p.yielded (left_in c.loop-p.p-iterator) (left_in c.next.new.self) p is.ascending c.loop-p.invariant.left c.in-Some.ensures.steps in
    let low = below_top set.zones p is.zones.apart (All-contains (Contains (numbers set.zones)) set.members p is.valid next.within) in
    let fits = c.requires in
    let below : p < length old = omega arith in
    let absent : Contains kept p → ⊥ = λ in'. false≢true (sym c.if-not-has.true ∙ c.has.ensures.1 in') in
    record {
      cleared = subst (IsCleared set.members kept (c.loop-p.yielded ++ p ∷ []) old) (sym c.zero.ensures) (clears_one set.members kept c.loop-p.yielded p old c.loop-p.frames next.within below absent c.loop-p.invariant.cleared);
      left = next.goes_on;
    }

pub loop-p-preserved : goal.loop-p-preserved
loop-p-preserved c =
    let set = c.args.set.now in
    let kept = c.args.kept.now.members in
    let next = next_member set.members c.loop-p.yielded (left_in c.loop-p.p-iterator) (left_in c.next.new.self) c.in-Some.p c.iter-p-items.ensures.set.ascending c.loop-p.invariant.left c.in-Some.ensures.steps in
    record {
      cleared = keeps_one set.members kept c.loop-p.yielded c.in-Some.p c.args.frames.now c.loop-p.frames (c.has.ensures.0 c.if-not-has.false) c.loop-p.invariant.cleared;
      left = next.goes_on;
    }

pub returns-clause-zero : goal.returns-clause-zero
returns-clause-zero c = λ p in' apart.
    let all = all_yielded c.args.set.now.members c.loop-p.yielded (left_in c.loop-p.p-iterator) c.loop-p.invariant.left c.in-None.ensures.steps.0 in
    c.loop-p.invariant.cleared.zero p (subst (λ (ps : List ℕ). Contains ps p) (sym all) in') apart
