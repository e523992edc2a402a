use Rattle.std.proofs.Common.{◌≡◌, ℕ, ◌∷◌, ◌++◌, [], Bool, List, cond, sym, ap, ◌∙◌, filter, Contains, subst}
use Rattle.definitions.specs.Zones.{numbers}
use Rattle.std.proofs.lemmas.List.Elements.{filter-append, All-contains}
use Rattle.definitions.specs.FrameSets.{inserted}
use Rattle.definitions.proofs.FrameSets.{inserted_above, Contains-from_filter}
use Rattle.frame_sets.specs.FrameSet.{FrameSet}
use Rattle.frame_sets.specs.Left.{left_in}
use Rattle.frame_sets.proofs.Yielded.{next_member}
use Rattle.snapshot.specs.Taken.{is_zero_frame}
use Rattle.snapshot.proofs.mark_zeros.Goals as goal

pub set-requires : goal.set-requires
set-requires c =
    let origs = c.args.origs.now in
    let set = c.iter-p-items.ensures.set in
    let next = next_member origs.members _ _ (left_in c.next.new.self) c.in-Some.p set.ascending c.loop-p.invariant.left c.in-Some.ensures.steps in
    let zones : origs.zones ≡ c.loop-p.zeros.zones = sym (c.loop-p.invariant.zones ∙ c.requires.zones) in
    subst (λ (zs : List (ℕ × ℕ)). Contains (numbers zs) c.in-Some.p) zones (All-contains (Contains (numbers origs.zones)) origs.members c.in-Some.p set.valid next.within)

pub loop-p-preserved-then-is_zero : goal.loop-p-preserved-then-is_zero
loop-p-preserved-then-is_zero c =
    let origs = c.args.origs.now.members in
    let p = c.in-Some.p in
    let test = is_zero_frame c.args.frames.now in
    let next = next_member origs _ _ (left_in c.next.new.self) p c.iter-p-items.ensures.set.ascending c.loop-p.invariant.left c.in-Some.ensures.steps in
    let passes : filter test (p ∷ []) ≡ p ∷ [] = ap (λ (b : Bool). cond b (p ∷ []) []) (sym c.is_zero.ensures ∙ c.if-is_zero.true) in
    record {
      zones = ap (λ (set : FrameSet). set.zones) c.set.ensures ∙ c.loop-p.invariant.zones;
      members =
          ap (λ (set : FrameSet). set.members) c.set.ensures ∙ ap (λ (xs : List ℕ). inserted xs p) c.loop-p.invariant.members
          ∙ inserted_above (filter test c.loop-p.yielded) p (λ q in'. next.above q (Contains-from_filter test c.loop-p.yielded q in').0)
          ∙ sym (filter-append test c.loop-p.yielded (p ∷ []) ∙ ap (λ (xs : List ℕ). filter test c.loop-p.yielded ++ xs) passes);
      left = next.goes_on;
    }
