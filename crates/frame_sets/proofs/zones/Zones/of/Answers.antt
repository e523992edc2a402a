use Rattle.std.proofs.Common.{◌≡◌, ℕ, ◌+◌, ◌-◌, ◌<◌, ◌≤◌, suc, List, [], ◌∷◌, ◌++◌, length, get_or, set, take, drop, replicate, subst, sym, ap, ◌∙◌, refl, inl, inr, arith}
use Rattle.std.specs.List.{AllWithin, AllAdjacentBelow}
use Rattle.std.proofs.lemmas.Bool.{cases_lt}
use Rattle.std.proofs.lemmas.List.{get_or_default, take_more, drop-set-lt, length-set, drop-drop}
use Rattle.std.proofs.lemmas.List.Elements.{AllWithin-more}
use Rattle.std.proofs.lemmas.List.Sorted.{all_adjacent_more}
use Rattle.std.proofs.lemmas.Grind.{take-set_at}
use Rattle.definitions.specs.Zones.{zone_at, zone_end}
use Rattle.definitions.specs.ZoneFacts.{IsZone, LiesBelow}
use Rattle.frame_sets.proofs.zones.Zones.of.Goals as goal

each_more : (pairs : List (ℕ × ℕ)) (at : ℕ) → at < length pairs → AllWithin IsZone pairs 0 at → IsZone (zone_at pairs at) → AllWithin IsZone pairs 0 (at + 1)
each_more pairs at l each zone =
    AllWithin-more IsZone pairs 0 at each (λ d. subst IsZone (get_or_default pairs at (0, 0) d l) zone)

apart_more : (pairs : List (ℕ × ℕ)) (at above : ℕ) → at < length pairs → AllAdjacentBelow LiesBelow pairs at → (0 < at → above ≡ zone_end (zone_at pairs (at - 1))) → above ≤ (zone_at pairs at).0 → AllAdjacentBelow LiesBelow pairs (at + 1)
apart_more pairs at above l apart last le = elim (cases_lt 0 at) [
  | inl some ↦ all_adjacent_more pairs LiesBelow at some apart (λ d.
      let before = get_or_default pairs (at - 1) (0, 0) d (omega arith) in
      let this = get_or_default pairs at (0, 0) d l in
      let end = last some in
      subst (λ (z : ℕ × ℕ). LiesBelow z (get_or pairs at d)) before (subst (λ (z : ℕ × ℕ). LiesBelow (zone_at pairs (at - 1)) z) this (omega arith)))
  | inr none ↦ λ k d h. absurd (omega arith)
]

kept_more : (pairs kept : List (ℕ × ℕ)) (at : ℕ) → at < length pairs → at < length kept → take at kept ≡ take at pairs → take (at + 1) (set kept at (zone_at pairs at)) ≡ take (at + 1) pairs
kept_more pairs kept at l lk same =
    take-set_at kept at (at + 1) (zone_at pairs at) refl lk
    ∙ ap (λ t. t ++ zone_at pairs at ∷ []) same
    ∙ sym (take_more pairs at (0, 0) l)

rest_more : (kept : List (ℕ × ℕ)) (at : ℕ) (x : ℕ × ℕ) → at < 16 → drop at kept ≡ replicate (16 - at) (0, 0) → drop (at + 1) (set kept at x) ≡ replicate (16 - (at + 1)) (0, 0)
rest_more kept at x l rest =
    let fewer : 16 - at ≡ suc (16 - (at + 1)) = omega arith in
    drop-set-lt (at + 1) kept at x (omega arith)
    ∙ sym (drop-drop 1 at kept)
    ∙ ap (drop 1) (rest ∙ ap (λ n. replicate n (0, 0)) fewer)

pub loop-at-preserved : goal.loop-at-preserved
loop-at-preserved c =
    let pairs = c.args.pairs.now in
    let at = c.loop-at.at in
    let so_far = c.loop-at.invariant in
    let l : at < length pairs = c.loop-at-test.true in
    let few : length pairs ≤ 16 = omega arith in
    let sound = c.in_ok-above.ensures.sound in
    let x = zone_at pairs at in
    record {
      each = each_more pairs at l so_far.each sound.0;
      apart = apart_more pairs at c.loop-at.above l so_far.apart so_far.above sound.1;
      first = λ e. absurd (omega arith);
      above = λ _. sound.2 ∙ ap (λ n. zone_end (zone_at pairs n)) (let same : at ≡ at + 1 - 1 = omega arith in same);
      kept = kept_more pairs c.loop-at.kept at l (omega arith) so_far.kept;
      rest = rest_more c.loop-at.kept at x (omega arith) so_far.rest;
      whole = length-set c.loop-at.kept at x ∙ so_far.whole;
    }
