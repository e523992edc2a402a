use Rattle.std.proofs.Common.{◌≡◌, ◌∙◌, ℕ, List, ◌∷◌, length, take, refl, sym, ap, subst, rules, arith}
use Rattle.std.proofs.lemmas.Bool.{both_ways, false≢true}
use Rattle.machine.proofs.AreaBadSlots.{AreBad, bad_by_place, place_is_named, take_within}
use Rattle.machine.proofs.tables.named_are_bad.Goals as goal

pub returns-then-not-is_bad_or_beyond : goal.returns-then-not-is_bad_or_beyond
returns-then-not-is_bad_or_beyond c =
    let h = c.args.hw.now in
    let m = c.args.frames.now in
    let area = c.args.area.now in
    let P : List ℕ → Type 0 = λ named. AreBad h m (0 ∷ named) in
    let whole : length area.bad ≡ 630 = search rules in
    let taken : take c.min-count.result area.bad ≡ take area.count area.bad = ap (λ (n : ℕ). take n area.bad) c.min-count.ensures ∙ take_within area.count area.bad whole in (
      λ e. absurd (false≢true e),
      λ bad. absurd (both_ways c.is_bad_or_beyond.result c.if-not-is_bad_or_beyond.true
          (c.is_bad_or_beyond.ensures.1 (λ lt. subst P (sym taken) bad _ lt (place_is_named (take c.min-count.result area.bad) c.loop-slot.slot-index c.loop-slot-test.true)))),
    )

pub returns : goal.returns
returns c =
    let h = c.args.hw.now in
    let m = c.args.frames.now in
    let area = c.args.area.now in
    let P : List ℕ → Type 0 = λ named. AreBad h m (0 ∷ named) in
    let whole : length area.bad ≡ 630 = search rules in
    let taken : take c.min-count.result area.bad ≡ take area.count area.bad = ap (λ (n : ℕ). take n area.bad) c.min-count.ensures ∙ take_within area.count area.bad whole in
    let over = c.loop-slot-test.false in (
      λ e. subst P taken (bad_by_place h m (take c.min-count.result area.bad) (c.is_bad_or_beyond-2.ensures.0 e) (λ k lt. c.loop-slot.invariant k (omega arith))),
      λ bad. c.is_bad_or_beyond-2.ensures.1 (λ lt. bad 0 lt refl),
    )
