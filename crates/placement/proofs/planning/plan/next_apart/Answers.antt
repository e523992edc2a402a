use Rattle.std.proofs.Common.{ℕ, List, slice_get, sym, ap, ◌∙◌}
use Rattle.std.proofs.lemmas.Bool.{false≢true}
use Rattle.std.specs.List.{Contains}
use Rattle.frame_sets.specs.Left.{left_in}
use Rattle.placement.specs.Plan.{without}
use Rattle.placement.proofs.Reserved.{first_without, apart_first, among_later}
use Rattle.placement.proofs.planning.plan.next_apart.Goals as goal

pub loop-p-init : goal.loop-p-init
loop-p-init c =
    let origs = c.args.origs.now.members in
    let left = ap left_in c.into_iter-p-iterator.ensures.into_iter_gives ∙ c.iter_from-p-items.ensures.members in
    ap (λ (ps : List ℕ). slice_get (without ps origs) 0) left ∙ sym (first_without c.args.free.now.members origs c.args.from)

pub returns-then-not-has : goal.returns-then-not-has
returns-then-not-has c =
    let origs = c.args.origs.now.members in
    let out : Contains origs c.in-Some.p → ⊥ = λ in'. false≢true (sym c.if-not-has.true ∙ c.has.ensures.1 in') in
    sym (ap (λ (ps : List ℕ). slice_get (without ps origs) 0) c.in-Some.ensures.steps ∙ apart_first origs (left_in c.next.new.self) c.in-Some.p out)
    ∙ c.loop-p.invariant

pub loop-p-preserved : goal.loop-p-preserved
loop-p-preserved c =
    let origs = c.args.origs.now.members in
    let later = among_later origs (left_in c.next.new.self) c.in-Some.p (c.has.ensures.0 c.if-not-has.false) in
    sym (ap (λ (ps : List ℕ). slice_get (without ps origs) 0) c.in-Some.ensures.steps ∙ ap (λ (ps : List ℕ). slice_get ps 0) later)
    ∙ c.loop-p.invariant

pub returns : goal.returns
unfolding without
returns c =
    let origs = c.args.origs.now.members in
    sym (ap (λ (ps : List ℕ). slice_get (without ps origs) 0) c.in-None.ensures.steps.0) ∙ c.loop-p.invariant
