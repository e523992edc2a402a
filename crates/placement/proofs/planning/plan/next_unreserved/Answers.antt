use Rattle.std.proofs.Common.{ℕ, List, slice_get, sym, ap, ◌∙◌}
use Rattle.std.proofs.lemmas.Bool.{false≢true}
use Rattle.std.specs.List.{Contains}
use Rattle.frame_sets.specs.Left.{left_in}
use Rattle.placement.specs.Walk.{unreserved}
use Rattle.placement.proofs.Reserved.{first_unreserved, above_first, original_first, reserved_later}
use Rattle.placement.proofs.planning.plan.next_unreserved.Goals as goal

pub loop-p-init : goal.loop-p-init
loop-p-init c =
    let origs = c.args.origs.now.members in
    let left = ap left_in c.into_iter-p-iterator.ensures.into_iter_gives ∙ c.iter_from-p-items.ensures.members in
    ap (λ (ps : List ℕ). slice_get (unreserved origs ps c.args.bounce) 0) left ∙ sym (first_unreserved origs c.args.free.now.members c.args.bounce c.args.from)

pub returns-then-p-bounce : goal.returns-then-p-bounce
returns-then-p-bounce c =
    let origs = c.args.origs.now.members in
    sym (ap (λ (ps : List ℕ). slice_get (unreserved origs ps c.args.bounce) 0) c.in-Some.ensures.steps
    ∙ above_first origs (left_in c.next.new.self) c.args.bounce c.in-Some.p c.if-p-bounce.true)
    ∙ c.loop-p.invariant

pub returns-then-has : goal.returns-then-has
returns-then-has c =
    let origs = c.args.origs.now.members in
    sym (ap (λ (ps : List ℕ). slice_get (unreserved origs ps c.args.bounce) 0) c.in-Some.ensures.steps
    ∙ original_first origs (left_in c.next.new.self) c.args.bounce c.in-Some.p (c.has.ensures.0 c.if-has.true))
    ∙ c.loop-p.invariant

pub loop-p-preserved : goal.loop-p-preserved
loop-p-preserved c =
    let origs = c.args.origs.now.members in
    let out : Contains origs c.in-Some.p → ⊥ = λ in'. false≢true (sym c.if-has.false ∙ c.has.ensures.1 in') in
    let later = reserved_later origs (left_in c.next.new.self) c.args.bounce c.in-Some.p c.if-p-bounce.false out in
    sym (ap (λ (ps : List ℕ). slice_get (unreserved origs ps c.args.bounce) 0) c.in-Some.ensures.steps ∙ ap (λ (ps : List ℕ). slice_get ps 0) later)
    ∙ c.loop-p.invariant

pub returns : goal.returns
unfolding unreserved
returns c =
    let origs = c.args.origs.now.members in
    sym (ap (λ (ps : List ℕ). slice_get (unreserved origs ps c.args.bounce) 0) c.in-None.ensures.steps.0) ∙ c.loop-p.invariant
