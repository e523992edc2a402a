use Rattle.std.proofs.Common.{◌+◌, ℕ, get_or, sym, ◌∙◌, subst, arith}
use Rattle.std.proofs.lemmas.Option.{same_Some}
use Rattle.placement.specs.Walk.{HasPassed, unreserved}
use Rattle.placement.proofs.Reserved.{up_unreserved, small_unreserved}
use Rattle.placement.proofs.Walks.{ahead, found_some, one_more_passed}
use Rattle.placement.proofs.planning.plan.pass.Goals as goal

pub unwrap-frame-requires : goal.unwrap-frame-requires
unwrap-frame-requires c =
    let rest = unreserved c.args.origs.now.members c.args.free.now.members c.args.bounce in
    let k = c.loop.counter in
    let up = up_unreserved c.args.origs.now.members c.args.free.now.members c.args.bounce c.requires.free.ascending in
    let test = c.loop-test.true in
    let enough = c.requires.enough in
    found_some c.next_unreserved.result (get_or rest k 0) (ahead rest c.loop.from k c.next_unreserved.result up c.loop.invariant (omega arith) c.next_unreserved.ensures)

pub overflow_add-from : goal.overflow_add-from
overflow_add-from c =
    let rest = unreserved c.args.origs.now.members c.args.free.now.members c.args.bounce in
    let k = c.loop.counter in
    let up = up_unreserved c.args.origs.now.members c.args.free.now.members c.args.bounce c.requires.free.ascending in
    let test = c.loop-test.true in
    let enough = c.requires.enough in
    let at = ahead rest c.loop.from k c.next_unreserved.result up c.loop.invariant (omega arith) c.next_unreserved.ensures in
    let is = same_Some c.unwrap-frame.result (get_or rest k 0) (sym c.unwrap-frame.ensures ∙ at) in
    let low = small_unreserved c.args.origs.now.members c.args.free.now c.args.bounce k c.requires.free (omega arith) in
    record { fits = omega arith }

pub loop-preserved : goal.loop-preserved
loop-preserved c =
    let rest = unreserved c.args.origs.now.members c.args.free.now.members c.args.bounce in
    let k = c.loop.counter in
    let up = up_unreserved c.args.origs.now.members c.args.free.now.members c.args.bounce c.requires.free.ascending in
    let test = c.loop-test.true in
    let enough = c.requires.enough in
    let at = ahead rest c.loop.from k c.next_unreserved.result up c.loop.invariant (omega arith) c.next_unreserved.ensures in
    let is = same_Some c.unwrap-frame.result (get_or rest k 0) (sym c.unwrap-frame.ensures ∙ at) in
    subst (λ (p : ℕ). HasPassed rest (p + 1) (k + 1)) (sym is) (one_more_passed rest c.loop.from k up c.loop.invariant (omega arith))
