use Rattle.std.proofs.Common.{◌≡◌, Some, vec_len, ◌+◌, ℕ, List, [], ◌∷◌, ◌++◌, get_or, sym, ap, ap₂, ◌∙◌, subst, arith}
use Rattle.std.proofs.lemmas.List.{take_more}
use Rattle.std.proofs.lemmas.Option.{same_Some, slice_get-get_or}
use Rattle.placement.specs.Plan.{without}
use Rattle.placement.specs.Walk.{HasPassed}
use Rattle.placement.proofs.Reserved.{up_without, small_without}
use Rattle.placement.proofs.Walks.{ahead, found_some, one_more_passed}
use Rattle.placement.proofs.planning.plan.reserve.Goals as goal

pub unwrap-frame-requires : goal.unwrap-frame-requires
unwrap-frame-requires c =
    let apart = without c.args.free.now.members c.args.origs.now.members in
    let k = c.loop.counter in
    let up = up_without c.args.free.now.members c.args.origs.now.members c.requires.set.ascending in
    let test = c.loop-test.true in
    let enough = c.requires.enough in
    found_some c.next_apart.result (get_or apart k 0) (ahead apart c.loop.from k c.next_apart.result up c.loop.invariant.passed (omega arith) c.next_apart.ensures)

pub overflow_add-from : goal.overflow_add-from
overflow_add-from c =
    let apart = without c.args.free.now.members c.args.origs.now.members in
    let k = c.loop.counter in
    let up = up_without c.args.free.now.members c.args.origs.now.members c.requires.set.ascending in
    let test = c.loop-test.true in
    let enough = c.requires.enough in
    let at = ahead apart c.loop.from k c.next_apart.result up c.loop.invariant.passed (omega arith) c.next_apart.ensures in
    let is = same_Some c.unwrap-frame.result (get_or apart k 0) (sym c.unwrap-frame.ensures ∙ at) in
    let low = small_without c.args.free.now c.args.origs.now.members k c.requires.set (omega arith) in
    record { fits = omega arith }

pub loop-preserved : goal.loop-preserved
loop-preserved c =
    let apart = without c.args.free.now.members c.args.origs.now.members in
    let k = c.loop.counter in
    let up = up_without c.args.free.now.members c.args.origs.now.members c.requires.set.ascending in
    let test = c.loop-test.true in
    let enough = c.requires.enough in
    let at = ahead apart c.loop.from k c.next_apart.result up c.loop.invariant.passed (omega arith) c.next_apart.ensures in
    let is = same_Some c.unwrap-frame.result (get_or apart k 0) (sym c.unwrap-frame.ensures ∙ at) in
    let items : c.push.new.self.items ≡ c.loop.list.items ++ c.unwrap-frame.result ∷ [] = rw c.unwrap.ensures at c.push.ensures.items in
    let len : vec_len c.push.new.self ≡ vec_len c.loop.list + 1 = rw c.unwrap.ensures at c.push.ensures.len in
    let len_was = c.loop.invariant.len in
    let room_was = c.loop.invariant.room in
    let room = c.push.ensures.capacity in
    record {
      passed = subst (λ (p : ℕ). HasPassed apart (p + 1) (k + 1)) (sym is) (one_more_passed apart c.loop.from k up c.loop.invariant.passed (omega arith));
      list = items ∙ ap₂ (λ (front : List ℕ) (p : ℕ). front ++ p ∷ []) c.loop.invariant.list is ∙ sym (take_more apart k 0 (omega arith));
      len = omega arith;
      room = omega arith;
    }

pub unwrap-requires-2 : goal.unwrap-requires-2
unwrap-requires-2 c =
    let apart = without c.args.free.now.members c.args.origs.now.members in
    let k = c.loop.counter in
    let up = up_without c.args.free.now.members c.args.origs.now.members c.requires.set.ascending in
    let most = c.loop.auto.counter-end in
    let enough = c.requires.enough in
    found_some c.next_apart-2.result (get_or apart k 0) (ahead apart c.loop.from k c.next_apart-2.result up c.loop.invariant.passed (omega arith) c.next_apart-2.ensures)

pub returns-clause-bounce : goal.returns-clause-bounce
returns-clause-bounce c =
    let apart = without c.args.free.now.members c.args.origs.now.members in
    let k = c.loop.counter in
    let up = up_without c.args.free.now.members c.args.origs.now.members c.requires.set.ascending in
    let most = c.loop.auto.counter-end in
    let ended = c.loop-test.false in
    let enough = c.requires.enough in
    let at = ahead apart c.loop.from k c.next_apart-2.result up c.loop.invariant.passed (omega arith) c.next_apart-2.ensures in
    let all : k ≡ c.args.count = omega arith in
    slice_get-get_or apart c.args.count 0 enough ∙ ap (λ (j : ℕ). Some (get_or apart j 0)) (sym all) ∙ sym at ∙ c.unwrap-2.ensures
