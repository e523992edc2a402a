use Rattle.std.proofs.Common.{◌≡◌, ◌+◌, ℕ, List, [], ◌∷◌, ◌++◌, length, length-append, take, drop, get_or, sym, ap, ap₂, ◌∙◌, subst, vec_len, length-drop, arith}
use Rattle.std.specs.List.{zip}
use Rattle.std.proofs.lemmas.List.{get_or-drop}
use Rattle.std.proofs.lemmas.Option.{same_Some}
use Rattle.definitions.specs.Moves.{Move}
use Rattle.frame_sets.specs.Left.{left_in}
use Rattle.frame_sets.proofs.Yielded.{next_member}
use Rattle.placement.specs.Walk.{HasPassed, unreserved}
use Rattle.placement.proofs.Reserved.{up_unreserved, small_unreserved, zip-more}
use Rattle.placement.proofs.Walks.{ahead, found_some, one_more_passed}
use Rattle.placement.proofs.planning.plan.pair.Goals as goal

pub unwrap-frame-requires : goal.unwrap-frame-requires
unwrap-frame-requires c =
    let origs = c.args.origs.now.members in
    let rest = unreserved origs c.args.free.now.members c.args.bounce in
    let k = length c.loop-original.yielded in
    let up = up_unreserved origs c.args.free.now.members c.args.bounce c.requires.free.ascending in
    let next = next_member origs c.loop-original.yielded (left_in c.loop-original.original-iterator) (left_in c.next.new.self) c.in-Some.original c.requires.origs.ascending c.loop-original.invariant.targets c.in-Some.ensures.steps in
    let few = next.few in
    let each = c.requires.each in
    let at = ahead rest c.loop-original.from (c.args.skip + k) c.next_unreserved.result up c.loop-original.invariant.sources (omega arith) c.next_unreserved.ensures in
    found_some c.next_unreserved.result (get_or rest (c.args.skip + k) 0) at

pub overflow_add-from : goal.overflow_add-from
overflow_add-from c =
    let origs = c.args.origs.now.members in
    let rest = unreserved origs c.args.free.now.members c.args.bounce in
    let k = length c.loop-original.yielded in
    let up = up_unreserved origs c.args.free.now.members c.args.bounce c.requires.free.ascending in
    let next = next_member origs c.loop-original.yielded (left_in c.loop-original.original-iterator) (left_in c.next.new.self) c.in-Some.original c.requires.origs.ascending c.loop-original.invariant.targets c.in-Some.ensures.steps in
    let few = next.few in
    let each = c.requires.each in
    let at = ahead rest c.loop-original.from (c.args.skip + k) c.next_unreserved.result up c.loop-original.invariant.sources (omega arith) c.next_unreserved.ensures in
    let frame_is = same_Some c.unwrap-frame.result (get_or rest (c.args.skip + k) 0) (sym c.unwrap-frame.ensures ∙ at) in
    let low = small_unreserved origs c.args.free.now c.args.bounce (c.args.skip + k) c.requires.free (omega arith) in
    record { fits = omega arith }

pub loop-original-preserved : goal.loop-original-preserved
loop-original-preserved c =
    let origs = c.args.origs.now.members in
    let rest = unreserved origs c.args.free.now.members c.args.bounce in
    let yielded = c.loop-original.yielded in
    let k = length yielded in
    let up = up_unreserved origs c.args.free.now.members c.args.bounce c.requires.free.ascending in
    let next = next_member origs yielded (left_in c.loop-original.original-iterator) (left_in c.next.new.self) c.in-Some.original c.requires.origs.ascending c.loop-original.invariant.targets c.in-Some.ensures.steps in
    let few = next.few in
    let each = c.requires.each in
    let at = ahead rest c.loop-original.from (c.args.skip + k) c.next_unreserved.result up c.loop-original.invariant.sources (omega arith) c.next_unreserved.ensures in
    let frame_is = same_Some c.unwrap-frame.result (get_or rest (c.args.skip + k) 0) (sym c.unwrap-frame.ensures ∙ at) in
    let waiting = drop c.args.skip rest in
    let waiting_len = length-drop c.args.skip rest in
    let move : Move = (c.unwrap-frame.result, c.in-Some.original) in
    let items : c.push.new.self.items ≡ c.loop-original.moves.items ++ move ∷ [] = rw c.unwrap.ensures at c.push.ensures.items in
    let len : vec_len c.push.new.self ≡ vec_len c.loop-original.moves + 1 = rw c.unwrap.ensures at c.push.ensures.len in
    let len_was = c.loop-original.invariant.len in
    let room_was = c.loop-original.invariant.room in
    let room = c.push.ensures.capacity in
    let one_more : length (yielded ++ c.in-Some.original ∷ []) ≡ k + 1 = length-append yielded (c.in-Some.original ∷ []) in
    let passed : HasPassed rest (get_or rest (c.args.skip + k) 0 + 1) (c.args.skip + k + 1) = one_more_passed rest c.loop-original.from (c.args.skip + k) up c.loop-original.invariant.sources (omega arith) in
    let place : c.args.skip + k + 1 ≡ c.args.skip + length (yielded ++ c.in-Some.original ∷ []) = omega arith in
    let move_is : move ≡ (get_or waiting k 0, get_or origs k 0) = ap₂ (λ (p q : ℕ). let m : Move = (p, q) in m) (frame_is ∙ sym (get_or-drop c.args.skip rest k 0)) (sym next.at) in
    record {
      sources = subst (λ (p : ℕ). HasPassed rest (p + 1) (c.args.skip + length (yielded ++ c.in-Some.original ∷ []))) (sym frame_is) (subst (λ (j : ℕ). HasPassed rest (get_or rest (c.args.skip + k) 0 + 1) j) place passed);
      targets = next.goes_on;
      moves =
          items ∙ ap₂ (λ (front : List Move) (m : Move). front ++ m ∷ []) c.loop-original.invariant.moves move_is
          ∙ sym (ap (λ (j : ℕ). zip (take j waiting) (take j origs)) one_more ∙ zip-more waiting origs k (omega arith) few);
      len = omega arith;
      room = omega arith;
    }
