use Rattle.std.proofs.Common.{◌≡◌, ℕ, ◌+◌, ◌<◌, length, get_or, drop, refl, sym, ap, ◌∙◌, arith}
use Rattle.std.proofs.lemmas.Option.{same_Some}
use Rattle.frame_sets.proofs.Yielded.{yields_next}
use Rattle.frame_sets.specs.Places.{count_below}
use Rattle.frame_sets.proofs.Below.{left_from, count_below-next, small}
use Rattle.frame_sets.proofs.packing.packing.behind_more.Goals as goal

pub loop-init : goal.loop-init
loop-init c = record {
  left =
      c.iter_from-members.ensures.members ∙ left_from c.args.set.now.members c.args.from c.requires.set.ascending
      ∙ ap (λ (j : ℕ). drop j c.args.set.now.members) (omega arith);
  past = omega arith;
}

pub unwrap-past-requires : goal.unwrap-past-requires
unwrap-past-requires c =
    let members = c.args.set.now.members in
    let lt = c.loop-test.true in
    let room = c.requires.members in
    let next = yields_next members (count_below members c.args.from + c.loop.counter) _ c.loop.members c.next.new.self c.next.ensures.steps c.loop.invariant.left (omega arith) in
    rw next.0 refl

pub overflow_add-past : goal.overflow_add-past
overflow_add-past c =
    let members = c.args.set.now.members in
    let at = count_below members c.args.from + c.loop.counter in
    let lt = c.loop-test.true in
    let room = c.requires.members in
    let next = yields_next members at _ c.loop.members c.next.new.self c.next.ensures.steps c.loop.invariant.left (omega arith) in
    let is = same_Some _ _ (sym c.unwrap-past.ensures ∙ next.0) in
    let low = small c.args.set.now at c.requires.set (omega arith) in
    record { fits = omega arith }

pub loop-preserved : goal.loop-preserved
loop-preserved c =
    let members = c.args.set.now.members in
    let at = count_below members c.args.from + c.loop.counter in
    let lt = c.loop-test.true in
    let room = c.requires.members in
    let past = c.loop.invariant.past in
    let within : count_below members c.loop.past < length members = omega arith in
    let next = yields_next members at _ c.loop.members c.next.new.self c.next.ensures.steps c.loop.invariant.left (omega arith) in
    let is : c.unwrap-past.result ≡ get_or members (count_below members c.loop.past) 0 =
    same_Some _ _ (sym c.unwrap-past.ensures ∙ next.0) ∙ ap (λ (j : ℕ). get_or members j 0) (sym past) in
    let more = count_below-next members c.loop.past c.requires.set.ascending within in
    let same = ap (λ (q : ℕ). count_below members (q + 1)) is in
    record {
      left = next.1 ∙ ap (λ (j : ℕ). drop j members) (omega arith);
      past = omega arith;
    }
