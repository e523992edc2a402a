use Rattle.std.proofs.Common.{suc, ℕ, ◌≡◌, ◌<◌, Option, length, refl, sym, subst, ap, ◌∙◌, arith, Contains}
use Rattle.definitions.specs.Zones.{numbers}
use Rattle.definitions.proofs.ZoneNumbers.{below_top, top_at_most}
use Rattle.std.specs.Iterator.{YieldsFirst}
use Rattle.frame_sets.specs.Left.{left_in}
use Rattle.frame_sets.proofs.Left.{none_left, first_left, found_in}
use Rattle.frame_sets.proofs.bitmap.iter.IterIterator.next.Goals as goal

pub returns-in_err-p-clause-steps : goal.returns-in_err-p-clause-steps
returns-in_err-p-clause-steps c =
    let s = c.args.self.now in
    let none = none_left s.from s.set.now.members (sym c.first_from.ensures ∙ c.in_err-p.was) in
    subst (λ (o : Option ℕ). YieldsFirst left_in s o s) (sym c.from_residual.ensures) (none, none)

pub returns-clause-steps : goal.returns-clause-steps
returns-clause-steps c = first_left c.args.self.now.from c.in_ok-p.p c.args.self.now.set.now.members c.is_frame_set.ensures.set.ascending (sym c.first_from.ensures ∙ c.in_ok-p.was)

pub returns-clause-goes : goal.returns-clause-goes
returns-clause-goes c =
    let left = first_left c.args.self.now.from c.in_ok-p.p c.args.self.now.set.now.members c.is_frame_set.ensures.set.ascending (sym c.first_from.ensures ∙ c.in_ok-p.was) in
    record {
      on = λ finite. (tt, tt, one_less (sym (ap length left)));
      keeps = tt;
      rests = λ finite. tt;
    } where
      one_less : {a b : ℕ} → suc b ≡ a → b < a
      one_less e = omega arith

pub overflow_add-self : goal.overflow_add-self
overflow_add-self c =
    let set = c.is_frame_set.ensures.set in
    let place = found_in c.args.self.now.from c.in_ok-p.p c.args.self.now.set.now.members (sym c.first_from.ensures ∙ c.in_ok-p.was) in
    let valid = subst (Contains (numbers c.args.self.now.set.now.zones)) place.2 (set.valid place.0 c.in_ok-p.p place.1) in
    let below = below_top c.args.self.now.set.now.zones c.in_ok-p.p set.zones.apart valid in
    let most = top_at_most c.args.self.now.set.now.zones set.zones in
    omega arith
