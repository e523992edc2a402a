use Rattle.std.proofs.Common.{◌≡◌, ℕ, List, slice_get, leb, sym, ap, ◌∙◌}
use Rattle.std.proofs.lemmas.Bool.{both_ways}
use Rattle.std.proofs.lemmas.List.Kept.{IsStrictlyIncreasing-filter}
use Rattle.definitions.proofs.FrameSets.{Contains-from_filter}
use Rattle.frame_sets.specs.Left.{left_in, members_from}
use Rattle.frame_sets.proofs.Bounds.{member_below}
use Rattle.frame_sets.proofs.Yielded.{next_member}
use Rattle.image_read.specs.Taking.{with_data}
use Rattle.image_read.proofs.NextFrame.{first_with_data, data_first, data_later}
use Rattle.image_read.proofs.reader.next_with_data.Goals as goal

pub loop-p-init : goal.loop-p-init
loop-p-init c =
    let left : left_in c.into_iter-p-iterator.result ≡ members_from c.args.from c.args.origs.now.members = ap left_in c.into_iter-p-iterator.ensures.into_iter_gives ∙ c.iter_from-p-items.ensures.members in
    record {
      left = left;
      first =
          ap (λ (ps : List ℕ). slice_get (with_data ps c.args.zeros.now.members) 0) left
          ∙ sym (first_with_data c.args.origs.now.members c.args.zeros.now.members c.args.from);
    }

pub returns-then-not-has-clause-frame : goal.returns-then-not-has-clause-frame
returns-then-not-has-clause-frame c =
    let zeros = c.args.zeros.now.members in
    sym (ap (λ (ps : List ℕ). slice_get (with_data ps zeros) 0) c.in-Some.ensures.steps
    ∙ data_first zeros (left_in c.next.new.self) c.in-Some.p (λ in'. both_ways c.has.result c.if-not-has.true (c.has.ensures.1 in')))
    ∙ c.loop-p.invariant.first

pub returns-then-not-has-clause-few : goal.returns-then-not-has-clause-few
returns-then-not-has-clause-few c =
    let origs = c.args.origs.now in
    let set = c.iter_from-p-items.ensures.set in
    let up = IsStrictlyIncreasing-filter (leb c.args.from) origs.members set.ascending in
    let next = next_member (members_from c.args.from origs.members) _ _ (left_in c.next.new.self) c.in-Some.p up c.loop-p.invariant.left c.in-Some.ensures.steps in
    member_below origs c.in-Some.p set (Contains-from_filter (leb c.args.from) origs.members c.in-Some.p next.within).0

pub loop-p-preserved : goal.loop-p-preserved
loop-p-preserved c =
    let origs = c.args.origs.now in
    let zeros = c.args.zeros.now.members in
    let left = left_in c.next.new.self in
    let up = IsStrictlyIncreasing-filter (leb c.args.from) origs.members c.iter_from-p-items.ensures.set.ascending in
    let next = next_member (members_from c.args.from origs.members) _ _ left c.in-Some.p up c.loop-p.invariant.left c.in-Some.ensures.steps in
    record {
      left = next.goes_on;
      first =
          sym (ap (λ (ps : List ℕ). slice_get (with_data ps zeros) 0) c.in-Some.ensures.steps
          ∙ ap (λ (ps : List ℕ). slice_get ps 0) (data_later zeros left c.in-Some.p (c.has.ensures.0 c.if-not-has.false)))
          ∙ c.loop-p.invariant.first;
    }

pub returns-clause-frame : goal.returns-clause-frame
unfolding with_data
returns-clause-frame c =
    let zeros = c.args.zeros.now.members in
    sym (ap (λ (ps : List ℕ). slice_get (with_data ps zeros) 0) c.in-None.ensures.steps.0) ∙ c.loop-p.invariant.first
