use Rattle.std.proofs.Common.{◌≡◌, [], ◌∷◌, ◌++◌, suc, inl, inr, length, sym, ◌∙◌, arith}
use Rattle.std.proofs.lemmas.List.{length-append}
use Rattle.snapshot.proofs.Progress.{ArePaired, none_copied, one_more_copied, all_copied, next_left, at_end}
use Rattle.snapshot.proofs.atomic_copy.copy_all.Goals as goal

pub loop-original-init : goal.loop-original-init
loop-original-init c = record {
  sources = rw c.into_iter-original-iterator.ensures.into_iter_gives (rw c.zip-original-items.ensures.first c.iter.ensures.members);
  targets = rw c.into_iter-original-iterator.ensures.into_iter_gives (rw c.zip-original-items.ensures.second c.iter-2.ensures.members);
  progress = none_copied c.args.origs.now.members c.args.copies.now.members c.args.frames.now;
}

pub copy-requires-clause-from_in_range : goal.copy-requires-clause-from_in_range
copy-requires-clause-from_in_range c =
    let at = next_left c.args.origs.now.members _ _ (length c.loop-original.yielded) c.in-Some.original c.loop-original.invariant.sources c.in-Some.ensures.steps.0 in
    let below = c.requires.origs_within (length c.loop-original.yielded) 0 at.0 in
    let is = at.1 in
    let size = c.loop-original.invariant.progress.size in
    omega arith

pub copy-requires-clause-to_in_range : goal.copy-requires-clause-to_in_range
copy-requires-clause-to_in_range c =
    let at = next_left c.args.copies.now.members _ _ (length c.loop-original.yielded) c.in-Some.copy c.loop-original.invariant.targets c.in-Some.ensures.steps.1 in
    let below = c.requires.copies_within (length c.loop-original.yielded) 0 at.0 in
    let is = at.1 in
    let size = c.loop-original.invariant.progress.size in
    omega arith

pub loop-original-preserved : goal.loop-original-preserved
loop-original-preserved c =
    let origs = c.args.origs.now.members in
    let copies = c.args.copies.now.members in
    let k = length c.loop-original.yielded in
    let source = next_left origs _ _ k c.in-Some.original c.loop-original.invariant.sources c.in-Some.ensures.steps.0 in
    let target = next_left copies _ _ k c.in-Some.copy c.loop-original.invariant.targets c.in-Some.ensures.steps.1 in
    let one_more : length (c.loop-original.yielded ++ (c.in-Some.original, c.in-Some.copy) ∷ []) ≡ suc k = length-append c.loop-original.yielded ((c.in-Some.original, c.in-Some.copy) ∷ []) ∙ (omega arith) in
    let paired : ArePaired origs copies c.args.frames.now = record {
      origs_up = c.iter.ensures.set.ascending;
      copies_up = c.iter-2.ensures.set.ascending;
      equal = c.requires.equal;
      disjoint = c.requires.disjoint;
      within = λ i i_lt. c.requires.copies_within i 0 i_lt;
    } in
    let progress = one_more_copied origs copies c.args.frames.now c.loop-original.frames k paired source.0 c.loop-original.invariant.progress in
    rw one_more (record {
      sources = source.2;
      targets = target.2;
      progress = rw (c.copy.ensures, sym source.1, sym target.1) progress;
    })

pub returns : goal.returns
returns c =
    let k = length c.loop-original.yielded in
    let origs = c.args.origs.now.members in
    let copies = c.args.copies.now.members in
    let invariant = c.loop-original.invariant in
    let few = invariant.progress.few in
    let equal = c.requires.equal in
    let all : k ≡ length copies = elim c.in-None.ensures.steps [
      | inl e ↦ let end = at_end origs _ k invariant.sources e.1.0 in omega arith
      | inr e ↦ let end = at_end copies _ k invariant.targets e.1.0 in omega arith
    ] in
    all_copied origs copies c.args.frames.now c.loop-original.frames k all invariant.progress
