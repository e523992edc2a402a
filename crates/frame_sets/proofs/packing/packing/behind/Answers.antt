use Rattle.std.proofs.Common.{◌≡◌, ℕ, ◌+◌, ◌*◌, subst, ◌/◌, ◌%◌, sym, ap, ◌∙◌, arith}
use Rattle.std.proofs.lemmas.Option.{same_Some}
use Rattle.frame_sets.specs.Places.{count_below, start}
use Rattle.definitions.proofs.ZoneBlocks.{few_blocks}
use Rattle.frame_sets.proofs.Below.{count_below-zero}
use Rattle.frame_sets.proofs.Walk.{IsPassed, none_passed, all_passed, passed_empty, passed_word, counted_word, lowest, first_of_word, small_of_word}
use Rattle.frame_sets.proofs.packing.packing.behind.Goals as goal
use Rattle.frame_sets.proofs.packing.packing.behind.Goals.{then-ones-gt0, else-ones-gt0}

pub overflow_mul-w-end : goal.overflow_mul-w-end
overflow_mul-w-end c =
    let few = few_blocks c.args.set.now.zones c.requires.set.zones in
    let n = c.blocks-w-end.ensures in
    record { fits = omega arith }

pub loop-w-init : goal.loop-w-init
loop-w-init c = let none = count_below-zero c.args.set.now.members in (none_passed c.args.set.now, omega arith)

pub returns : goal.returns
returns c =
    let end = c.loop-w-test.false in
    let n = c.blocks-w-end.ensures in
    let at = c.loop-w.invariant.1 in
    let few = c.requires.members in
    let all = all_passed c.args.set.now c.loop-w.w c.loop-w.from c.requires.set (omega arith) c.loop-w.invariant.0 in
    omega arith

pub unwrap-requires : goal.unwrap-requires
unwrap-requires c =
    let set = c.args.set.now in
    let at = c.word_of-word.ensures in
    let some = c.if-ones-gt0.true in
    let found = first_of_word set c.loop-w.w c.word_of-word.result c.loop-w.from c.requires.set at some c.loop-w.invariant.0 in
    rw (c.first_from.ensures, found)

pub overflow_add-from : goal.overflow_add-from
overflow_add-from c =
    let set = c.args.set.now in
    let at = c.word_of-word.ensures in
    let span = c.width.ensures in
    let size = span.1.within in
    let found = lowest set c.loop-w.w c.word_of-word.result c.loop-w.from span.0 c.width.result c.requires.set at span.1 c.loop-w.invariant.0 in
    let is = same_Some _ _ (sym c.unwrap.ensures ∙ c.first_from.ensures ∙ found) in
    let low = small_of_word set c.loop-w.w c.word_of-word.result span.0 c.width.result c.requires.set at span.1 in
    record { fits = omega arith }

pub loop-w-preserved : goal.loop-w-preserved
loop-w-preserved c =
    let set = c.args.set.now in
    let at = c.word_of-word.ensures in
    let left = c.if-left-ones.false in
    let count = c.loop-w.invariant.1 in
    elim c.if-ones-gt0.branch [
      | then-ones-gt0 w ↦
          let span = w.width.ensures in
          let size = span.1.within in
          let found = lowest set c.loop-w.w c.word_of-word.result c.loop-w.from span.0 w.width.result c.requires.set at span.1 c.loop-w.invariant.0 in
          let is = same_Some _ _ (sym w.unwrap.ensures ∙ w.first_from.ensures ∙ found) in
          let from_is : start set (c.loop-w.w / 512) + 64 * (c.loop-w.w % 512) + span.0 + w.width.result ≡ c.if-ones-gt0.from = let value = w.from-is in omega arith in
          let passed = passed_word set c.loop-w.w c.word_of-word.result c.loop-w.from span.0 w.width.result c.requires.set at span.1 c.loop-w.invariant.0 in
          let counted = counted_word set c.loop-w.w c.word_of-word.result c.loop-w.from span.0 w.width.result c.requires.set at span.1 c.loop-w.invariant.0 in
          let same = ap (count_below set.members) from_is in
          let value = w.left-is in
          (subst (λ (x : ℕ). IsPassed set (c.loop-w.w + 1) x) from_is passed, omega arith)
      | else-ones-gt0 w ↦
          let none = w.if-ones-gt0.false in
          let from_is = w.from-is in
          let left_is = w.left-is in
          let passed = passed_empty set c.loop-w.w c.word_of-word.result c.loop-w.from at (omega arith) c.loop-w.invariant.0 in
          let same = ap (count_below set.members) from_is in
          (subst (λ (x : ℕ). IsPassed set (c.loop-w.w + 1) x) (sym from_is) passed, omega arith)
    ]
