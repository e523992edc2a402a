use Rattle.std.proofs.Common.{arith, sym, refl, length, ◌∙◌}
use Rattle.std.proofs.lemmas.List.{length-set}
use Rattle.std.proofs.lemmas.List.Elements.{All-set, All-replicate}
use Rattle.std.proofs.lemmas.Result.{err_from_is_err_and}
use Rattle.plain_machine.specs.Fitting.{IsRange}
use Rattle.script.specs.Shapes.{ranges_in}
use Rattle.script.specs.Shapes.{texts}
use Rattle.script.proofs.NumbersLaws.{length-texts, with_front-nil}
use Rattle.script.proofs.RangesLaws.{all_ranges-many, all_ranges-err, all_ranges-read, rest_more, with_front-more, with_front-err, with_front-all}
use Rattle.script.proofs.ranges.ranges.Goals as goal

pub returns-then-words-gt-MAX_RANGES-clause-ranges : goal.returns-then-words-gt-MAX_RANGES-clause-ranges
returns-then-words-gt-MAX_RANGES-clause-ranges c = sym (all_ranges-many (texts c.args.words.now) (omega (arith, length-texts c.args.words.now)))

pub loop-i-init : goal.loop-i-init
loop-i-init c =
    let nought : IsRange (0, 0) = record { ordered = omega arith; below = omega arith } in
    record {
      so_far = with_front-nil (ranges_in (texts c.args.words.now));
      len = refl;
      rest = refl;
      fits = All-replicate IsRange 8 (0, 0) nought;
    }

pub returns-in_err-list-clause-ranges : goal.returns-in_err-list-clause-ranges
returns-in_err-list-clause-ranges c =
    let p = err_from_is_err_and c.from_residual.result c.from_residual.ensures.1 in
    let fault = with_front-err c.args.words.now c.loop-i.list c.loop-i.i c.in_err-list.field-0.0 _ (omega arith) (sym c.range.ensures.range ∙ c.in_err-list.was) in
    rw (p.1, p.2) (sym (all_ranges-err (texts c.args.words.now) c.in_err-list.field-0.0 (omega (arith, length-texts c.args.words.now)) (sym c.loop-i.invariant.so_far ∙ fault)))

pub loop-i-preserved : goal.loop-i-preserved
loop-i-preserved c = record {
  so_far = with_front-more c.args.words.now c.loop-i.list c.loop-i.i c.in_ok-list.field-0 _ (omega arith) (omega arith) (sym c.range.ensures.range ∙ c.in_ok-list.was) ∙ c.loop-i.invariant.so_far;
  len = rw length-set c.loop-i.invariant.len;
  rest = rest_more c.loop-i.list c.loop-i.i c.in_ok-list.field-0 c.loop-i.invariant.len (omega arith) c.loop-i.invariant.rest;
  fits = All-set IsRange c.loop-i.list c.loop-i.i c.in_ok-list.field-0 c.in_ok-list.ensures.fits c.loop-i.invariant.fits;
}

pub returns-clause-ranges : goal.returns-clause-ranges
returns-clause-ranges c =
    let words = texts c.args.words.now in
    let read = with_front-all words c.loop-i.list c.loop-i.i (omega (arith, length-texts c.args.words.now)) in
    sym (all_ranges-read words c.loop-i.list c.loop-i.i (length c.args.words.now) (omega arith) (sym (length-texts c.args.words.now)) (omega arith) c.loop-i.invariant.len c.loop-i.invariant.rest (sym c.loop-i.invariant.so_far ∙ read))

pub returns-clause-fits : goal.returns-clause-fits
returns-clause-fits c = record { few = omega arith; each = c.loop-i.invariant.fits }
