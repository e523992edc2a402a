use Rattle.std.proofs.Common.{arith, sym, ◌∙◌}
use Rattle.std.proofs.lemmas.Result.{err_from_is_err_and}
use Rattle.std.proofs.lemmas.List.{length-set}
use Rattle.script.specs.Shapes.{texts}
use Rattle.script.proofs.NumbersLaws.{length-texts, with_front-more, with_front-err, with_front-all, AllWithin-numbers_in, all_numbers-other, all_numbers-same}
use Rattle.script.proofs.words.numbers.Goals as goal

pub returns-then-words-clause-numbers : goal.returns-then-words-clause-numbers
returns-then-words-clause-numbers g c =
    sym (all_numbers-other c.args.spans (texts c.args.words.now) (λ e. c.if-words.true (omega (arith, e, length-texts c.args.words.now))))

pub returns-in_err-numbers-clause-numbers : goal.returns-in_err-numbers-clause-numbers
returns-in_err-numbers-clause-numbers g c =
    let p = err_from_is_err_and c.from_residual.result c.from_residual.ensures.1 in
    let fault = with_front-err c.args.spans c.args.words.now c.loop-i.numbers c.loop-i.i c.in_err-numbers.field-0.0 _ _ (omega arith) (omega arith) (sym c.number_in.ensures ∙ c.in_err-numbers.was) in
    let same = all_numbers-same c.args.spans (texts c.args.words.now) (omega (arith, length-texts c.args.words.now)) in
    rw (p.1, p.2) (sym (same ∙ sym c.loop-i.invariant.so_far ∙ fault))

pub loop-i-preserved : goal.loop-i-preserved
loop-i-preserved g c = record {
  so_far = with_front-more c.args.spans c.args.words.now c.loop-i.numbers c.loop-i.i c.in_ok-numbers.field-0 _ _ (omega arith) (omega arith) c.loop-i.invariant.len (sym c.number_in.ensures ∙ c.in_ok-numbers.was) ∙ c.loop-i.invariant.so_far;
  len = rw length-set c.loop-i.invariant.len;
}

pub returns-clause-numbers : goal.returns-clause-numbers
returns-clause-numbers g c =
    let same = all_numbers-same c.args.spans (texts c.args.words.now) (omega (arith, length-texts c.args.words.now)) in
    let read = with_front-all c.args.spans (texts c.args.words.now) c.loop-i.numbers c.loop-i.i (omega arith) (omega arith) in
    sym (same ∙ sym c.loop-i.invariant.so_far ∙ read)

pub returns-clause-within : goal.returns-clause-within
returns-clause-within g c =
    let read = with_front-all c.args.spans (texts c.args.words.now) c.loop-i.numbers c.loop-i.i (omega arith) (omega arith) in
    AllWithin-numbers_in c.args.spans (texts c.args.words.now) c.loop-i.numbers (omega (arith, length-texts c.args.words.now)) (sym c.loop-i.invariant.so_far ∙ read)
