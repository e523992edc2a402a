use Rattle.std.proofs.Common.{◌≡◌, ◌+◌, ◌<◌, get_or, length, true, arith, sym, ◌∙◌}
use Rattle.std.specs.Char.{is_ascii_digit}
use Rattle.std.proofs.lemmas.Bool.Decides.{nat_tests}
use Rattle.script.proofs.DigitLaws.{number_of-none, number_of-other, digit_read, number_of-large, number_of-all}
use Rattle.script.proofs.words.number_of.Goals as goal

pub returns-then-is_empty : goal.returns-then-is_empty
returns-then-is_empty c = sym (number_of-none c.args.word.now (grind (arith, nat_tests, c.is_empty.ensures, c.if-is_empty.true)))

pub returns-then-not-is_ascii_digit : goal.returns-then-not-is_ascii_digit
returns-then-not-is_ascii_digit c =
    sym (number_of-other c.args.word.now c.loop-b.b-index c.loop-b-test.true (sym c.is_ascii_digit.ensures.value ∙ c.if-not-is_ascii_digit.true))

pub returns-in_err-checked_mul : goal.returns-in_err-checked_mul
returns-in_err-checked_mul c =
    let i = c.loop-b.b-index in
    let is : is_ascii_digit (get_or c.args.word.now i 0) ≡ true = sym c.is_ascii_digit.ensures.value ∙ c.if-not-is_ascii_digit.false in
    let read = digit_read c.args.word.now i c.loop-b.number c.loop-b-test.true c.loop-b.invariant.0 c.loop-b.invariant.1 is in
    c.from_residual.ensures ∙ sym (number_of-large c.args.word.now (i + 1) (omega (arith, read.1, c.in_err-checked_mul.ensures)))

pub returns-in_err-number : goal.returns-in_err-number
returns-in_err-number c =
    let i = c.loop-b.b-index in
    let is : is_ascii_digit (get_or c.args.word.now i 0) ≡ true = sym c.is_ascii_digit.ensures.value ∙ c.if-not-is_ascii_digit.false in
    let read = digit_read c.args.word.now i c.loop-b.number c.loop-b-test.true c.loop-b.invariant.0 c.loop-b.invariant.1 is in
    c.from_residual-in_err-number.ensures ∙ sym (number_of-large c.args.word.now (i + 1) (omega (arith, read.1, c.from-digit.ensures, c.in_ok-checked_mul.ensures.1, c.in_err-number.ensures)))

pub loop-b-preserved : goal.loop-b-preserved
loop-b-preserved c =
    let i = c.loop-b.b-index in
    let is : is_ascii_digit (get_or c.args.word.now i 0) ≡ true = sym c.is_ascii_digit.ensures.value ∙ c.if-not-is_ascii_digit.false in
    let read = digit_read c.args.word.now i c.loop-b.number c.loop-b-test.true c.loop-b.invariant.0 c.loop-b.invariant.1 is in
    (read.0, omega (arith, read.1, c.from-digit.ensures, c.in_ok-checked_mul.ensures.1, c.in_ok-number.ensures.1), omega (arith, c.in_ok-number.ensures.0, c.in_ok-number.ensures.1))

pub returns : goal.returns
returns c =
    let some : 0 < length c.args.word.now = grind (arith, nat_tests, c.is_empty.ensures, c.if-is_empty.false) in
    sym (number_of-all c.args.word.now c.loop-b.b-index c.loop-b.number some (omega (arith, c.loop-b-test.false)) c.loop-b.invariant.0 c.loop-b.invariant.1 c.loop-b.invariant.2)
