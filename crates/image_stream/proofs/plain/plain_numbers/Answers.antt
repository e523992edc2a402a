use Rattle.std.proofs.Common.{◌≡◌, ℕ, map, sym, ap, ◌∙◌, arith}
use Rattle.std.specs.List.{range_with_len}
use Rattle.definitions.specs.NumberPages.{page_of_words}
use Rattle.definitions.proofs.PageWords.{page_of_words-nil}
use Rattle.image_stream.specs.Plain.{plain_numbers, plain_word}
use Rattle.image_stream.proofs.Words.{word_put}
use Rattle.image_stream.proofs.plain.plain_numbers.Goals as goal

pub loop-i-init : goal.loop-i-init
loop-i-init c = c.zero-plain.ensures ∙ sym page_of_words-nil

pub loop-i-preserved : goal.loop-i-preserved
loop-i-preserved c = c.set_word.ensures.set ∙ word_put c.args.count c.args.page.now c.loop-i.i c.loop-i.plain c.plain_word.result c.loop-i.invariant c.plain_word.ensures

pub returns : goal.returns
unfolding plain_numbers
returns c =
    let all : c.loop-i.i ≡ 512 = omega (arith, c.loop-i-test.false, c.loop-i.auto.i-end) in
    c.loop-i.invariant ∙ ap (λ (k : ℕ). page_of_words (map (plain_word c.args.count c.args.page.now) (range_with_len 0 k))) all
