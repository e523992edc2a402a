use Rattle.std.proofs.Common.{◌≡◌, ℕ, map, sym, ap, ◌∙◌, arith}
use Rattle.std.specs.List.{range_with_len}
use Rattle.definitions.specs.NumberPages.{page_of_words}
use Rattle.definitions.proofs.PageWords.{page_of_words-nil}
use Rattle.expanded_disk.specs.Laid.{laid_map, map_word}
use Rattle.expanded_disk.proofs.MapWords.{word_put}
use Rattle.expanded_disk.proofs.laying.laid_map.Goals as goal

pub loop-word-init : goal.loop-word-init
loop-word-init c = c.zero-page.ensures ∙ sym page_of_words-nil

pub loop-word-preserved : goal.loop-word-preserved
loop-word-preserved c = c.set_word.ensures.set ∙ word_put c.args.pages c.args.map c.loop-word.word c.loop-word.page c.map_word.result c.loop-word.invariant c.map_word.ensures

pub returns : goal.returns
unfolding laid_map
returns c =
    let all : c.loop-word.word ≡ 512 = omega (arith, c.loop-word-test.false, c.loop-word.auto.word-end) in
    c.loop-word.invariant ∙ ap (λ (k : ℕ). page_of_words (map (map_word c.args.pages c.args.map) (range_with_len 0 k))) all
