use Rattle.std.proofs.Common.{◌≡◌, ◌≤◌, ◌∙◌, arith}
use Rattle.image_pages.specs.Ahead.{data_words}
use Rattle.image_pages.proofs.Data.{words_no, words_yes}
use Rattle.image_pages.proofs.saved.words.data_words.Goals as goal
use Rattle.image_pages.proofs.saved.words.data_words.Goals.{then-has_page, else-has_page}

pub loop-i-preserved : goal.loop-i-preserved
loop-i-preserved c =
    let i = c.loop-i.invariant in
    elim c.if-has_page.branch [
      | then-has_page w ↦ record {
        dense = w.found-is ∙ words_yes c.args.format c.args.page.now c.loop-i.i c.word.result c.loop-i.found c.has_page.result c.word.ensures c.has_page.ensures w.if-has_page.true i.dense;
        few = omega (arith, i.few, w.found-is);
      }
      | else-has_page w ↦ record {
        dense = w.found-is ∙ words_no c.args.format c.args.page.now c.loop-i.i c.word.result c.loop-i.found c.has_page.result c.word.ensures c.has_page.ensures w.if-has_page.false i.dense;
        few = omega (arith, i.few, w.found-is);
      }
    ]
