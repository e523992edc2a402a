use Rattle.std.proofs.Common.{◌≡◌, ◌≤◌, [], ◌∷◌, false, length, take, filter, arith, sym, ap, ◌∙◌, append-nil}
use Rattle.std.proofs.lemmas.Bool.Decides.{nat_tests}
use Rattle.std.proofs.lemmas.List.{take_all, take-append-le}
use Rattle.script.specs.Shapes.{is_word, texts}
use Rattle.script.proofs.NumbersLaws.{length-texts}
use Rattle.script.proofs.lines.push_word.Goals.{else-not-is_full-via-then-not-is_full+else-not-is_empty, else-not-is_full-via-else-not-is_full}
use Rattle.script.proofs.lines.push_word.Goals as goal

pub returns-else-not-is_full : goal.returns-else-not-is_full
returns-else-not-is_full c =
    let before = texts c.args.words.now.items in
    let size = length-texts c.args.words.now.items in
    let fits : length c.args.words.now.items ≤ 10 = grind (arith, c.is_full.ensures.fits) in
    elim c.else-not-is_full.branch [
      | else-not-is_full-via-then-not-is_full+else-not-is_empty w ↦
          let none : is_word c.args.word.now ≡ false = grind (arith, nat_tests, w.is_empty.ensures, w.if-not-is_empty.false) in
          rw none (sym (ap (take 10) (append-nil before) ∙ take_all 10 before (omega arith)))
      | else-not-is_full-via-else-not-is_full w ↦
          let full : 10 ≤ length c.args.words.now.items = grind (arith, nat_tests, c.is_full.ensures.value, c.is_full.ensures.fits, w.if-not-is_full.false) in
          sym (take-append-le 10 before (filter is_word (c.args.word.now ∷ [])) (omega arith) ∙ take_all 10 before (omega arith))
    ]
