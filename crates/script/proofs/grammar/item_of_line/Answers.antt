use Rattle.std.proofs.Common.{◌≡◌, get_or, sym, ◌∙◌, rules}
use Rattle.script.proofs.NumbersLaws.{texts-split}
use Rattle.script.proofs.Shapes.{line_item-words, no_first_byte}
use Rattle.script.proofs.grammar.item_of_line.Goals.{then-line-lt1, else-line-lt1+in_default-1}
use Rattle.script.proofs.grammar.item_of_line.Goals as goal

pub returns-in-len1-up-clause-says : goal.returns-in-len1-up-clause-says
returns-in-len1-up-clause-says c =
    let comment : get_or c.args.line.now 0 0 ≡ 35 → ⊥ = λ e. elim c.if-line-lt1.branch [
      | then-line-lt1 w ↦ search (rules, no_first_byte)
      | else-line-lt1+in_default-1 w ↦ search rules
    ] in
    c.item_of_words.ensures.says ∙ line_item-words c.args.begun c.args.line.now _ _ c.requires.printable comment (sym (texts-split c.args.words.now _ c.in-len1-up.len_at_least) ∙ c.requires.words)
