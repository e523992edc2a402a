use Rattle.std.proofs.Common.{◌≡◌, ◌++◌, codes, List, ℕ, [], length, ap, sym, ◌∙◌}
use Rattle.std.proofs.lemmas.List.{nil_from_length}
use Rattle.image_check.specs.Lines.{finding_text, named}
use Rattle.image_check.proofs.text.put_finding.Goals as goal

-- a text added to an empty line
first : (line text new : List ℕ) → length line ≡ 0 → new ≡ line ++ text → new ≡ text
first line text new empty added = added ∙ ap (λ (x : List ℕ). x ++ text) (nil_from_length line empty)

-- another one after it
second : (line one two mid new : List ℕ) → length line ≡ 0 → mid ≡ line ++ one → new ≡ mid ++ two → new ≡ one ++ two
second line one two mid new empty added more = more ∙ ap (λ (x : List ℕ). x ++ two) (first line one mid empty added)

pub returns-in-LastPage-clause-text : goal.returns-in-LastPage-clause-text
returns-in-LastPage-clause-text c =
    let last = c.in-LastPage.last in
    let blocks = c.in-LastPage.blocks in
    let one : c.put_named-in-LastPage.new.line ≡ c.args.line.now ++ named (codes "header: last page ") last (codes ", but the file has ") =
    c.put_named-in-LastPage.ensures.added ∙ ap (λ (n : ℕ). c.args.line.now ++ named (codes "header: last page ") n (codes ", but the file has ")) c.from-in-LastPage.ensures in
    let two : c.put_named-in-LastPage-2.new.line ≡ c.put_named-in-LastPage.new.line ++ named [] blocks (codes " blocks") =
    c.put_named-in-LastPage-2.ensures.added ∙ ap (λ (n : ℕ). c.put_named-in-LastPage.new.line ++ named [] n (codes " blocks")) c.from-in-LastPage-2.ensures in
    second c.args.line.now (named (codes "header: last page ") last (codes ", but the file has ")) (named [] blocks (codes " blocks"))
    c.put_named-in-LastPage.new.line c.put_named-in-LastPage-2.new.line c.requires one two
    ∙ ap finding_text (sym c.in-LastPage.is)

pub returns-in-Compressed-clause-text : goal.returns-in-Compressed-clause-text
returns-in-Compressed-clause-text c =
    let text = λ (n : ℕ). named (codes "header: flags ") n (codes ", a compressed image, which can't be read yet") in
    let one : c.put_named-in-Compressed.new.line ≡ c.args.line.now ++ text c.in-Compressed.flags =
    c.put_named-in-Compressed.ensures.added ∙ ap (λ (n : ℕ). c.args.line.now ++ text n) c.from-in-Compressed.ensures in
    first c.args.line.now (text c.in-Compressed.flags) c.put_named-in-Compressed.new.line c.requires one
    ∙ ap finding_text (sym c.in-Compressed.is)

pub returns-in-Number-clause-text : goal.returns-in-Number-clause-text
returns-in-Number-clause-text c =
    let number = c.in-Number.number in
    let one : c.put_named-in-Number.new.line ≡ c.put_word.new.line ++ named [] number (codes " is no page frame") = c.put_named-in-Number.ensures.added in
    one
    ∙ ap (λ (line : List ℕ). line ++ named [] number (codes " is no page frame")) c.put_word.ensures.text
    ∙ ap finding_text (sym c.in-Number.is)
