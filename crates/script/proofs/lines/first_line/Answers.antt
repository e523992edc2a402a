use Rattle.std.proofs.Common.{rules, ◌+◌, ◌-◌, ℕ, length, take, drop, refl, sym, ap, ◌∙◌, subst, arith}
use Rattle.std.specs.List.{list_all}
use Rattle.std.proofs.lemmas.List.{take_all, length-drop}
use Rattle.script.specs.Grammar.{is_printable, lines_of}
use Rattle.script.specs.Shapes.{texts, words_of}
use Rattle.script.proofs.LineLaws.{Walks, begins, goes_on, ends_word, words_so_far, lines_of-end, lines_of-last, first_is, unprintable, printable}
use Rattle.script.proofs.lines.first_line.Goals.{then-not-is_ascii_graphic+in-32, else-not-is_ascii_graphic}
use Rattle.script.proofs.lines.first_line.Goals as goal

pub loop-i-init : goal.loop-i-init
loop-i-init c = rw c.requires (begins c.args.text.now)

pub returns-in-10-clause-line : goal.returns-in-10-clause-line
returns-in-10-clause-line c = sym (first_is c.args.text.now _ _ (lines_of-end c.args.text.now c.loop-i.from c.loop-i.i _ c.loop-i.invariant c.loop-i-test.true c.in-10.is))

pub returns-in-10-clause-printable : goal.returns-in-10-clause-printable
returns-in-10-clause-printable c =
    let line = first_is c.args.text.now _ _ (lines_of-end c.args.text.now c.loop-i.from c.loop-i.i _ c.loop-i.invariant c.loop-i-test.true c.in-10.is) in
    ap (list_all is_printable) line ∙ printable c.args.text.now c.loop-i.from c.loop-i.i _ c.loop-i.invariant

pub returns-in-10-clause-words : goal.returns-in-10-clause-words
returns-in-10-clause-words c =
    let line = first_is c.args.text.now _ _ (lines_of-end c.args.text.now c.loop-i.from c.loop-i.i _ c.loop-i.invariant c.loop-i-test.true c.in-10.is) in
    c.push_word.ensures ∙ words_so_far c.args.text.now c.loop-i.from c.loop-i.i _ c.loop-i.invariant ∙ ap (λ front. take 10 (words_of front)) (sym line)

pub returns-in-10-clause-behind : goal.returns-in-10-clause-behind
returns-in-10-clause-behind c =
    let lines = lines_of-end c.args.text.now c.loop-i.from c.loop-i.i _ c.loop-i.invariant c.loop-i-test.true c.in-10.is in
    let behind = drop (c.loop-i.i + 1) c.args.text.now in
    ap lines_of (take_all (length c.args.text.now - (c.loop-i.i + 1)) behind (omega (arith, length-drop (c.loop-i.i + 1) c.args.text.now))) ∙ sym (ap (drop 1) lines)

pub returns-in_default-clause-byte : goal.returns-in_default-clause-byte
returns-in_default-clause-byte c =
    let other = sym c.is_ascii_graphic.ensures.value ∙ c.if-not-is_ascii_graphic.true in
    (refl, unprintable c.args.text.now c.loop-i.from c.loop-i.i _ c.loop-i.invariant c.loop-i-test.true other (λ e. search rules) (λ e. search rules))

pub loop-i-preserved : goal.loop-i-preserved
loop-i-preserved c = elim c.if-not-is_ascii_graphic.branch [
  | then-not-is_ascii_graphic+in-32 w ↦
      rw (w.words-is, w.from-is, w.push_word.ensures) (ends_word c.args.text.now c.loop-i.from c.loop-i.i _ c.loop-i.invariant c.loop-i-test.true w.in-32.is)
  | else-not-is_ascii_graphic w ↦
      let graphic = sym c.is_ascii_graphic.ensures.value ∙ w.if-not-is_ascii_graphic.false in
      rw (w.words-is, w.from-is) (goes_on c.args.text.now c.loop-i.from c.loop-i.i _ c.loop-i.invariant c.loop-i-test.true graphic)
]

pub returns-clause-line : goal.returns-clause-line
returns-clause-line c = sym (first_is c.args.text.now _ _ (lines_of-last c.args.text.now c.loop-i.from c.loop-i.i _ c.loop-i.invariant (omega arith)))

pub returns-clause-printable : goal.returns-clause-printable
returns-clause-printable c =
    let line = first_is c.args.text.now c.args.text.now _ (lines_of-last c.args.text.now c.loop-i.from c.loop-i.i _ c.loop-i.invariant (omega arith)) in
    let whole = take_all c.loop-i.i c.args.text.now (omega arith) in
    ap (list_all is_printable) (line ∙ sym whole) ∙ printable c.args.text.now c.loop-i.from c.loop-i.i _ c.loop-i.invariant

pub returns-clause-words : goal.returns-clause-words
returns-clause-words c =
    let n = length c.args.text.now in
    let read = subst (λ (i : ℕ). Walks c.args.text.now c.loop-i.from i (texts c.loop-i.words.items)) (omega arith) c.loop-i.invariant in
    let line = first_is c.args.text.now c.args.text.now _ (lines_of-last c.args.text.now c.loop-i.from n _ read (omega arith)) in
    let whole = take_all n c.args.text.now (omega arith) in
    c.push_word-2.ensures ∙ words_so_far c.args.text.now c.loop-i.from n _ read ∙ ap (λ front. take 10 (words_of front)) (whole ∙ sym line)

pub returns-clause-behind : goal.returns-clause-behind
returns-clause-behind c = sym (ap (drop 1) (lines_of-last c.args.text.now c.loop-i.from c.loop-i.i _ c.loop-i.invariant (omega arith)))
