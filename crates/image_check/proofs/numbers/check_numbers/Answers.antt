use Rattle.std.proofs.Common.{ℕ, ap, subst, ◌∙◌, Option}
use Rattle.definitions.specs.Bytes.{word}
use Rattle.image_check.specs.Numbers.{word_fault, word_before}
use Rattle.image_check.specs.Told.{Tells, list_of}
use Rattle.image_check.specs.declared.finding.Finding.{Finding}
use Rattle.image_check.proofs.Telling.{tells_start, tells_more}
use Rattle.image_check.proofs.numbers.check_numbers.Goals as goal

pub loop-i-init : goal.loop-i-init
loop-i-init g c = tells_start _ _

pub loop-i-preserved : goal.loop-i-preserved
loop-i-preserved g c =
    let of = c.args.of in
    let bytes = c.args.bytes.now in
    let i = c.loop-i.i in
    let fault : ℕ → Option Finding = λ j. word_fault of.format of.numbers of.page j (word bytes j) (word_before c.args.previous bytes j) in
    let same =
    c.word_fault.ensures
    ∙ ap (λ w. word_fault of.format of.numbers of.page i w c.word_before.result) c.word.ensures
    ∙ ap (λ (b : Option ℕ). word_fault of.format of.numbers of.page i (word bytes i) b) c.word_before.ensures in
    tells_more fault i (g.R.Report.told c.args.report.now) (g.R.Report.told c.loop-i.report) (g.R.Report.told c.tell_any.new.report) c.loop-i.invariant
    (subst (λ (f : Option Finding). Tells (list_of f) (g.R.Report.told c.loop-i.report) (g.R.Report.told c.tell_any.new.report)) same c.tell_any.ensures)
