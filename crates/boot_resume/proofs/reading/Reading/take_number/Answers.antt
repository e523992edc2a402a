use Rattle.std.proofs.Common.{◌≡◌, ◌+◌, ◌%◌, List, ◌∷◌, Err, true, false, refl, sym, ap, ◌∙◌}
use Rattle.std.proofs.lemmas.Result.{err_from_is_err_and}
use Rattle.image_format.specs.declared.signature.area.Mark.{Mark}
use Rattle.definitions.specs.Bytes.{word}
use Rattle.boot_resume.specs.OnDisk.{format_by, has_no_data, mark_in, number_cause, number_fault, number_in, word_in}
use Rattle.boot_resume.specs.Calls.{Turn, data_then, handed_from, page_then, places}
use Rattle.boot_resume.specs.Standing.{from_number}
use Rattle.boot_resume.specs.declared.call.Call.TheVariants.{Page}
use Rattle.boot_resume.specs.declared.stage.Stage.TheVariants as stage
use Rattle.boot_resume.proofs.Asking.{asks_as, asks_data, may_place}
use Rattle.boot_resume.proofs.Counting.{unless_some}
use Rattle.boot_resume.proofs.Going.{data_leads, goes_as, leads_over, leads_refused}
use Rattle.boot_resume.proofs.Handed.{cause_named, frame_named, from_data, handing_as, mark_named, numbers_as, zeros_go}
use Rattle.boot_resume.proofs.reading.Reading.take_number.Goals as goal

pub returns-in_err-check_number-clause-leads : goal.returns-in_err-check_number-clause-leads
returns-in_err-check_number-clause-leads c = λ v h map more numbers.
    let word_is : c.word-word.result ≡ word_in c.args.machine.now v c.args.self.now.given = c.word-word.ensures ∙ ap (λ p. word p (c.args.self.now.given % 512)) numbers.numbers in
    let format_is : c.format_of-format.result ≡ format_by (mark_in c.args.machine.now v).flags = c.format_of-format.ensures ∙ ap (λ (x : Mark). format_by x.flags) h.mark in
    let frame_is : c.frame_of-self.result ≡ number_in c.args.machine.now v c.args.self.now.given = frame_named c.args.machine.now v c.format_of-format.result c.word-word.result c.frame_of-self.result c.args.self.now.given format_is word_is c.frame_of-self.ensures in
    let cause_is : number_cause c.args.machine.now v c.args.self.now.given ≡ number_fault c.args.machine.now c.args.self.now.last c.frame_of-self.result = cause_named c.args.machine.now v c.args.self.now.last c.frame_of-self.result c.args.self.now.given h.last frame_is in
    let p = err_from_is_err_and c.from_residual.result c.from_residual.ensures.1 in
    leads_refused c.args.machine.now v _ c.args.page.now (from_number c.args.machine.now v c.args.self.now.given) c.from_residual.result c.in_err-check_number.field-0.0 (p.1 ∙ ap Err p.2)
    (unless_some (number_cause c.args.machine.now v c.args.self.now.given) c.in_err-check_number.field-0.0 (data_then c.args.machine.now v c.args.self.now.given (places c.args.machine.now v c.args.self.now.given ∷ handed_from c.args.machine.now v (c.args.self.now.given + 1))) (cause_is ∙ c.in_err-check_number.ensures))

pub returns-then-has_no_data-clause-leads : goal.returns-then-has_no_data-clause-leads
returns-then-has_no_data-clause-leads c = λ v h map more numbers.
    let word_is : c.word-word.result ≡ word_in c.args.machine.now v c.args.self.now.given = c.word-word.ensures ∙ ap (λ p. word p (c.args.self.now.given % 512)) numbers.numbers in
    let format_is : c.format_of-format.result ≡ format_by (mark_in c.args.machine.now v).flags = c.format_of-format.ensures ∙ ap (λ (x : Mark). format_by x.flags) h.mark in
    let frame_is : c.frame_of-self.result ≡ number_in c.args.machine.now v c.args.self.now.given = frame_named c.args.machine.now v c.format_of-format.result c.word-word.result c.frame_of-self.result c.args.self.now.given format_is word_is c.frame_of-self.ensures in
    let cause_is : number_cause c.args.machine.now v c.args.self.now.given ≡ number_fault c.args.machine.now c.args.self.now.last c.frame_of-self.result = cause_named c.args.machine.now v c.args.self.now.last c.frame_of-self.result c.args.self.now.given h.last frame_is in
    let none : has_no_data c.args.machine.now v c.args.self.now.given ≡ true = sym (mark_named c.args.machine.now v c.format_of-format.result c.word-word.result c.args.self.now.given format_is word_is) ∙ sym c.has_no_data.ensures ∙ c.if-has_no_data.true in
    goes_as c.args.machine.now v _ c.zero.result (from_number c.args.machine.now v c.args.self.now.given) stage.Place c.place.result.stage (Page c.frame_of-self.result) c.place.result.call
    (ap (λ x. x.stage) c.place.ensures) (ap (λ x. x.call) c.place.ensures)
    (zeros_go c.args.machine.now v _ c.zero.result (handing_as c.args.machine.now v c.args.self.now _ h refl refl refl refl refl refl) map more (numbers_as c.args.machine.now v c.args.self.now _ numbers refl refl refl) frame_is (cause_is ∙ c.in_ok-check_number.ensures) none c.zero.ensures)

pub returns-then-has_no_data-clause-asks : goal.returns-then-has_no_data-clause-asks
returns-then-has_no_data-clause-asks c = λ made begun new.
    asks_as c.args.machine.now (record c.args.self.now { frame = c.frame_of-self.result }) made c.place.result (record { stage = stage.Place; call = Page c.frame_of-self.result }) c.place.ensures
    (begun, (new, (refl, may_place c.args.machine.now c.args.self.now.last c.frame_of-self.result c.in_ok-check_number.ensures)))

pub returns-clause-leads : goal.returns-clause-leads
returns-clause-leads c = λ v h map more numbers.
    let word_is : c.word-word.result ≡ word_in c.args.machine.now v c.args.self.now.given = c.word-word.ensures ∙ ap (λ p. word p (c.args.self.now.given % 512)) numbers.numbers in
    let format_is : c.format_of-format.result ≡ format_by (mark_in c.args.machine.now v).flags = c.format_of-format.ensures ∙ ap (λ (x : Mark). format_by x.flags) h.mark in
    let frame_is : c.frame_of-self.result ≡ number_in c.args.machine.now v c.args.self.now.given = frame_named c.args.machine.now v c.format_of-format.result c.word-word.result c.frame_of-self.result c.args.self.now.given format_is word_is c.frame_of-self.ensures in
    let cause_is : number_cause c.args.machine.now v c.args.self.now.given ≡ number_fault c.args.machine.now c.args.self.now.last c.frame_of-self.result = cause_named c.args.machine.now v c.args.self.now.last c.frame_of-self.result c.args.self.now.given h.last frame_is in
    let has : has_no_data c.args.machine.now v c.args.self.now.given ≡ false = sym (mark_named c.args.machine.now v c.format_of-format.result c.word-word.result c.args.self.now.given format_is word_is) ∙ sym c.has_no_data.ensures ∙ c.if-has_no_data.false in
    let rest : List Turn = places c.args.machine.now v c.args.self.now.given ∷ handed_from c.args.machine.now v (c.args.self.now.given + 1) in
    leads_over c.args.machine.now v _ c.args.page.now (page_then c.args.machine.now v c.args.self.now.page rest) (from_number c.args.machine.now v c.args.self.now.given) c.want.result
    (from_data c.args.machine.now v c.args.self.now.given (cause_is ∙ c.in_ok-check_number.ensures) has ∙ ap (λ k. page_then c.args.machine.now v k rest) (sym h.page))
    (data_leads c.args.machine.now v _ c.args.page.now (page_then c.args.machine.now v c.args.self.now.page rest) c.want.result
    (record { handing = handing_as c.args.machine.now v c.args.self.now _ h refl refl refl refl refl refl; more = more; numbers = numbers_as c.args.machine.now v c.args.self.now _ numbers refl refl refl; frame = frame_is; has = has })
    (c.want.ensures.wants v rest h.mark map))

pub returns-clause-asks : goal.returns-clause-asks
returns-clause-asks c = λ made begun new. asks_data c.args.machine.now (record c.args.self.now { frame = c.frame_of-self.result }) made c.want.result c.want.ensures.reads begun new (may_place c.args.machine.now c.args.self.now.last c.frame_of-self.result c.in_ok-check_number.ensures)
