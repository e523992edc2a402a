use Rattle.std.proofs.Common.{◌≡◌, ◌+◌, ◌-◌, ◌<◌, Err, refl, ap, ◌∙◌, arith}
use Rattle.std.proofs.lemmas.Result.{err_from_is_err_and}
use Rattle.image_format.specs.declared.signature.area.Mark.{Mark}
use Rattle.boot_resume.specs.OnDisk.{data_before, format_by, number_before, stream_page}
use Rattle.boot_resume.proofs.Accepting.{accepts_refused, all_right, end_wrong, listed_wrong, page_refused, tallied_all}
use Rattle.boot_resume.proofs.reading.Reading.accept_numbers.Goals as goal

pub returns-in_err-tally-clause-accepts : goal.returns-in_err-tally-clause-accepts
returns-in_err-tally-clause-accepts c = λ v is h here.
    let begun : 0 < c.args.self.now.page = h.begun in
    let one : c.args.self.now.page ≡ 1 + (c.args.self.now.page - 1) = omega arith in
    let page_is = here ∙ ap (stream_page c.args.machine.now v) one in
    let format_is = c.format_of.ensures ∙ ap (λ (x : Mark). format_by x.flags) is in
    let last = h.last ∙ ap (number_before c.args.machine.now v) h.given in
    let counted = h.with_data ∙ ap (data_before c.args.machine.now v) h.given in
    let p = err_from_is_err_and c.from_residual.result c.from_residual.ensures.1 in
    accepts_refused c.args.machine.now v c.args.self.now.page _ c.from_residual.result c.in_err-tally.field-0.0 (p.1 ∙ ap Err p.2)
    (page_refused c.args.machine.now v c.args.self.now h c.numbers_in_page-count.result c.numbers_in_page-count.ensures c.in_err-tally.field-0.0 (c.in_err-tally.ensures.lists v (c.args.self.now.page - 1) format_is page_is last counted))

pub returns-in_err-check_end-clause-accepts : goal.returns-in_err-check_end-clause-accepts
returns-in_err-check_end-clause-accepts c = λ v is h here.
    let begun : 0 < c.args.self.now.page = h.begun in
    let one : c.args.self.now.page ≡ 1 + (c.args.self.now.page - 1) = omega arith in
    let page_is = here ∙ ap (stream_page c.args.machine.now v) one in
    let format_is = c.format_of.ensures ∙ ap (λ (x : Mark). format_by x.flags) is in
    let last = h.last ∙ ap (number_before c.args.machine.now v) h.given in
    let counted = h.with_data ∙ ap (data_before c.args.machine.now v) h.given in
    let p = err_from_is_err_and c.from_residual-in_err-check_end.result c.from_residual-in_err-check_end.ensures.1 in
    let lists = c.in_ok-tally.ensures.lists v (c.args.self.now.page - 1) format_is page_is last counted in
    accepts_refused c.args.machine.now v c.args.self.now.page _ c.from_residual-in_err-check_end.result c.in_err-check_end.field-0.0 (p.1 ∙ ap Err p.2)
    (end_wrong c.args.machine.now v c.args.self.now h c.numbers_in_page-count.result c.numbers_in_page-count.ensures c.args.page.now c.in_err-check_end.field-0.0 here c.if-self.true lists.0 c.in_err-check_end.ensures)

pub returns-in_err-check_listed-clause-accepts : goal.returns-in_err-check_listed-clause-accepts
returns-in_err-check_listed-clause-accepts c = λ v is h here.
    let begun : 0 < c.args.self.now.page = h.begun in
    let one : c.args.self.now.page ≡ 1 + (c.args.self.now.page - 1) = omega arith in
    let page_is = here ∙ ap (stream_page c.args.machine.now v) one in
    let format_is = c.format_of.ensures ∙ ap (λ (x : Mark). format_by x.flags) is in
    let last = h.last ∙ ap (number_before c.args.machine.now v) h.given in
    let counted = h.with_data ∙ ap (data_before c.args.machine.now v) h.given in
    let p = err_from_is_err_and c.from_residual-in_err-check_listed.result c.from_residual-in_err-check_listed.ensures.1 in
    let lists = c.in_ok-tally.ensures.lists v (c.args.self.now.page - 1) format_is page_is last counted in
    accepts_refused c.args.machine.now v c.args.self.now.page _ c.from_residual-in_err-check_listed.result c.in_err-check_listed.field-0.0 (p.1 ∙ ap Err p.2)
    (listed_wrong c.args.machine.now v c.args.self.now h c.numbers_in_page-count.result c.numbers_in_page-count.ensures c.args.page.now c.in_ok-tally.tally.with_data c.in_err-check_listed.field-0.0 here c.if-self.true lists.0 c.in_ok-check_end.ensures lists.1.1 c.in_err-check_listed.ensures)

pub returns-in_ok-check_listed-clause-accepts : goal.returns-in_ok-check_listed-clause-accepts
returns-in_ok-check_listed-clause-accepts c = λ v is h here.
    let begun : 0 < c.args.self.now.page = h.begun in
    let one : c.args.self.now.page ≡ 1 + (c.args.self.now.page - 1) = omega arith in
    let page_is = here ∙ ap (stream_page c.args.machine.now v) one in
    let format_is = c.format_of.ensures ∙ ap (λ (x : Mark). format_by x.flags) is in
    let last = h.last ∙ ap (number_before c.args.machine.now v) h.given in
    let counted = h.with_data ∙ ap (data_before c.args.machine.now v) h.given in
    let lists = c.in_ok-tally.ensures.lists v (c.args.self.now.page - 1) format_is page_is last counted in (
      all_right c.args.machine.now v c.args.self.now h c.numbers_in_page-count.result c.numbers_in_page-count.ensures c.args.page.now c.in_ok-tally.tally.with_data here c.if-self.true lists.0 c.in_ok-check_end.ensures lists.1.1 c.in_ok-check_listed.ensures,
      tallied_all c.args.machine.now v c.args.self.now h c.numbers_in_page-count.result c.numbers_in_page-count.ensures _ c.in_ok-tally.tally lists c.if-self.true refl refl refl refl refl,
    )
