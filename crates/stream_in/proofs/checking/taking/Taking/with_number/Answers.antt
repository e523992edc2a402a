use Rattle.std.proofs.Common.{◌≡◌, ℕ, ◌-◌, ◌/◌, ◌<◌, ◌≤◌, Err, ltb, refl, ap, ◌∙◌}
use Rattle.std.proofs.lemmas.Bool.{cond-true, cond-false, lt-ltb, le-ltb}
use Rattle.std.proofs.lemmas.Result.{err_from_is_err_and}
use Rattle.stream_in.specs.Grammar.{fault_at, kind_of_word, kind_of_number, kind_of_end}
use Rattle.stream_in.proofs.Told.{refused, passed, none_from, some_from}
use Rattle.stream_in.proofs.checking.taking.Taking.with_number.Goals as goal

-- a word after the numbers, and a number
behind : (n j least v at : ℕ) → n ≤ j → fault_at at (kind_of_word n j least v) ≡ fault_at at (kind_of_end n v)
behind n j least v at h = ap (fault_at at) (cond-false (ltb j n) (kind_of_number least v) (kind_of_end n v) (le-ltb j n h))

within : (n j least v at : ℕ) → j < n → fault_at at (kind_of_word n j least v) ≡ fault_at at (kind_of_number least v)
within n j least v at h = ap (fault_at at) (cond-true (ltb j n) (kind_of_number least v) (kind_of_end n v) (lt-ltb j n h))

pub returns-in_err-check_end-clause-fault : goal.returns-in_err-check_end-clause-fault
returns-in_err-check_end-clause-fault c =
    let p = err_from_is_err_and c.from_residual.result c.from_residual.ensures.1 in
    let t = c.args.self in
    refused c.from_residual.result _ c.in_err-check_end.field-0.0 (p.1 ∙ ap Err p.2)
    (behind t.image_pages ((c.args.at - 4096) / 8) t.least c.args.v c.args.at c.if-j-self.true
    ∙ some_from c.check_end.result (fault_at c.args.at (kind_of_end t.image_pages c.args.v)) c.in_err-check_end.field-0.0 (c.in_err-check_end.was) c.check_end.ensures)

pub returns-then-j-self-clause-fault : goal.returns-then-j-self-clause-fault
returns-then-j-self-clause-fault c =
    let t = c.args.self in
    passed _ _ _ refl
    (behind t.image_pages ((c.args.at - 4096) / 8) t.least c.args.v c.args.at c.if-j-self.true
    ∙ none_from c.check_end.result (fault_at c.args.at (kind_of_end t.image_pages c.args.v)) c.in_ok-check_end.field-0 (c.in_ok-check_end.was) c.check_end.ensures)

pub returns-in_err-check_number-clause-fault : goal.returns-in_err-check_number-clause-fault
returns-in_err-check_number-clause-fault c =
    let p = err_from_is_err_and c.from_residual-in_err-check_number.result c.from_residual-in_err-check_number.ensures.1 in
    let t = c.args.self in
    refused c.from_residual-in_err-check_number.result _ c.in_err-check_number.field-0.0 (p.1 ∙ ap Err p.2)
    (within t.image_pages ((c.args.at - 4096) / 8) t.least c.args.v c.args.at c.if-j-self.false
    ∙ some_from c.check_number.result (fault_at c.args.at (kind_of_number t.least c.args.v)) c.in_err-check_number.field-0.0 (c.in_err-check_number.was) c.check_number.ensures.fault)

pub returns-clause-fault : goal.returns-clause-fault
returns-clause-fault c =
    let t = c.args.self in
    passed _ _ _ refl
    (within t.image_pages ((c.args.at - 4096) / 8) t.least c.args.v c.args.at c.if-j-self.false
    ∙ none_from c.check_number.result (fault_at c.args.at (kind_of_number t.least c.args.v)) c.in_ok-check_number.field-0 (c.in_ok-check_number.was) c.check_number.ensures.fault)
