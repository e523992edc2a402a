use Rattle.std.proofs.Common.{◌≡◌, ℕ, ◌+◌, List, Option, Some, None, Err, refl, ap, ap₂, sym, ◌∙◌, subst, arith, add-one}
use Rattle.std.proofs.lemmas.Result.{err_from_is_err_and}
use Rattle.definitions.specs.Bytes.{word}
use Rattle.frame_sets.specs.Unpacked.{Unpacked}
use Rattle.frame_sets.specs.Numbers.{first_below, fault_in, before_in, number_in, number_fault, number_by}
use Rattle.frame_sets.proofs.Firsts.{first_below-more, first_below-found, told_ok, told_fault}
use Rattle.frame_sets.proofs.packing.unpack.Unpack.check.Goals as goal

-- the fault of number j, as the test has it
same_fault : (zones : List (ℕ × ℕ)) (u : Unpacked) (page : List ℕ) (j : ℕ) (last : Option ℕ) (number read : ℕ) → last ≡ before_in u page j → number ≡ number_by u.format read → read ≡ word page j → number_fault zones last number ≡ fault_in zones u page j
same_fault zones u page j last number read last_is number_is read_is =
    ap₂ (number_fault zones) last_is (number_is ∙ ap (number_by u.format) read_is)

refused : (c : goal.After-from_residual) → first_below (fault_in c.args.zones.now c.args.self.now c.args.page.now) c.args.count ≡ Some c.in_err-accept.field-0.0
refused c =
    let zones = c.args.zones.now in
    let u = c.args.self.now in
    let page = c.args.page.now in
    let j = c.loop-j.j in
    let f = fault_in zones u page in
    let same = same_fault zones u page j c.loop-j.last c.number-number.result c.word.result c.loop-j.invariant.last c.number-number.ensures c.word.ensures in
    first_below-found f (j + 1) c.args.count c.in_err-accept.field-0.0 (omega arith)
    (first_below-more f j c.loop-j.invariant.sound ∙ sym same ∙ (c.in_err-accept.ensures.fault c.in_err-accept.field-0.0).0 refl)

pub returns-in_err-accept-clause-ok : goal.returns-in_err-accept-clause-ok
returns-in_err-accept-clause-ok c =
    let p = err_from_is_err_and c.from_residual.result c.from_residual.ensures.1 in
    told_ok c.from_residual.result _ c.in_err-accept.field-0.0 (p.1 ∙ ap Err p.2) (refused c)

pub returns-in_err-accept-clause-fault : goal.returns-in_err-accept-clause-fault
returns-in_err-accept-clause-fault c =
    let p = err_from_is_err_and c.from_residual.result c.from_residual.ensures.1 in
    told_fault c.from_residual.result _ c.in_err-accept.field-0.0 (p.1 ∙ ap Err p.2) (refused c)

pub loop-j-preserved : goal.loop-j-preserved
loop-j-preserved c =
    let zones = c.args.zones.now in
    let u = c.args.self.now in
    let page = c.args.page.now in
    let j = c.loop-j.j in
    let same = same_fault zones u page j c.loop-j.last c.number-number.result c.word.result c.loop-j.invariant.last c.number-number.ensures c.word.ensures in
    let number_is : c.number-number.result ≡ number_in u page j = c.number-number.ensures ∙ ap (number_by u.format) c.word.ensures in
    let next : Some (number_in u page j) ≡ before_in u page (j + 1) = ap (before_in u page) (sym (add-one j)) in
    record {
      sound = first_below-more (fault_in zones u page) j c.loop-j.invariant.sound ∙ sym same ∙ c.in_ok-accept.ensures.ok.0 refl;
      last = ap Some (c.in_ok-accept.ensures.same ∙ number_is) ∙ next;
    }

pub returns-clause-ok : goal.returns-clause-ok
returns-clause-ok c =
    let all : c.loop-j.j ≡ c.args.count = omega arith in
    (λ yes. subst (λ (k : ℕ). first_below (fault_in c.args.zones.now c.args.self.now c.args.page.now) k ≡ None) all c.loop-j.invariant.sound, λ none. refl)
