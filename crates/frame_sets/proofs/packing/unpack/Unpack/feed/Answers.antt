use Rattle.std.proofs.Common.{◌≡◌, ℕ, ◌-◌, List, Option, Some, None, Err, refl, ap, sym, ◌∙◌, min}
use Rattle.std.proofs.lemmas.Result.{err_from_is_err_and}
use Rattle.frame_sets.specs.Unpacked.{Unpacked}
use Rattle.frame_sets.specs.Numbers.{first_below, fault_in, end_fault, wanted, page_fault, or_else}
use Rattle.frame_sets.specs.declared.packing.unpack.PfnFault.{PfnFault}
use Rattle.frame_sets.proofs.Firsts.{told_ok, told_fault}
use Rattle.frame_sets.proofs.packing.unpack.Unpack.feed.Goals as goal

-- a number at fault, and none
at_number : (zones : List (ℕ × ℕ)) (u : Unpacked) (page : List ℕ) (count : ℕ) (f : PfnFault) → count ≡ wanted u → first_below (fault_in zones u page) count ≡ Some f → page_fault zones u page ≡ Some f
unfolding page_fault
at_number zones u page count f whole found =
    ap (λ x. or_else x (end_fault u page)) (ap (first_below (fault_in zones u page)) (sym whole) ∙ found)

at_end : (zones : List (ℕ × ℕ)) (u : Unpacked) (page : List ℕ) (count : ℕ) (answer : Option PfnFault) → count ≡ wanted u → first_below (fault_in zones u page) count ≡ None → end_fault u page ≡ answer → page_fault zones u page ≡ answer
unfolding page_fault
at_end zones u page count answer whole none end_is =
    ap (λ x. or_else x (end_fault u page)) (ap (first_below (fault_in zones u page)) (sym whole) ∙ none) ∙ end_is

wanted_is : (u : Unpacked) (n read count : ℕ) → n ≡ u.n → read ≡ u.read → count ≡ min (n - read) 512 → count ≡ wanted u
wanted_is u n read count n_is read_is count_is = count_is ∙ ap (λ k. min (k - read) 512) n_is ∙ ap (λ k. min (u.n - k) 512) read_is

number_at_fault : (c : goal.After-from_residual) → page_fault c.args.zones.now c.args.self.now c.args.page.now ≡ Some c.in_err-last.field-0.0
number_at_fault c =
    let u = c.args.self.now in
    let whole = wanted_is u c.self.inside.n c.self.inside.read c.min-count.result (ap (λ (a : Unpacked). a.n) c.self.view_is) (ap (λ (a : Unpacked). a.read) c.self.view_is) c.min-count.ensures in
    at_number c.args.zones.now u c.args.page.now c.min-count.result c.in_err-last.field-0.0 whole ((c.in_err-last.ensures.fault c.in_err-last.field-0.0).0 refl)

pub returns-in_err-last-clause-ok : goal.returns-in_err-last-clause-ok
returns-in_err-last-clause-ok c =
    let p = err_from_is_err_and c.from_residual.result c.from_residual.ensures.1 in
    told_ok c.from_residual.result _ c.in_err-last.field-0.0 (p.1 ∙ ap Err p.2) (number_at_fault c)

pub returns-in_err-last-clause-fault : goal.returns-in_err-last-clause-fault
returns-in_err-last-clause-fault c =
    let p = err_from_is_err_and c.from_residual.result c.from_residual.ensures.1 in
    told_fault c.from_residual.result _ c.in_err-last.field-0.0 (p.1 ∙ ap Err p.2) (number_at_fault c)

end_at_fault : (c : goal.After-from_residual-in_err-check_end) → page_fault c.args.zones.now c.args.self.now c.args.page.now ≡ Some c.in_err-check_end.field-0.0
end_at_fault c =
    let u = c.args.self.now in
    let whole = wanted_is u c.self.inside.n c.self.inside.read c.min-count.result (ap (λ (a : Unpacked). a.n) c.self.view_is) (ap (λ (a : Unpacked). a.read) c.self.view_is) c.min-count.ensures in
    at_end c.args.zones.now u c.args.page.now c.min-count.result (Some c.in_err-check_end.field-0.0) whole (c.in_ok-last.ensures.ok.0 refl) ((c.in_err-check_end.ensures.fault c.in_err-check_end.field-0.0).0 refl)

pub returns-in_err-check_end-clause-ok : goal.returns-in_err-check_end-clause-ok
returns-in_err-check_end-clause-ok c =
    let p = err_from_is_err_and c.from_residual-in_err-check_end.result c.from_residual-in_err-check_end.ensures.1 in
    told_ok c.from_residual-in_err-check_end.result _ c.in_err-check_end.field-0.0 (p.1 ∙ ap Err p.2) (end_at_fault c)

pub returns-in_err-check_end-clause-fault : goal.returns-in_err-check_end-clause-fault
returns-in_err-check_end-clause-fault c =
    let p = err_from_is_err_and c.from_residual-in_err-check_end.result c.from_residual-in_err-check_end.ensures.1 in
    told_fault c.from_residual-in_err-check_end.result _ c.in_err-check_end.field-0.0 (p.1 ∙ ap Err p.2) (end_at_fault c)

sound : (zones : List (ℕ × ℕ)) (u seen : Unpacked) (page : List ℕ) (count : ℕ) → seen ≡ u → count ≡ min (seen.n - seen.read) 512 → first_below (fault_in zones u page) count ≡ None → end_fault u page ≡ None → page_fault zones u page ≡ None
sound zones u seen page count same count_is none end_is =
    at_end zones u page count None (wanted_is u seen.n seen.read count (ap (λ (a : Unpacked). a.n) same) (ap (λ (a : Unpacked). a.read) same) count_is) none end_is

pub returns-clause-ok : goal.returns-clause-ok
returns-clause-ok c =
    let all = sound c.args.zones.now c.args.self.now _ c.args.page.now c.min-count.result c.self.view_is c.min-count.ensures (c.in_ok-last.ensures.ok.0 refl) (c.in_ok-check_end.ensures.ok.0 refl) in
    (λ yes. all, λ none. refl)

pub returns-clause-fault : goal.returns-clause-fault
returns-clause-fault c = λ fault.
    let all : page_fault c.args.zones.now c.args.self.now c.args.page.now ≡ None = sound c.args.zones.now c.args.self.now _ c.args.page.now c.min-count.result c.self.view_is c.min-count.ensures (c.in_ok-last.ensures.ok.0 refl) (c.in_ok-check_end.ensures.ok.0 refl) in
    (λ is. cc, λ is. let no : None ≡ Some fault = sym all ∙ is in cc)
