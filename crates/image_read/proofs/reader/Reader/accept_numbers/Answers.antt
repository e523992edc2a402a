use Rattle.std.proofs.Common.{◌≡◌, ℕ, ◌+◌, List, ◌++◌, length, Option, Some, None, Err, refl, sym, ap, ap₂, ◌∙◌, subst}
use Rattle.std.proofs.lemmas.Result.{err_from_is_err_and}
use Rattle.frame_sets.specs.FrameSet.{FrameSet}
use Rattle.frame_sets.specs.Unpacked.{Unpacked}
use Rattle.frame_sets.specs.Numbers.{wanted, numbers_in, marked_in}
use Rattle.image_read.specs.Causes.{cause_of_numbers}
use Rattle.image_read.specs.Reading.{Reading}
use Rattle.image_read.specs.Kept.{kept_reading}
use Rattle.image_read.specs.Faults.{pages_fault}
use Rattle.image_read.specs.Taking.{numbers_fault, with_numbers}
use Rattle.image_read.specs.declared.cause.Cause.{Cause}
use Rattle.frame_sets.proofs.Firsts.{told_ok}
use Rattle.image_read.proofs.Numbers.{err_with, count_listed, at_number, after_all, before_all, all_read-all, all_read-more}
use Rattle.image_read.proofs.reader.Reader.accept_numbers.Goals as goal

pub returns-in_err-feed-clause-fault : goal.returns-in_err-feed-clause-fault
returns-in_err-feed-clause-fault c =
    let p = err_from_is_err_and c.from_residual.result c.from_residual.ensures.1 in
    let fault = c.in_err-feed.field-0.0 in
    let zones = c.args.zones.now in
    let zeros = c.args.zeros.now.members in
    let page = c.args.page.now in
    let is = at_number zones (kept_reading c.self.inside) zeros page fault ((c.in_err-feed.ensures.fault fault).0 refl) in
    err_with c.from_residual.result _ (cause_of_numbers fault) (p.1 ∙ ap Err p.2)
    (subst (λ (r : Reading). numbers_fault zones r zeros page ≡ Some (cause_of_numbers fault)) c.self.view_is is)

-- all numbers are listed exactly where as many page frames are as were saved
all_listed : (u : Unpacked) (page : List ℕ) (saved count : ℕ) (old new : FrameSet) → length old.members ≡ u.read → new ≡ record old { members = old.members ++ numbers_in u page (wanted u) } → count ≡ length new.members → count ≡ u.read + wanted u
all_listed u page saved count old new old_count new_is count_is =
    count_is ∙ ap (λ (s : FrameSet). length s.members) new_is ∙ count_listed u page old.members old_count

-- the fault of the pages, as it is tested
pages_tested : (zones : List (ℕ × ℕ)) (seen r : Reading) (page : List ℕ) (zeros new : FrameSet) (count : ℕ) (answer : Option Cause) → seen ≡ r → new ≡ record zeros { members = zeros.members ++ marked_in seen.numbers page (wanted seen.numbers) } → count ≡ length new.members → numbers_fault zones seen zeros.members page ≡ pages_fault seen.saved seen.pages (length (zeros.members ++ marked_in seen.numbers page (wanted seen.numbers))) → pages_fault seen.saved seen.pages count ≡ answer → numbers_fault zones r zeros.members page ≡ answer
pages_tested zones seen r page zeros new count answer view new_is count_is whole is =
    subst (λ (x : Reading). numbers_fault zones x zeros.members page ≡ answer) view
    (whole ∙ ap (pages_fault seen.saved seen.pages) (sym (count_is ∙ ap (λ (s : FrameSet). length s.members) new_is)) ∙ is)

read_is : (seen r : Reading) (n : ℕ) → seen ≡ r → n ≡ r.numbers.read → n ≡ seen.numbers.read
read_is seen r n view is = is ∙ ap (λ (x : Reading). x.numbers.read) (sym view)

pub returns-in_err-test_listed-clause-ok : goal.returns-in_err-test_listed-clause-ok
returns-in_err-test_listed-clause-ok c =
    let p = err_from_is_err_and c.from_residual-in_err-test_listed.result c.from_residual-in_err-test_listed.ensures.1 in
    let seen = kept_reading c.self.inside in
    let page = c.args.page.now in
    let count = all_listed seen.numbers page seen.saved c.len.result c.args.origs.now c.feed.new.origs (read_is seen c.args.self.now _ c.self.view_is c.requires.ready.count) c.in_ok-feed.ensures.listed c.len.ensures.len in
    let all : seen.numbers.read + wanted seen.numbers ≡ seen.saved = sym count ∙ c.if-len-self.true in
    let whole = after_all c.args.zones.now seen c.args.zeros.now.members page (c.in_ok-feed.ensures.ok.0 refl) all in
    told_ok c.from_residual-in_err-test_listed.result _ c.in_err-test_listed.field-0.0 (p.1 ∙ ap Err p.2)
    (pages_tested c.args.zones.now seen c.args.self.now page c.args.zeros.now c.feed.new.zeros c.len-then-len-self.result (Some c.in_err-test_listed.field-0.0) c.self.view_is c.in_ok-feed.ensures.marked c.len-then-len-self.ensures.len whole c.in_err-test_listed.ensures.fault)

pub returns-in_err-test_listed-clause-fault : goal.returns-in_err-test_listed-clause-fault
returns-in_err-test_listed-clause-fault c =
    let p = err_from_is_err_and c.from_residual-in_err-test_listed.result c.from_residual-in_err-test_listed.ensures.1 in
    let seen = kept_reading c.self.inside in
    let page = c.args.page.now in
    let count = all_listed seen.numbers page seen.saved c.len.result c.args.origs.now c.feed.new.origs (read_is seen c.args.self.now _ c.self.view_is c.requires.ready.count) c.in_ok-feed.ensures.listed c.len.ensures.len in
    let all : seen.numbers.read + wanted seen.numbers ≡ seen.saved = sym count ∙ c.if-len-self.true in
    let whole = after_all c.args.zones.now seen c.args.zeros.now.members page (c.in_ok-feed.ensures.ok.0 refl) all in
    err_with c.from_residual-in_err-test_listed.result _ c.in_err-test_listed.field-0.0 (p.1 ∙ ap Err p.2)
    (pages_tested c.args.zones.now seen c.args.self.now page c.args.zeros.now c.feed.new.zeros c.len-then-len-self.result (Some c.in_err-test_listed.field-0.0) c.self.view_is c.in_ok-feed.ensures.marked c.len-then-len-self.ensures.len whole c.in_err-test_listed.ensures.fault)

pub returns-in_ok-test_listed-clause-numbers : goal.returns-in_ok-test_listed-clause-numbers
returns-in_ok-test_listed-clause-numbers c =
    let seen = kept_reading c.self.inside in
    let page = c.args.page.now in
    let count = all_listed seen.numbers page seen.saved c.len.result c.args.origs.now c.feed.new.origs (read_is seen c.args.self.now _ c.self.view_is c.requires.ready.count) c.in_ok-feed.ensures.listed c.len.ensures.len in
    let all : seen.numbers.read + wanted seen.numbers ≡ seen.saved = sym count ∙ c.if-len-self.true in
    let made : Unpacked → Option ℕ → Reading = λ numbers listed. record seen { numbers = numbers; listed = listed } in
    ap₂ made c.in_ok-feed.ensures.read (sym (all_read-all seen all)) ∙ ap (λ (r : Reading). with_numbers r page) c.self.view_is

pub returns-else-len-self-clause-ok : goal.returns-else-len-self-clause-ok
returns-else-len-self-clause-ok c =
    let seen = kept_reading c.self.inside in
    let zones = c.args.zones.now in
    let zeros = c.args.zeros.now.members in
    let page = c.args.page.now in
    let count = all_listed seen.numbers page seen.saved c.len.result c.args.origs.now c.feed.new.origs (read_is seen c.args.self.now _ c.self.view_is c.requires.ready.count) c.in_ok-feed.ensures.listed c.len.ensures.len in
    let is = before_all zones seen zeros page (c.in_ok-feed.ensures.ok.0 refl) (λ all. c.if-len-self.false (count ∙ all)) in (
      λ x. subst (λ (r : Reading). numbers_fault zones r zeros page ≡ None) c.self.view_is is,
      λ x. refl,
    )

pub returns-else-len-self-clause-numbers : goal.returns-else-len-self-clause-numbers
returns-else-len-self-clause-numbers c =
    let seen = kept_reading c.self.inside in
    let page = c.args.page.now in
    let count = all_listed seen.numbers page seen.saved c.len.result c.args.origs.now c.feed.new.origs (read_is seen c.args.self.now _ c.self.view_is c.requires.ready.count) c.in_ok-feed.ensures.listed c.len.ensures.len in
    let made : Unpacked → Option ℕ → Reading = λ numbers listed. record seen { numbers = numbers; listed = listed } in
    ap₂ made c.in_ok-feed.ensures.read (sym (all_read-more seen (λ all. c.if-len-self.false (count ∙ all)))) ∙ ap (λ (r : Reading). with_numbers r page) c.self.view_is
