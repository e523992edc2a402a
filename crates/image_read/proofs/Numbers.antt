-- A number page that was taken.
use Rattle.std.proofs.Common.{◌≡◌, ◌≢◌, ℕ, ◌+◌, List, ◌++◌, length, length-append, Some, None, Result, Err, IfErr, eqb, sym, ap, ◌∙◌, subst, arith}
use Rattle.std.proofs.lemmas.Bool.{cond-true, cond-false, eq-eqb, ne_eqb}
use Rattle.std.proofs.lemmas.List.FromFn.{length-map-range_with_len}
use Rattle.frame_sets.specs.Unpacked.{Unpacked}
use Rattle.frame_sets.specs.Numbers.{page_fault, wanted, numbers_in, marked_in, number_in}
use Rattle.frame_sets.specs.declared.packing.unpack.PfnFault.{PfnFault}
use Rattle.plain_machine.specs.Chain.{or_else}
use Rattle.image_read.specs.Causes.{cause_of_numbers}
use Rattle.image_read.specs.Reading.{Reading}
use Rattle.image_read.specs.Faults.{pages_fault}
use Rattle.image_read.specs.Taking.{numbers_fault, listing_fault, pfn_cause, all_read}

pub err_with : {A E : Type 0} (r : Result A E) (P : E → Type 0) (e : E) → r ≡ Err e → P e → IfErr r P
err_with r P e is p = subst (λ x. IfErr x P) (sym is) p

pub length-numbers_in : (u : Unpacked) (page : List ℕ) (j : ℕ) → length (numbers_in u page j) ≡ j
unfolding numbers_in
length-numbers_in u page j = length-map-range_with_len (number_in u page) 0 j

-- how many are listed then
pub count_listed : (u : Unpacked) (page origs : List ℕ) → length origs ≡ u.read → length (origs ++ numbers_in u page (wanted u)) ≡ u.read + wanted u
count_listed u page origs count = omega (arith, length-append origs (numbers_in u page (wanted u)), length-numbers_in u page (wanted u))

pub at_number : (zones : List (ℕ × ℕ)) (r : Reading) (zeros page : List ℕ) (fault : PfnFault) → page_fault zones r.numbers page ≡ Some fault → numbers_fault zones r zeros page ≡ Some (cause_of_numbers fault)
at_number zones r zeros page fault is =
    ap (λ x. or_else (pfn_cause x) (listing_fault r (length (zeros ++ marked_in r.numbers page (wanted r.numbers))))) is

pub after_all : (zones : List (ℕ × ℕ)) (r : Reading) (zeros page : List ℕ) → page_fault zones r.numbers page ≡ None → r.numbers.read + wanted r.numbers ≡ r.saved → numbers_fault zones r zeros page ≡ pages_fault r.saved r.pages (length (zeros ++ marked_in r.numbers page (wanted r.numbers)))
after_all zones r zeros page sound all =
    let count = length (zeros ++ marked_in r.numbers page (wanted r.numbers)) in
    ap (λ x. or_else (pfn_cause x) (listing_fault r count)) sound
    ∙ cond-true (eqb (r.numbers.read + wanted r.numbers) r.saved) (pages_fault r.saved r.pages count) None (eq-eqb (r.numbers.read + wanted r.numbers) r.saved all)

pub before_all : (zones : List (ℕ × ℕ)) (r : Reading) (zeros page : List ℕ) → page_fault zones r.numbers page ≡ None → (r.numbers.read + wanted r.numbers ≢ r.saved) → numbers_fault zones r zeros page ≡ None
before_all zones r zeros page sound more =
    let count = length (zeros ++ marked_in r.numbers page (wanted r.numbers)) in
    ap (λ x. or_else (pfn_cause x) (listing_fault r count)) sound
    ∙ cond-false (eqb (r.numbers.read + wanted r.numbers) r.saved) (pages_fault r.saved r.pages count) None (ne_eqb (r.numbers.read + wanted r.numbers) r.saved more)

pub all_read-all : (r : Reading) → r.numbers.read + wanted r.numbers ≡ r.saved → all_read r ≡ Some r.saved
all_read-all r all = cond-true (eqb (r.numbers.read + wanted r.numbers) r.saved) (Some r.saved) r.listed (eq-eqb (r.numbers.read + wanted r.numbers) r.saved all)

pub all_read-more : (r : Reading) → (r.numbers.read + wanted r.numbers ≢ r.saved) → all_read r ≡ r.listed
all_read-more r more = cond-false (eqb (r.numbers.read + wanted r.numbers) r.saved) (Some r.saved) r.listed (ne_eqb (r.numbers.read + wanted r.numbers) r.saved more)
