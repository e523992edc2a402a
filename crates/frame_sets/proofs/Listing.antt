-- The numbers of a page that has no fault, one after another.
use Rattle.std.proofs.Common.{◌≡◌, ℕ, ◌+◌, ◌==◌, ◌<◌, ◌≤◌, zero, suc, List, [], ◌∷◌, ◌++◌, map, filter, Option, Some, None, Bool, true, false, cond, leb, refl, sym, ap, ◌∙◌, subst, inl, inr, ⊎_elim, append_assoc, add-one, arith}
use Rattle.std.proofs.lemmas.Bool.{cases_Bool, cases_lt, cond-true, cond-false, le-leb}
use Rattle.std.proofs.lemmas.List.{append-nil, map-append}
use Rattle.std.proofs.lemmas.List.FromFn.{map-range_with_len_more}
use Rattle.std.proofs.lemmas.List.Elements.{Contains-append_cases}
use Rattle.std.specs.List.{Contains, list_any, range_with_len}
use Rattle.definitions.specs.Bytes.{word}
use Rattle.definitions.specs.Zones.{numbers}
use Rattle.definitions.specs.FrameSets.{inserted}
use Rattle.definitions.proofs.Ascending.{Contains-cons_cases, Contains-nil}
use Rattle.definitions.proofs.FrameSets.{inserted_above}
use Rattle.definitions.proofs.ZoneLists.{filter-range_more}
use Rattle.frame_sets.specs.Unpacked.{Unpacked, IsUpTo}
use Rattle.frame_sets.specs.Numbers.{number_fault, order_fault, number_in, before_in, fault_in, is_marked_by, numbers_in, marked_in, first_below}
use Rattle.frame_sets.specs.declared.packing.unpack.PfnFault.{PfnFault}
use Rattle.frame_sets.specs.declared.packing.unpack.PfnFault.TheVariants.{BadPfn, PfnOrder}
use Rattle.frame_sets.proofs.PackedMembers.{member-list_any}
use Rattle.frame_sets.proofs.Firsts.{first_below-none}

-- no number is read yet
pub numbers_in-none : (u : Unpacked) (page : List ℕ) → numbers_in u page 0 ≡ []
unfolding numbers_in
numbers_in-none u page = refl

pub marked_in-none : (u : Unpacked) (page : List ℕ) → marked_in u page 0 ≡ []
unfolding marked_in
marked_in-none u page = refl

-- one number more
pub numbers_in-more : (u : Unpacked) (page : List ℕ) (j : ℕ) → numbers_in u page (j + 1) ≡ numbers_in u page j ++ number_in u page j ∷ []
unfolding numbers_in
numbers_in-more u page j = map-range_with_len_more (number_in u page) 0 j j (omega arith)

marked_more : (u : Unpacked) (page : List ℕ) (j : ℕ) → marked_in u page (j + 1) ≡ marked_in u page j ++ map (number_in u page) (cond (is_marked_by u.format (word page j)) (j ∷ []) [])
unfolding marked_in
marked_more u page j =
    let test : ℕ → Bool = λ i. is_marked_by u.format (word page i) in
    let this : 0 + j ≡ j = omega arith in
    ap (map (number_in u page)) (filter-range_more test 0 j)
    ∙ map-append (number_in u page) (filter test (range_with_len 0 j)) (cond (test (0 + j)) ((0 + j) ∷ []) [])
    ∙ ap (λ (i : ℕ). map (number_in u page) (filter test (range_with_len 0 j)) ++ map (number_in u page) (cond (test i) (i ∷ []) [])) this

pub marked_in-one : (u : Unpacked) (page : List ℕ) (j : ℕ) → is_marked_by u.format (word page j) ≡ true → marked_in u page (j + 1) ≡ marked_in u page j ++ number_in u page j ∷ []
marked_in-one u page j is =
    marked_more u page j ∙ ap (λ t. marked_in u page j ++ map (number_in u page) t) (cond-true (is_marked_by u.format (word page j)) (j ∷ []) [] is)

pub marked_in-same : (u : Unpacked) (page : List ℕ) (j : ℕ) → is_marked_by u.format (word page j) ≡ false → marked_in u page (j + 1) ≡ marked_in u page j
marked_in-same u page j is =
    marked_more u page j ∙ ap (λ t. marked_in u page j ++ map (number_in u page) t) (cond-false (is_marked_by u.format (word page j)) (j ∷ []) [] is)
    ∙ append-nil (marked_in u page j)

-- A number without a fault.

bad_or : List (ℕ × ℕ) → Option ℕ → ℕ → Bool → Option PfnFault
bad_or zones before p valid = cond valid (order_fault before p) (Some (BadPfn p))

split : (zones : List (ℕ × ℕ)) (before : Option ℕ) (p : ℕ) (valid : Bool) → bad_or zones before p valid ≡ None → (valid ≡ true) × (order_fault before p ≡ None)
unfolding bad_or
split zones before p true h = (refl, h)
split zones before p false h = cc

no_fault : (zones : List (ℕ × ℕ)) (before : Option ℕ) (p : ℕ) → number_fault zones before p ≡ None → (list_any (λ q. q == p) (numbers zones) ≡ true) × (order_fault before p ≡ None)
unfolding bad_or
no_fault zones before p h = split zones before p (list_any (λ q. q == p) (numbers zones)) h

pub valid_number : (zones : List (ℕ × ℕ)) (before : Option ℕ) (p : ℕ) → number_fault zones before p ≡ None → Contains (numbers zones) p
valid_number zones before p h = member-list_any p (numbers zones) (no_fault zones before p h).0

above_before : (last p : ℕ) → order_fault (Some last) p ≡ None → last < p
above_before last p h = elim (cases_lt last p) [
  | inl lt ↦ lt
  | inr ge ↦ absurd (let some = cond-true (leb p last) (Some (PfnOrder last p)) None (le-leb p last ge) in let no : Some (PfnOrder last p) ≡ None = sym some ∙ h in cc)
]

-- a number without a fault is above all that were read before
above : (before : Option ℕ) (p : ℕ) (members : List ℕ) → IsUpTo before members → order_fault before p ≡ None → (q : ℕ) → Contains members q → q < p
above None p members up h q in' = absurd (up q in')
above (Some last) p members up h q in' = let le = up q in' in let lt = above_before last p h in omega arith

pub above_all : (zones : List (ℕ × ℕ)) (before : Option ℕ) (p : ℕ) (members : List ℕ) → IsUpTo before members → number_fault zones before p ≡ None → (q : ℕ) → Contains members q → q < p
above_all zones before p members up h = above before p members up (no_fault zones before p h).1

pub inserted_number : (zones : List (ℕ × ℕ)) (before : Option ℕ) (p : ℕ) (members : List ℕ) → IsUpTo before members → number_fault zones before p ≡ None → inserted members p ≡ members ++ p ∷ []
inserted_number zones before p members up h = inserted_above members p (above before p members up (no_fault zones before p h).1)

-- and is the last then
up_to_more : (zones : List (ℕ × ℕ)) (before : Option ℕ) (p : ℕ) (members : List ℕ) → IsUpTo before members → number_fault zones before p ≡ None → IsUpTo (Some p) (members ++ p ∷ [])
up_to_more zones before p members up h q in' =
    ⊎_elim (λ old. let lt = above before p members up (no_fault zones before p h).1 q old in let le : q ≤ p = omega arith in le)
    (λ new. ⊎_elim (λ (e : p ≡ q). let le : q ≤ p = omega arith in le) (λ none. absurd (Contains-nil q none)) (Contains-cons_cases p [] q new))
    (Contains-append_cases members (p ∷ []) q in')

up_to_same : (zones : List (ℕ × ℕ)) (before : Option ℕ) (p : ℕ) (members : List ℕ) → IsUpTo before members → number_fault zones before p ≡ None → IsUpTo (Some p) members
up_to_same zones before p members up h q in' = let lt = above before p members up (no_fault zones before p h).1 q in' in omega arith

-- The members after j numbers of a page.

pub up_to_numbers : (zones : List (ℕ × ℕ)) (u : Unpacked) (page members : List ℕ) (count j : ℕ) → j ≤ count → first_below (fault_in zones u page) count ≡ None → IsUpTo u.last members → IsUpTo (before_in u page j) (members ++ numbers_in u page j)
up_to_numbers zones u page members count zero le none up =
    subst (IsUpTo u.last) (sym (append-nil members) ∙ ap (λ t. members ++ t) (sym (numbers_in-none u page))) up
up_to_numbers zones u page members count (suc j) le none up =
    let rest = up_to_numbers zones u page members count j (omega arith) none up in
    let sound = first_below-none (fault_in zones u page) j count (omega arith) none in
    let more = up_to_more zones (before_in u page j) (number_in u page j) (members ++ numbers_in u page j) rest sound in
    subst (IsUpTo (Some (number_in u page j)))
    (append_assoc members (numbers_in u page j) (number_in u page j ∷ []) ∙ ap (λ t. members ++ t) (sym (numbers_in-more u page j)) ∙ ap (λ i. members ++ numbers_in u page i) (add-one j)) more

pub up_to_marked : (zones : List (ℕ × ℕ)) (u : Unpacked) (page members : List ℕ) (count j : ℕ) → j ≤ count → first_below (fault_in zones u page) count ≡ None → IsUpTo u.last members → IsUpTo (before_in u page j) (members ++ marked_in u page j)
up_to_marked zones u page members count zero le none up =
    subst (IsUpTo u.last) (sym (append-nil members) ∙ ap (λ t. members ++ t) (sym (marked_in-none u page))) up
up_to_marked zones u page members count (suc j) le none up =
    let rest = up_to_marked zones u page members count j (omega arith) none up in
    let sound = first_below-none (fault_in zones u page) j count (omega arith) none in
    let p = number_in u page j in
    elim (cases_Bool (is_marked_by u.format (word page j))) [
      | inl is ↦
          subst (IsUpTo (Some p))
          (append_assoc members (marked_in u page j) (p ∷ []) ∙ ap (λ t. members ++ t) (sym (marked_in-one u page j is)) ∙ ap (λ i. members ++ marked_in u page i) (add-one j))
          (up_to_more zones (before_in u page j) p (members ++ marked_in u page j) rest sound)
      | inr is ↦
          subst (IsUpTo (Some p))
          (ap (λ t. members ++ t) (sym (marked_in-same u page j is)) ∙ ap (λ i. members ++ marked_in u page i) (add-one j))
          (up_to_same zones (before_in u page j) p (members ++ marked_in u page j) rest sound)
    ]
