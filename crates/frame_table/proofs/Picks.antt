-- The first of what a test picks of the page frames from `start` on.
use Rattle.std.proofs.Common.{◌≡◌, ℕ, ◌+◌, ◌-◌, ◌<◌, ◌≤◌, List, [], ◌∷◌, ◌++◌, filter, length, length-append, take, drop, zero, suc, subst, Bool, true, eqb, ◌&&◌, inl, inr, sym, ap, ◌∙◌, arith}
use Rattle.std.proofs.lemmas.Bool.{and_from, and_left, and_right, cases_eq, cases_lt, eq-eqb, ne_eqb}
use Rattle.std.proofs.lemmas.List.{append-nil, take_all, take-append-drop, take-append-le}
use Rattle.std.proofs.Math.Seq.{take-append-add}
use Rattle.std.proofs.lemmas.List.Elements.{Contains-append_left, filter-append}
use Rattle.std.specs.List.{Contains, range_with_len}
use Rattle.definitions.specs.FrameSets.{inserted}
use Rattle.definitions.specs.Tables.{page_flags, owner_of}
use Rattle.definitions.proofs.Picks.{picks_one, inserted_picked}

pub take-append : (n : ℕ) (xs ys : List ℕ) → take n (xs ++ ys) ≡ take n xs ++ take (n - length xs) ys
take-append n xs ys = elim (cases_lt (length xs) n) [
  | inl more ↦
      let count : n ≡ length xs + (n - length xs) = omega arith in
      ap (λ k. take k (xs ++ ys)) count ∙ take-append-add xs ys (n - length xs)
      ∙ ap (λ t. t ++ take (n - length xs) ys) (sym (take_all n xs (omega arith)))
  | inr enough ↦
      let none : n - length xs ≡ 0 = omega arith in
      take-append-le n xs ys enough
      ∙ sym (ap (λ k. take n xs ++ take k ys) none ∙ append-nil (take n xs))
]

range-split : (a k n : ℕ) → range_with_len a (k + n) ≡ range_with_len a k ++ range_with_len (a + k) n
range-split a zero n =
    let count : 0 + n ≡ n = omega arith in
    let start : a ≡ a + 0 = omega arith in
    ap (range_with_len a) count ∙ ap (λ b. range_with_len b n) start
range-split a (suc k) n =
    let count : suc k + n ≡ suc (k + n) = omega arith in
    let start : a + 1 + k ≡ a + suc k = omega arith in
    ap (range_with_len a) count ∙ ap (λ t. a ∷ t) (range-split (a + 1) k n)
    ∙ ap (λ b. a ∷ (range_with_len (a + 1) k ++ range_with_len b n)) start

-- what is picked up to p comes first
picked-split : (test : ℕ → Bool) (start p count : ℕ) → start ≤ p → p < start + count → filter test (range_with_len start count) ≡ filter test (range_with_len start (p - start)) ++ filter test (range_with_len (start + (p - start)) (count - (p - start)))
picked-split test start p count le lt =
    let parts : count ≡ p - start + (count - (p - start)) = omega arith in
    ap (λ n. filter test (range_with_len start n)) parts
    ∙ ap (filter test) (range-split start (p - start) (count - (p - start)))
    ∙ filter-append test (range_with_len start (p - start)) (range_with_len (start + (p - start)) (count - (p - start)))

-- the first `most` are found once `most` were picked
pub take-picked : (test : ℕ → Bool) (start p count most : ℕ) → start ≤ p → p < start + count → most ≤ length (filter test (range_with_len start (p - start))) → take most (filter test (range_with_len start count)) ≡ take most (filter test (range_with_len start (p - start)))
take-picked test start p count most le lt found =
    ap (take most) (picked-split test start p count le lt)
    ∙ take-append-le most (filter test (range_with_len start (p - start))) (filter test (range_with_len (start + (p - start)) (count - (p - start)))) found

pub length-picked : (test : ℕ → Bool) (start p count : ℕ) → start ≤ p → p < start + count → length (filter test (range_with_len start (p - start))) ≤ length (filter test (range_with_len start count))
length-picked test start p count le lt =
    let parts = ap length (picked-split test start p count le lt) in
    let sum = length-append (filter test (range_with_len start (p - start))) (filter test (range_with_len (start + (p - start)) (count - (p - start)))) in
    omega arith

-- The first `most` of what is picked, one page frame more, while fewer were picked.

pub inserted_first : (test : ℕ → Bool) (old members : List ℕ) (start p most : ℕ) → start ≤ p → ((q : ℕ) → Contains old q → q < start) → members ≡ old ++ take most (filter test (range_with_len start (p - start))) → length (filter test (range_with_len start (p - start))) < most → test p ≡ true → inserted members p ≡ old ++ take most (filter test (range_with_len start (p + 1 - start)))
inserted_first test old members start p most le below is fewer pass =
    let picked = filter test (range_with_len start (p - start)) in
    let whole = is ∙ ap (λ t. old ++ t) (take_all most picked (omega arith)) in
    let more = picks_one test start p le pass in
    let sum = length-append picked (p ∷ []) in
    let count = ap length more in
    inserted_picked test old members start p le below whole pass
    ∙ ap (λ t. old ++ t) (sym (take_all most (filter test (range_with_len start (p + 1 - start))) (omega arith)))

pub Contains-from_take : (n : ℕ) (xs : List ℕ) (x : ℕ) → Contains (take n xs) x → Contains xs x
Contains-from_take n xs x in' =
    subst (λ (ys : List ℕ). Contains ys x) (take-append-drop n xs) (Contains-append_left (take n xs) (drop n xs) x in')

-- an entry is that of a free page frame exactly where its flags are FREE and it has no owner
pub free-by_parts : (entry flags owner : ℕ) → flags ≡ page_flags entry → owner ≡ owner_of entry → (eqb flags 1 && eqb owner 0) ≡ eqb entry 1
free-by_parts entry flags owner f o = elim (cases_eq entry 1) [
  | inl e ↦ and_from (eqb flags 1) (eqb owner 0) (eq-eqb flags 1 (omega arith)) (eq-eqb owner 0 (omega arith)) ∙ sym (eq-eqb entry 1 e)
  | inr ne ↦
      elim (cases_eq owner 0) [
        | inl e ↦ and_left (eqb flags 1) (eqb owner 0) (ne_eqb flags 1 (λ is. ne (omega arith))) ∙ sym (ne_eqb entry 1 ne)
        | inr some ↦ and_right (eqb flags 1) (eqb owner 0) (ne_eqb owner 0 some) ∙ sym (ne_eqb entry 1 ne)
      ]
]
