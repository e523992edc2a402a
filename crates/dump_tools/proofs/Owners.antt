-- The tasks that have some, task by task, and counts number by number.
use Rattle.std.proofs.Common.{◌≡◌, ℕ, zero, suc, ◌+◌, ◌-◌, ◌<◌, ◌≤◌, Bool, true, false, cond, eqb, List, [], ◌∷◌, ◌++◌, length, filter, refl, sym, ap, ◌∙◌, subst, append-nil, length-append, arith}
use Rattle.std.proofs.lemmas.Bool.{cond-true, cond-false}
use Rattle.std.proofs.Math.Dec.{eqb-suc-zero}
use Rattle.std.proofs.lemmas.Grind.{flat_map-append}
use Rattle.std.specs.List.{flat_map, range_with_len}
use Rattle.definitions.proofs.ZoneLists.{filter-range_more}
use Rattle.dump_tools.specs.Facts.{if_some, owned_by, tasks}
use Rattle.dump_tools.specs.declared.facts.fact.Fact.{Fact}
use Rattle.byte_streams.proofs.Joined.{two_parts}

range-more : (a n : ℕ) → range_with_len a (n + 1) ≡ range_with_len a n ++ (a + n) ∷ []
range-more a zero = let same : a ≡ a + 0 = omega arith in ap (λ (x : ℕ). x ∷ []) same
range-more a (suc n) =
    let more : suc n + 1 ≡ suc (n + 1) = omega arith in
    let last : a + 1 + n ≡ a + suc n = omega arith in
    ap (range_with_len a) more ∙ ap (λ (t : List ℕ). a ∷ t) (range-more (a + 1) n)
    ∙ ap (λ (x : ℕ). a ∷ (range_with_len (a + 1) n ++ x ∷ [])) last

-- one task more
owned_more : (says : ℕ → ℕ → Fact) (count : ℕ → ℕ) (t : ℕ) → 1 ≤ t → owned_by says count (range_with_len 1 (t + 1 - 1)) ≡ owned_by says count (range_with_len 1 (t - 1)) ++ if_some (count t) (says t (count t))
owned_more says count t le =
    let f = λ (t : ℕ). if_some (count t) (says t (count t)) in
    let next : t + 1 - 1 ≡ t - 1 + 1 = omega arith in
    let last : 1 + (t - 1) ≡ t = omega arith in
    ap (λ (n : ℕ). flat_map f (range_with_len 1 n)) next
    ∙ ap (flat_map f) (range-more 1 (t - 1))
    ∙ flat_map-append f (range_with_len 1 (t - 1)) ((1 + (t - 1)) ∷ [])
    ∙ ap (λ (xs : List Fact). flat_map f (range_with_len 1 (t - 1)) ++ xs) (append-nil (f (1 + (t - 1))) ∙ ap f last)

some_of : (n : ℕ) (f : Fact) → 0 < n → if_some n f ≡ f ∷ []
some_of zero f lt = absurd (omega arith)
some_of (suc n) f lt = cond-false (eqb (suc n) 0) [] (f ∷ []) (eqb-suc-zero n)

none_of : (n : ℕ) (f : Fact) → n ≤ 0 → if_some n f ≡ []
none_of zero f le = refl
none_of (suc n) f le = absurd (omega arith)

-- a task that has some is added, one that has none is left out
pub owned_some : (says : ℕ → ℕ → Fact) (count : ℕ → ℕ) (t n : ℕ) (old facts new : List Fact) → 1 ≤ t → n ≡ count t → 0 < n → facts ≡ old ++ owned_by says count (range_with_len 1 (t - 1)) → new ≡ facts ++ says t n ∷ [] → new ≡ old ++ owned_by says count (range_with_len 1 (t + 1 - 1))
owned_some says count t n old facts new le is some p q =
    let here : says t n ∷ [] ≡ if_some (count t) (says t (count t)) =
    ap (λ (m : ℕ). says t m ∷ []) is ∙ sym (some_of (count t) (says t (count t)) (subst (λ (m : ℕ). 0 < m) is some)) in
    two_parts (owned_by says count (range_with_len 1 (t - 1))) (says t n ∷ []) old facts new p q
    ∙ ap (λ (xs : List Fact). old ++ (owned_by says count (range_with_len 1 (t - 1)) ++ xs)) here
    ∙ ap (λ (xs : List Fact). old ++ xs) (sym (owned_more says count t le))

pub owned_none : (says : ℕ → ℕ → Fact) (count : ℕ → ℕ) (t n : ℕ) (old facts new : List Fact) → 1 ≤ t → n ≡ count t → n ≤ 0 → facts ≡ old ++ owned_by says count (range_with_len 1 (t - 1)) → new ≡ facts → new ≡ old ++ owned_by says count (range_with_len 1 (t + 1 - 1))
owned_none says count t n old facts new le is none p q =
    let before = owned_by says count (range_with_len 1 (t - 1)) in
    let here : if_some (count t) (says t (count t)) ≡ [] = none_of (count t) (says t (count t)) (subst (λ (m : ℕ). m ≤ 0) is none) in
    q ∙ p ∙ ap (λ (xs : List Fact). old ++ xs) (sym (append-nil before) ∙ ap (λ (xs : List Fact). before ++ xs) (sym here) ∙ sym (owned_more says count t le))

-- the last task
pub owned_all : (says : ℕ → ℕ → Fact) (count : ℕ → ℕ) (t : ℕ) (old facts : List Fact) → t ≡ 65 → facts ≡ old ++ owned_by says count (range_with_len 1 (t - 1)) → facts ≡ old ++ owned_by says count tasks
unfolding tasks
owned_all says count t old facts last p =
    let all : t - 1 ≡ 64 = omega arith in
    p ∙ ap (λ (n : ℕ). old ++ owned_by says count (range_with_len 1 n)) all

-- Of the numbers below n + 1 a test picks one more than of those below n, or as many.

one_or_none : (b : Bool) (x : ℕ) → length (cond b (x ∷ []) []) ≡ cond b 1 0
one_or_none true x = refl
one_or_none false x = refl

counted_more : (test : ℕ → Bool) (n : ℕ) → length (filter test (range_with_len 0 (n + 1))) ≡ length (filter test (range_with_len 0 n)) + cond (test n) 1 0
counted_more test n =
    let same : 0 + n ≡ n = omega arith in
    ap length (filter-range_more test 0 n)
    ∙ length-append (filter test (range_with_len 0 n)) (cond (test (0 + n)) ((0 + n) ∷ []) [])
    ∙ ap (λ (k : ℕ). length (filter test (range_with_len 0 n)) + k) (one_or_none (test (0 + n)) (0 + n) ∙ ap (λ (k : ℕ). cond (test k) 1 0) same)

pub counted_one : (test : ℕ → Bool) (n : ℕ) → test n ≡ true → length (filter test (range_with_len 0 (n + 1))) ≡ length (filter test (range_with_len 0 n)) + 1
counted_one test n is = counted_more test n ∙ ap (λ (k : ℕ). length (filter test (range_with_len 0 n)) + k) (cond-true (test n) 1 0 is)

pub counted_none : (test : ℕ → Bool) (n : ℕ) → test n ≡ false → length (filter test (range_with_len 0 (n + 1))) ≡ length (filter test (range_with_len 0 n))
counted_none test n is =
    let more = counted_more test n ∙ ap (λ (k : ℕ). length (filter test (range_with_len 0 n)) + k) (cond-false (test n) 1 0 is) in
    omega (arith, more)
