-- What a test picks of the numbers from `start` on, one number more.
use Rattle.std.proofs.Common.{◌≡◌, ℕ, ◌+◌, ◌-◌, ◌<◌, ◌≤◌, List, [], ◌∷◌, ◌++◌, filter, Bool, true, false, cond, sym, ap, ◌∙◌, ⊎_elim, append_assoc, arith}
use Rattle.std.proofs.lemmas.Bool.{cond-true, cond-false}
use Rattle.std.proofs.lemmas.List.{append-nil}
use Rattle.std.proofs.lemmas.List.Elements.{Contains-append_cases}
use Rattle.std.specs.List.{Contains, range_with_len}
use Rattle.definitions.specs.FrameSets.{inserted}
use Rattle.definitions.proofs.FrameSets.{inserted_above, Contains-from_filter}
use Rattle.definitions.proofs.ZoneNumbers.{range-bounds}
use Rattle.definitions.proofs.ZoneLists.{filter-range_more}

picks_more : (test : ℕ → Bool) (start p : ℕ) → start ≤ p → filter test (range_with_len start (p + 1 - start)) ≡ filter test (range_with_len start (p - start)) ++ cond (test p) (p ∷ []) []
picks_more test start p le =
    let count : p + 1 - start ≡ p - start + 1 = omega arith in
    let last : start + (p - start) ≡ p = omega arith in
    ap (λ n. filter test (range_with_len start n)) count
    ∙ filter-range_more test start (p - start)
    ∙ ap (λ q. filter test (range_with_len start (p - start)) ++ cond (test q) (q ∷ []) []) last

pub picks_one : (test : ℕ → Bool) (start p : ℕ) → start ≤ p → test p ≡ true → filter test (range_with_len start (p + 1 - start)) ≡ filter test (range_with_len start (p - start)) ++ p ∷ []
picks_one test start p le pass =
    picks_more test start p le ∙ ap (λ t. filter test (range_with_len start (p - start)) ++ t) (cond-true (test p) (p ∷ []) [] pass)

pub picks_none : (test : ℕ → Bool) (start p : ℕ) → start ≤ p → test p ≡ false → filter test (range_with_len start (p + 1 - start)) ≡ filter test (range_with_len start (p - start))
picks_none test start p le fail =
    picks_more test start p le ∙ ap (λ t. filter test (range_with_len start (p - start)) ++ t) (cond-false (test p) (p ∷ []) [] fail)
    ∙ append-nil (filter test (range_with_len start (p - start)))

-- a set of members below `start`, and then of what the test picks
pub inserted_picked : (test : ℕ → Bool) (old members : List ℕ) (start p : ℕ) → start ≤ p → ((q : ℕ) → Contains old q → q < start) → members ≡ old ++ filter test (range_with_len start (p - start)) → test p ≡ true → inserted members p ≡ old ++ filter test (range_with_len start (p + 1 - start))
inserted_picked test old members start p le below is pass =
    let picked = filter test (range_with_len start (p - start)) in
    ap (λ ms. inserted ms p) is
    ∙ inserted_above (old ++ picked) p (λ q in'. ⊎_elim
    (λ h. let low = below q h in omega arith)
    (λ h. let within = range-bounds start (p - start) q (Contains-from_filter test (range_with_len start (p - start)) q h).0 in let high = within.1 in omega arith)
    (Contains-append_cases old picked q in'))
    ∙ append_assoc old picked (p ∷ [])
    ∙ ap (λ t. old ++ t) (sym (picks_one test start p le pass))
