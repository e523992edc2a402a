-- Laws of the maximal runs of an ascending list of numbers.
use Rattle.std.proofs.Common.{◌≡◌, ℕ, ◌+◌, ◌<◌, ◌≤◌, ◌⊎◌, zero, suc, List, [], ◌∷◌, ◌++◌, Bool, true, false, cond, eqb, refl, sym, ap, ◌∙◌, subst, inl, inr, arith, add-one, add-zero}
use Rattle.std.proofs.lemmas.Bool.{cases_eq, cond-true, cond-false, eq-eqb, ne_eqb}
use Rattle.std.specs.List.{Contains, range_with_len}
use Rattle.definitions.specs.Zones.{numbers}
use Rattle.definitions.specs.FreeRuns.{in_front, runs_of}
use Rattle.definitions.proofs.Ascending.{Contains-head}

runs_of-cons : (s : ℕ) (slots : List ℕ) → runs_of (s ∷ slots) ≡ in_front s (runs_of slots)
unfolding runs_of
runs_of-cons s slots = refl

pub runs_of-nil : runs_of [] ≡ []
unfolding runs_of
runs_of-nil = refl

-- The runs have exactly the numbers of the list.

numbers-in_front : (s : ℕ) (runs : List (ℕ × ℕ)) → numbers (in_front s runs) ≡ s ∷ numbers runs
numbers-in_front s [] = refl
numbers-in_front s (run ∷ runs) = elim (cases_eq run.0 (s + 1)) [
  | inl e ↦
      ap numbers (cond-true (eqb run.0 (s + 1)) ((s, run.1 + 1) ∷ runs) ((s, 1) ∷ run ∷ runs) (eq-eqb run.0 (s + 1) e))
      ∙ ap (λ (n : ℕ). range_with_len s n ++ numbers runs) (add-one run.1)
      ∙ ap (λ (a : ℕ). s ∷ (range_with_len a run.1 ++ numbers runs)) (sym e)
  | inr ne ↦ ap numbers (cond-false (eqb run.0 (s + 1)) ((s, run.1 + 1) ∷ runs) ((s, 1) ∷ run ∷ runs) (ne_eqb run.0 (s + 1) ne))
]

pub numbers-runs_of : (slots : List ℕ) → numbers (runs_of slots) ≡ slots
unfolding runs_of
numbers-runs_of [] = refl
numbers-runs_of (s ∷ slots) = numbers-in_front s (runs_of slots) ∙ ap (λ (rest : List ℕ). s ∷ rest) (numbers-runs_of slots)

-- lists with the same runs are one
pub same_runs : (xs ys : List ℕ) → runs_of xs ≡ runs_of ys → xs ≡ ys
same_runs xs ys e = sym (numbers-runs_of xs) ∙ ap numbers e ∙ numbers-runs_of ys

-- The first run.

in_front-head : (s : ℕ) (runs : List (ℕ × ℕ)) → (n : ℕ) × (rest : List (ℕ × ℕ)) × (in_front s runs ≡ (s, n) ∷ rest)
in_front-head s [] = (1, [], refl)
in_front-head s (run ∷ runs) = elim (cases_eq run.0 (s + 1)) [
  | inl e ↦ (run.1 + 1, runs, cond-true (eqb run.0 (s + 1)) ((s, run.1 + 1) ∷ runs) ((s, 1) ∷ run ∷ runs) (eq-eqb run.0 (s + 1) e))
  | inr ne ↦ (1, run ∷ runs, cond-false (eqb run.0 (s + 1)) ((s, run.1 + 1) ∷ runs) ((s, 1) ∷ run ∷ runs) (ne_eqb run.0 (s + 1) ne))
]

in_front-apart : (s : ℕ) (slots : List ℕ) → ((y : ℕ) → Contains slots y → s + 1 < y) → in_front s (runs_of slots) ≡ (s, 1) ∷ runs_of slots
unfolding runs_of
in_front-apart s [] apart = refl
in_front-apart s (y ∷ slots) apart =
    let head = in_front-head y (runs_of slots) in
    let above = apart y (Contains-head y slots) in
    let alone : in_front s ((y, head.0) ∷ head.1) ≡ (s, 1) ∷ (y, head.0) ∷ head.1 =
    cond-false (eqb y (s + 1)) ((s, head.0 + 1) ∷ head.1) ((s, 1) ∷ (y, head.0) ∷ head.1) (ne_eqb y (s + 1) (λ e. omega arith)) in
    ap (in_front s) head.2 ∙ alone ∙ ap (λ (runs : List (ℕ × ℕ)). (s, 1) ∷ runs) (sym head.2)

-- n + 1 numbers in a row, and none right after them
pub runs_of-first : (s n : ℕ) (slots : List ℕ) → ((y : ℕ) → Contains slots y → s + n + 1 < y) → runs_of (range_with_len s (n + 1) ++ slots) ≡ (s, n + 1) ∷ runs_of slots
runs_of-first s zero slots apart = runs_of-cons s slots ∙ in_front-apart s slots (λ y in'. let above = apart y in' in omega arith)
runs_of-first s (suc n) slots apart =
    let more : suc n + 1 ≡ suc (n + 1) = omega arith in
    let rest = runs_of-first (s + 1) n slots (λ y in'. let above = apart y in' in omega arith) in
    let joined : in_front s ((s + 1, n + 1) ∷ runs_of slots) ≡ (s, n + 1 + 1) ∷ runs_of slots =
    cond-true (eqb (s + 1) (s + 1)) ((s, n + 1 + 1) ∷ runs_of slots) ((s, 1) ∷ (s + 1, n + 1) ∷ runs_of slots) (eq-eqb (s + 1) (s + 1) refl) in
    let size : n + 1 + 1 ≡ suc n + 1 = omega arith in
    ap (λ (m : ℕ). runs_of (range_with_len s m ++ slots)) more
    ∙ runs_of-cons s (range_with_len (s + 1) (n + 1) ++ slots)
    ∙ ap (in_front s) rest ∙ joined ∙ ap (λ (m : ℕ). (s, m) ∷ runs_of slots) size
