-- Tests of the numbers of a list.
use Rattle.std.proofs.Common.{◌≡◌, ℕ, ◌<◌, ◌≤◌, Bool, true, false, ◌&&◌, ◌||◌, leb, List, [], ◌∷◌, refl, sym, ap, ◌∙◌, inl, inr, arith}
use Rattle.std.proofs.lemmas.Bool.{and_parts, or_cases, or_right, false≢true, leb-true, le-leb}
use Rattle.std.specs.Bool.{Decides}
use Rattle.std.specs.List.{Contains, list_all, list_any, range_with_len}
use Rattle.definitions.proofs.Ascending.{Contains-nil, Contains-head, Contains-tail, Contains-cons_cases}
use Rattle.definitions.proofs.ZoneNumbers.{Contains-range, range-bounds}

pub any_at : (test : ℕ → Bool) (xs : List ℕ) (x : ℕ) → Contains xs x → test x ≡ true → list_any test xs ≡ true
any_at test [] x in' e = absurd (Contains-nil x in')
any_at test (y ∷ ys) x in' e =
    elim (Contains-cons_cases y ys x in') [
      | inl here ↦ ap (λ (b : Bool). b || list_any test ys) (ap test here ∙ e)
      | inr rest ↦ or_right (test y) (list_any test ys) (any_at test ys x rest e)
    ]

pub any_none : (test : ℕ → Bool) (xs : List ℕ) → ((x : ℕ) → Contains xs x → test x ≡ false) → list_any test xs ≡ false
any_none test [] out = refl
any_none test (y ∷ ys) out =
    ap (λ (b : Bool). b || list_any test ys) (out y (Contains-head y ys)) ∙ any_none test ys (λ x in'. out x (Contains-tail y ys x in'))

pub any_found : (test : ℕ → Bool) (xs : List ℕ) → list_any test xs ≡ true → (x : ℕ) × Contains xs x × (test x ≡ true)
any_found test [] e = absurd (false≢true e)
any_found test (y ∷ ys) e =
    elim (or_cases (test y) (list_any test ys) e) [
      | inl here ↦ (y, Contains-head y ys, here)
      | inr rest ↦ let found = any_found test ys rest in (found.0, Contains-tail y ys found.0 found.1, found.2)
    ]

pub all_each : (test : ℕ → Bool) (xs : List ℕ) (x : ℕ) → list_all test xs ≡ true → Contains xs x → test x ≡ true
all_each test [] x all in' = absurd (Contains-nil x in')
all_each test (y ∷ ys) x all in' =
    let parts = and_parts (test y) (list_all test ys) all in
    elim (Contains-cons_cases y ys x in') [ inl here ↦ ap test (sym here) ∙ parts.0 | inr rest ↦ all_each test ys x parts.1 rest ]

pub each_all : (test : ℕ → Bool) (xs : List ℕ) → ((x : ℕ) → Contains xs x → test x ≡ true) → list_all test xs ≡ true
each_all test [] each = refl
each_all test (y ∷ ys) each =
    ap (λ (b : Bool). b && list_all test ys) (each y (Contains-head y ys)) ∙ each_all test ys (λ x in'. each x (Contains-tail y ys x in'))

-- What such tests decide.

pub Decides-leb : (a b : ℕ) → Decides (leb a b) (a ≤ b)
Decides-leb a b = (leb-true a b, le-leb a b)

pub Decides-all : (test : ℕ → Bool) (P : ℕ → Type 0) (xs : List ℕ) → ((x : ℕ) → Contains xs x → Decides (test x) (P x)) → Decides (list_all test xs) ((x : ℕ) → Contains xs x → P x)
Decides-all test P xs each = (λ e x in'. (each x in').0 (all_each test xs x e in'), λ all. each_all test xs (λ x in'. (each x in').1 (all x in')))

pub Decides-any : (test : ℕ → Bool) (P : ℕ → Type 0) (xs : List ℕ) → ((x : ℕ) → Decides (test x) (P x)) → Decides (list_any test xs) ((x : ℕ) × Contains xs x × P x)
Decides-any test P xs each = (
  λ e. let found = any_found test xs e in (found.0, found.1, (each found.0).0 found.2),
  λ some. any_at test xs some.0 some.1 ((each some.0).1 some.2),
)

-- each number below n
pub Decides-below : (n : ℕ) (test : ℕ → Bool) (P : ℕ → Type 0) → ((k : ℕ) → k < n → Decides (test k) (P k)) → Decides (list_all test (range_with_len 0 n)) ((k : ℕ) → k < n → P k)
Decides-below n test P each =
    let below : (k : ℕ) → Contains (range_with_len 0 n) k → k < n = λ k in'. let bounds = range-bounds 0 n k in' in let high = bounds.1 in omega arith in
    let within : (k : ℕ) → k < n → Contains (range_with_len 0 n) k = λ k lt. Contains-range 0 n k (omega arith) (omega arith) in (
      λ e k lt. (each k lt).0 (all_each test (range_with_len 0 n) k e (within k lt)),
      λ all. each_all test (range_with_len 0 n) (λ k in'. (each k (below k in')).1 (all k (below k in'))),
    )
