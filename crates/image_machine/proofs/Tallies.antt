-- How many numbers of a run pass a test.
use Rattle.std.proofs.Common.{◌≡◌, ℕ, ◌+◌, ◌<◌, ◌≤◌, zero, suc, Bool, true, false, cond, List, ◌∷◌, length, map, filter, ap, ap₂, ◌∙◌, refl, arith}
use Rattle.std.specs.List.{range_with_len}

abbrev pub one : Bool → ℕ
one true = 1
one false = 0

-- how many of n numbers from a on pass the test
pub tally : (ℕ → Bool) → (a n : ℕ) → ℕ
tally t a zero = 0
tally t a (suc n) = one (t a) + tally t (a + 1) n

-- none of no numbers
pub tally_empty : (t : ℕ → Bool) (a : ℕ) → tally t a 0 ≡ 0
unfolding tally
tally_empty t a = refl

kept_more : {A : Type 0} (b : Bool) (x : A) (xs : List A) → length (cond b (x ∷ xs) xs) ≡ one b + length xs
kept_more true x xs = omega arith
kept_more false x xs = omega arith

pub kept_of_map : {A : Type 0} (p : A → Bool) (f : ℕ → A) (a n : ℕ) → length (filter p (map f (range_with_len a n))) ≡ tally (λ j. p (f j)) a n
unfolding tally
kept_of_map p f a zero = refl
kept_of_map p f a (suc n) =
    kept_more (p (f a)) (f a) (filter p (map f (range_with_len (a + 1) n))) ∙ ap (λ (k : ℕ). one (p (f a)) + k) (kept_of_map p f (a + 1) n)

pub kept_of_run : (t : ℕ → Bool) (a n : ℕ) → length (filter t (range_with_len a n)) ≡ tally t a n
unfolding tally
kept_of_run t a zero = refl
kept_of_run t a (suc n) =
    kept_more (t a) a (filter t (range_with_len (a + 1) n)) ∙ ap (λ (k : ℕ). one (t a) + k) (kept_of_run t (a + 1) n)

pub tally_split : (t : ℕ → Bool) (a x y : ℕ) → tally t a (x + y) ≡ tally t a x + tally t (a + x) y
unfolding tally
tally_split t a zero y = ap₂ (λ (b n : ℕ). tally t b n) (let e : a ≡ a + 0 = omega arith in e) (let e : 0 + y ≡ y = omega arith in e) ∙ omega arith
tally_split t a (suc x) y =
    let more : suc x + y ≡ suc (x + y) = omega arith in
    let next : a + 1 + x ≡ a + suc x = omega arith in
    let rest = tally_split t (a + 1) x y in
    let from = ap (λ (b : ℕ). tally t b y) next in
    ap (tally t a) more ∙ omega arith

pub tally_same : (t u : ℕ → Bool) (a n : ℕ) → ((j : ℕ) → a ≤ j → j < a + n → t j ≡ u j) → tally t a n ≡ tally u a n
unfolding tally
tally_same t u a zero each = refl
tally_same t u a (suc n) each =
    ap₂ (λ (b : Bool) (k : ℕ). one b + k) (each a (omega arith) (omega arith)) (tally_same t u (a + 1) n (λ j le lt. each j (omega arith) (omega arith)))

pub tally_shift : (t : ℕ → Bool) (a b n : ℕ) → tally t (a + b) n ≡ tally (λ i. t (a + i)) b n
unfolding tally
tally_shift t a b zero = refl
tally_shift t a b (suc n) =
    let next : a + b + 1 ≡ a + (b + 1) = omega arith in
    ap (λ (k : ℕ). one (t (a + b)) + k) (ap (λ (c : ℕ). tally t c n) next ∙ tally_shift t a (b + 1) n)

pub tally_none : (t : ℕ → Bool) (a n : ℕ) → ((j : ℕ) → a ≤ j → t j ≡ false) → tally t a n ≡ 0
unfolding tally
tally_none t a zero none = refl
tally_none t a (suc n) none =
    ap₂ (λ (b : Bool) (k : ℕ). one b + k) (none a (omega arith)) (tally_none t (a + 1) n (λ j le. none j (omega arith)))

one_few : (b : Bool) → one b ≤ 1
one_few true = omega arith
one_few false = omega arith

pub tally_few : (t : ℕ → Bool) (a n : ℕ) → tally t a n ≤ n
unfolding tally
tally_few t a zero = omega arith
tally_few t a (suc n) = omega (arith, one_few (t a), tally_few t (a + 1) n)

-- where none passes from a number on
pub tally_end : (t : ℕ → Bool) (n more : ℕ) → ((j : ℕ) → n ≤ j → t j ≡ false) → tally t 0 (n + more) ≡ tally t 0 n
tally_end t n more none = tally_split t 0 n more ∙ omega (arith, tally_none t (0 + n) more (λ j le. none j (omega arith)))
