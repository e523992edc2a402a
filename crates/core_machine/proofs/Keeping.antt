-- One element more of what a test keeps of a list.
use Rattle.std.proofs.Common.{◌≡◌, ℕ, ◌+◌, ◌<◌, Bool, true, false, cond, List, [], ◌∷◌, ◌++◌, length, get_or, take, filter, map, refl, sym, ap, ◌∙◌, arith, append-nil}
use Rattle.std.proofs.lemmas.List.{map-append}
use Rattle.std.proofs.lemmas.List.Elements.{filter_more}
use Rattle.std.proofs.lemmas.List.FromFn.{filter_of_map_range_with_len_more}
use Rattle.std.specs.List.{range_with_len}

same : {A : Type 0} (xs : List A) → map (λ x. x) xs ≡ xs
same [] = refl
same (x ∷ xs) = ap (λ rest. x ∷ rest) (same xs)

-- of numbers
number_more : (p : ℕ → Bool) (n : ℕ) → filter p (range_with_len 0 (n + 1)) ≡ filter p (range_with_len 0 n) ++ cond (p n) (n ∷ []) []
number_more p n =
    ap (filter p) (sym (same (range_with_len 0 (n + 1)))) ∙ filter_of_map_range_with_len_more p (λ x. x) 0 n n (omega arith)
    ∙ ap (λ xs. filter p xs ++ cond (p n) (n ∷ []) []) (same (range_with_len 0 n))

pub number_kept : {A : Type 0} (f : ℕ → A) (p : ℕ → Bool) (n : ℕ) → p n ≡ true → map f (filter p (range_with_len 0 (n + 1))) ≡ map f (filter p (range_with_len 0 n)) ++ f n ∷ []
number_kept f p n e =
    ap (map f) (number_more p n ∙ ap (λ (b : Bool). filter p (range_with_len 0 n) ++ cond b (n ∷ []) []) e)
    ∙ map-append f (filter p (range_with_len 0 n)) (n ∷ [])

pub number_left : {A : Type 0} (f : ℕ → A) (p : ℕ → Bool) (n : ℕ) → p n ≡ false → map f (filter p (range_with_len 0 (n + 1))) ≡ map f (filter p (range_with_len 0 n))
number_left f p n e =
    ap (map f) (number_more p n ∙ ap (λ (b : Bool). filter p (range_with_len 0 n) ++ cond b (n ∷ []) []) e ∙ append-nil (filter p (range_with_len 0 n)))

-- of elements
pub element_kept : {A B : Type 0} (f : A → B) (p : A → Bool) (xs : List A) (i : ℕ) (d : A) → i < length xs → p (get_or xs i d) ≡ true →
    map f (filter p (take (i + 1) xs)) ≡ map f (filter p (take i xs)) ++ f (get_or xs i d) ∷ []
element_kept f p xs i d lt e =
    ap (map f) (filter_more p xs i d lt ∙ ap (λ (b : Bool). filter p (take i xs) ++ cond b (get_or xs i d ∷ []) []) e)
    ∙ map-append f (filter p (take i xs)) (get_or xs i d ∷ [])

pub element_left : {A B : Type 0} (f : A → B) (p : A → Bool) (xs : List A) (i : ℕ) (d : A) → i < length xs → p (get_or xs i d) ≡ false →
    map f (filter p (take (i + 1) xs)) ≡ map f (filter p (take i xs))
element_left f p xs i d lt e =
    ap (map f) (filter_more p xs i d lt ∙ ap (λ (b : Bool). filter p (take i xs) ++ cond b (get_or xs i d ∷ []) []) e ∙ append-nil (filter p (take i xs)))
