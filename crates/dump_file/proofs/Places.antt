-- What stands where in a text that was put together of pieces.
use Rattle.std.proofs.Common.{◌≡◌, ℕ, zero, suc, ◌+◌, ◌*◌, ◌^◌, ◌<◌, List, [], ◌∷◌, ◌++◌, length, take, drop, get_or, sym, ap, ◌∙◌, subst, append_assoc, append-nil, length-append, mul-suc, mul-zero, arith}
use Rattle.std.proofs.lemmas.List.{drop-drop, drop_at, take_at}
use Rattle.std.specs.List.{flat_map}
use Rattle.byteorder.specs.Endian.{little_number}
use Rattle.byteorder.specs.Numbers.{little_number-reads_back}
use Rattle.definitions.specs.Bytes.{bytes_at, number_at}
use Rattle.dump_file.specs.Fields.{number}
use Rattle.dump_file.specs.Written.{number_bytes}

-- at byte k of the text stands this piece, and then the rest
pub record StandsAt (text : List ℕ) (k : ℕ) (piece : List ℕ) : Type 0 where
  pub rest : List ℕ
  pub is : drop k text ≡ piece ++ rest

pub whole_stands : (text : List ℕ) → StandsAt text 0 text
whole_stands text = record { rest = []; is = sym (append-nil text) }

pub first_stands : (text : List ℕ) (k : ℕ) (xs ys : List ℕ) → StandsAt text k (xs ++ ys) → StandsAt text k xs
first_stands text k xs ys h = record { rest = ys ++ h.rest; is = h.is ∙ append_assoc xs ys h.rest }

pub second_stands : (text : List ℕ) (k : ℕ) (xs ys : List ℕ) (n : ℕ) → length xs ≡ n → StandsAt text k (xs ++ ys) → StandsAt text (k + n) ys
second_stands text k xs ys n size h = record {
  rest = h.rest;
  is = sym (drop-drop n k text) ∙ ap (drop n) (h.is ∙ append_assoc xs ys h.rest) ∙ drop_at xs (ys ++ h.rest) n size;
}

-- the piece of entry j, where each entry has a piece of n bytes
pub piece_stands : {X : Type 0} (f : X → List ℕ) (n : ℕ) (text : List ℕ) (k : ℕ) (xs : List X) (j : ℕ) (d : X) → ((i : ℕ) → i < length xs → length (f (get_or xs i d)) ≡ n) → j < length xs → StandsAt text k (flat_map f xs) → StandsAt text (k + n * j) (f (get_or xs j d))
piece_stands f n text k [] j d each lt h = absurd (omega (arith, lt))
piece_stands f n text k (x ∷ xs) zero d each lt h =
    let here : k ≡ k + n * 0 = omega (arith, mul-zero n) in
    subst (λ (i : ℕ). StandsAt text i (f x)) here (first_stands text k (f x) (flat_map f xs) h)
piece_stands f n text k (x ∷ xs) (suc j) d each lt h =
    let next : k + n + n * j ≡ k + n * suc j = omega (arith, mul-suc n j) in
    subst (λ (i : ℕ). StandsAt text i (f (get_or xs j d))) next
    (piece_stands f n text (k + n) xs j d (λ i i_lt. each (suc i) (omega (arith, i_lt))) (omega (arith, lt))
    (second_stands text k (f x) (flat_map f xs) n (each 0 (omega arith)) h))

pub length-pieces : {X : Type 0} (f : X → List ℕ) (n : ℕ) (xs : List X) (d : X) → ((i : ℕ) → i < length xs → length (f (get_or xs i d)) ≡ n) → length (flat_map f xs) ≡ n * length xs
length-pieces f n [] d each = omega (arith, mul-zero n)
length-pieces f n (x ∷ xs) d each =
    let first : length (f x) ≡ n = each 0 (omega arith) in
    let rest : length (flat_map f xs) ≡ n * length xs = length-pieces f n xs d (λ i lt. each (suc i) (omega (arith, lt))) in
    omega (arith, length-append (f x) (flat_map f xs), first, rest, mul-suc n (length xs))

-- a number of 4 bytes is read back
pub number_stands : (text : List ℕ) (k n : ℕ) → n < 2 ^ 32 → StandsAt text k (number_bytes n) → number text k ≡ n
unfolding number_at number_bytes
number_stands text k n lt h = ap (little_number 4) h.is ∙ little_number-reads_back 4 n h.rest lt

pub bytes_stand : (text : List ℕ) (k n : ℕ) (piece : List ℕ) → length piece ≡ n → StandsAt text k piece → bytes_at n text k ≡ piece
bytes_stand text k n piece size h = ap (take n) h.is ∙ take_at piece h.rest n size
