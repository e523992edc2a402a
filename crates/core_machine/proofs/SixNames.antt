-- The six names, which lie one after another.
use Rattle.std.proofs.Common.{◌≡◌, ℕ, ◌+◌, ◌*◌, ◌≤◌, zero, suc, List, ◌∷◌, map, take, drop, refl, ap, ◌∙◌, arith}
use Rattle.std.specs.List.{range_with_len}
use Rattle.std.specs.Simd.{first_chunks}
use Rattle.std.proofs.lemmas.List.{drop-drop}
use Rattle.definitions.specs.InfoPage.{names_of}

-- runs of n bytes, from the a-th on
chunks_from : (n k a : ℕ) (xs : List ℕ) → first_chunks n k (drop (n * a) xs) ≡ map (λ j. take n (drop (n * j) xs)) (range_with_len a k)
chunks_from n zero a xs = refl
chunks_from n (suc k) a xs =
    ap (λ rest. take n (drop (n * a) xs) ∷ first_chunks n k rest) (drop-drop n (n * a) xs ∙ ap (λ i. drop i xs) (omega arith))
    ∙ ap (λ rest. take n (drop (n * a) xs) ∷ rest) (chunks_from n k (a + 1) xs)

take-first_chunks : (n k m : ℕ) (xs : List ℕ) → k ≤ m → take k (first_chunks n m xs) ≡ first_chunks n k xs
take-first_chunks n zero m xs le = refl
take-first_chunks n (suc k) zero xs le = absurd (omega arith)
take-first_chunks n (suc k) (suc m) xs le = ap (λ rest. take n xs ∷ rest) (take-first_chunks n k m (drop n xs) (omega arith))

pub six_chunks : (m : ℕ) (bytes : List ℕ) → 6 ≤ m → take 6 (first_chunks 65 m bytes) ≡ names_of bytes
unfolding names_of
six_chunks m bytes le = take-first_chunks 65 6 m bytes le ∙ chunks_from 65 6 0 bytes
