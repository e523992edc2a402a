-- The list of bad pages, one more at a time.
use Rattle.std.proofs.Common.{◌≡◌, ℕ, ◌+◌, ◌-◌, ◌*◌, ◌<◌, ◌≤◌, List, [], ◌∷◌, ◌++◌, length, take, get_or, refl, sym, ap, ◌∙◌, arith, suc, append_assoc, replicate, flat_map, map}
use Rattle.std.proofs.Math.Seq.{set-append_seam}
use Rattle.std.proofs.Math.ListN.{set}
use Rattle.std.specs.List.{range_with_len}
use Rattle.std.proofs.lemmas.List.{take_more, length-take-le}
use Rattle.std.proofs.lemmas.Grind.{flat_map-append}
use Rattle.std.proofs.lemmas.List.FromFn.{map-range_with_len_more, length-map-range_with_len}
use Rattle.byteorder.specs.Endian.{little_bytes}
use Rattle.definitions.specs.Bytes.{number_at, with_number, with_bytes}
use Rattle.definitions.specs.SwapHeader.{bad_pages_of}
use Rattle.definitions.proofs.PageBytes.{with_number-append}

-- the element at the end of the front is set, and the zeros after it stay
set-front : (n i v : ℕ) (xs : List ℕ) → length xs ≡ i → i < n → set (xs ++ replicate (n - i) 0) i v ≡ (xs ++ v ∷ []) ++ replicate (n - (i + 1)) 0
set-front n i v xs e lt =
    let one : n - i ≡ suc (n - (i + 1)) = omega arith in
    ap (λ (m : ℕ). set (xs ++ replicate m 0) i v) one ∙ ap (λ (j : ℕ). set (xs ++ replicate (suc (n - (i + 1))) 0) j v) (sym e)
    ∙ set-append_seam xs 0 (replicate (n - (i + 1)) 0) v ∙ sym (append_assoc xs (v ∷ []) (replicate (n - (i + 1)) 0))

pub length-bad_pages_of : (page : List ℕ) (n : ℕ) → length (bad_pages_of page n) ≡ n
unfolding bad_pages_of
length-bad_pages_of page n = length-map-range_with_len (λ i. number_at 4 page (1536 + 4 * i)) 0 n

-- the bad pages so far, and one more
pub bad_pages_of_more : (page : List ℕ) (n i v : ℕ) → i < n → v ≡ number_at 4 page (1536 + 4 * i) → set (bad_pages_of page i ++ replicate (n - i) 0) i v ≡ bad_pages_of page (i + 1) ++ replicate (n - (i + 1)) 0
unfolding bad_pages_of
bad_pages_of_more page n i v lt e =
    set-front n i v (bad_pages_of page i) (length-bad_pages_of page i) lt
    ∙ ap (λ (x : ℕ). (bad_pages_of page i ++ x ∷ []) ++ replicate (n - (i + 1)) 0) e
    ∙ ap (λ (xs : List ℕ). xs ++ replicate (n - (i + 1)) 0) (sym (map-range_with_len_more (λ j. number_at 4 page (1536 + 4 * j)) 0 i i (omega arith)))

pub length-numbers : (bad : List ℕ) → length (flat_map (little_bytes 4) bad) ≡ 4 * length bad
length-numbers [] = refl
length-numbers (x ∷ bad) = let e = length-numbers bad in omega (arith, e)

-- the numbers written so far, and one more
pub numbers_more : (page bad : List ℕ) (i v : ℕ) → 1536 ≤ length page → i < length bad → v ≡ get_or bad i 0 → with_number 4 (with_bytes page 1536 (flat_map (little_bytes 4) (take i bad))) (1536 + 4 * i) v ≡ with_bytes page 1536 (flat_map (little_bytes 4) (take (i + 1) bad))
numbers_more page bad i v room lt e =
    let so_far = flat_map (little_bytes 4) (take i bad) in
    let size : 1536 + 4 * i ≡ 1536 + length so_far = omega (arith, length-numbers (take i bad), length-take-le i bad (omega arith)) in
    let one_more : so_far ++ little_bytes 4 v ≡ flat_map (little_bytes 4) (take (i + 1) bad) =
    sym (ap (flat_map (little_bytes 4)) (take_more bad i 0 lt ∙ ap (λ (x : ℕ). take i bad ++ x ∷ []) (sym e))
    ∙ flat_map-append (little_bytes 4) (take i bad) (v ∷ [])) in
    ap (λ (k : ℕ). with_number 4 (with_bytes page 1536 so_far) k v) size ∙ with_number-append 4 page 1536 v so_far room
    ∙ ap (with_bytes page 1536) one_more
