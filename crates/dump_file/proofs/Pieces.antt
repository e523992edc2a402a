-- The fields of a piece, where that holds the bytes of a dump from some place on.
use Rattle.std.proofs.Common.{◌≡◌, ℕ, ◌+◌, ◌-◌, ◌*◌, ◌≤◌, ◌||◌, Bool, List, map, take, drop, ap, ap₂, ◌∙◌, arith}
use Rattle.std.specs.Prelude.{nat_eq}
use Rattle.std.proofs.lemmas.List.{drop-drop, drop-take, take-take}
use Rattle.std.specs.Cmp.Lexicographic.{pointwise}
use Rattle.std.specs.List.{range_with_len}
use Rattle.byteorder.specs.Endian.{little_number}
use Rattle.definitions.specs.Bytes.{bytes_at, number_at}
use Rattle.definitions.specs.InfoPage.{names_of}
use Rattle.definitions.proofs.PageBytes.{number_at-same}
use Rattle.dump_file.specs.Fields.{is_first, is_second, number}
use Rattle.dump_file.specs.Written.{first_mark, second_mark}
use Rattle.dump_file.proofs.Chains.{map-same}

-- what lies within the first n bytes
take_in : (m n j : ℕ) (xs : List ℕ) → j + m ≤ n → bytes_at m (take n xs) j ≡ bytes_at m xs j
take_in m n j xs le =
    let parts : n ≡ j + (n - j) = omega (arith, le) in
    ap (λ (k : ℕ). take m (drop j (take k xs))) parts ∙ ap (take m) (drop-take j (n - j) xs) ∙ take-take m (n - j) (drop j xs) (omega (arith, le))

pub number_first : (n k : ℕ) (bytes piece : List ℕ) → piece ≡ bytes_at n bytes k → 4 ≤ n → number piece 0 ≡ number bytes k
unfolding number_at
number_first n k bytes piece is le =
    ap (λ (xs : List ℕ). number xs 0) is ∙ number_at-same 4 (bytes_at n bytes k) (drop k bytes) 0 (take_in 4 n 0 (drop k bytes) le)

pub number_in : (n k j : ℕ) (bytes piece : List ℕ) → piece ≡ bytes_at n bytes k → j + 4 ≤ n → number piece j ≡ number bytes (k + j)
unfolding number_at
number_in n k j bytes piece is le =
    ap (λ (xs : List ℕ). number xs j) is ∙ number_at-same 4 (bytes_at n bytes k) (drop k bytes) j (take_in 4 n j (drop k bytes) le)
    ∙ ap (little_number 4) (drop-drop j k bytes)

first_in : (bytes : List ℕ) → is_first (take 8 bytes) ≡ is_first bytes
first_in bytes = ap (pointwise nat_eq first_mark) (take-take 8 8 bytes (omega arith))

pub second_in : (bytes piece : List ℕ) → piece ≡ bytes_at 8 bytes 0 → is_second piece ≡ is_second bytes
second_in bytes piece is = ap (λ (xs : List ℕ). is_second xs) is ∙ ap (pointwise nat_eq second_mark) (take-take 8 8 bytes (omega arith))

pub mark_in : (bytes piece : List ℕ) → piece ≡ bytes_at 8 bytes 0 → (is_first piece || is_second piece) ≡ (is_first bytes || is_second bytes)
mark_in bytes piece is =
    ap (λ (xs : List ℕ). is_first xs || is_second xs) is
    ∙ ap₂ (λ (a b : Bool). a || b) (first_in bytes) (ap (pointwise nat_eq second_mark) (take-take 8 8 bytes (omega arith)))

pub names_in : (bytes piece : List ℕ) → piece ≡ bytes_at 392 bytes 32 → names_of piece ≡ names_of (drop 32 bytes)
unfolding names_of
names_in bytes piece is =
    ap (λ (xs : List ℕ). map (λ j. bytes_at 65 xs (65 * j)) (range_with_len 0 6)) is
    ∙ map-same (λ j. bytes_at 65 (take 392 (drop 32 bytes)) (65 * j)) (λ j. bytes_at 65 (drop 32 bytes) (65 * j)) 0 6
    (λ j from lt. take_in 65 392 (65 * j) (drop 32 bytes) (omega (arith, lt)))
