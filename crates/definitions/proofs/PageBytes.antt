-- Laws of the bytes of a page, over the offset and the width.
use Rattle.std.proofs.Common.{◌≡◌, ℕ, ◌+◌, ◌-◌, ◌*◌, ◌^◌, ◌<◌, ◌≤◌, ◌⊎◌, ◌%◌, ◌/◌, zero, suc, List, [], ◌∷◌, ◌++◌, length, take, drop, get_or, refl, sym, ap, ◌∙◌, inl, inr, subst, ⊎_elim, arith, rules, append_assoc, append-nil, add-zero, length-append, length-drop, replicate, min, Bool, true, false}
use Rattle.std.proofs.lemmas.List.{drop_all, take-append-drop, length-take, length-take-le, drop-drop, take_at, drop_at, get_or-take, get_or-drop, length-replicate, get_or-replicate, get_or_append_left, get_or-append_right, same_lists}
use Rattle.std.proofs.lemmas.Grind.{common_steps, same_number_lists}
use Rattle.std.proofs.Math.Seq.{drop-append-add}
use borrow.Rule.Slice.PartMut.{put_mid}
use Rattle.byteorder.specs.Endian.{little_number, little_bytes, little_from}
use Rattle.byteorder.specs.Numbers.{little_from-take, little_from-bytes, length-bytes_low_first, little_from-lt, little_number-reads_back}
use Rattle.definitions.specs.Bytes.{zero_page, bytes_at, with_bytes, number_at, with_number, AreBytes}

-- The page of zeros.

pub length-zero_page : length zero_page ≡ 4096
unfolding zero_page
length-zero_page = length-replicate {A = ℕ} 4096 0

pub get_or-zero_page : (i : ℕ) → i < 4096 → get_or zero_page i 0 ≡ 0
unfolding zero_page
get_or-zero_page i h = get_or-replicate {A = ℕ} 4096 i 0 0 h

-- the page of zeros is the one whose bytes are all zero
pub zero_page-from_bytes : (page : List ℕ) → length page ≡ 4096 → ((i : ℕ) → i < 4096 → get_or page i 0 ≡ 0) → page ≡ zero_page
zero_page-from_bytes page n h =
    same_number_lists page zero_page (n ∙ sym length-zero_page) (λ i q. h i (omega arith) ∙ sym (get_or-zero_page i (omega arith)))

-- Bytes at an offset.

-- what a write to a part of a slice leaves
pub put_mid-with_bytes : (k n : ℕ) (page bytes : List ℕ) → length bytes ≡ n → put_mid k n page bytes ≡ with_bytes page k bytes
unfolding with_bytes
put_mid-with_bytes k n page bytes h =
    ap (λ (rest : List ℕ). take k page ++ (bytes ++ rest)) (drop-drop n k page ∙ ap (λ (m : ℕ). drop (k + m) page) (sym h))
    ∙ sym (append_assoc (take k page) bytes (drop (k + length bytes) page))

pub length-with_bytes : (page : List ℕ) (k : ℕ) (bytes : List ℕ) → k + length bytes ≤ length page → length (with_bytes page k bytes) ≡ length page
unfolding with_bytes
length-with_bytes page k bytes h =
    omega (arith, length-append (take k page ++ bytes) (drop (k + length bytes) page), length-append (take k page) bytes, length-take-le k page (omega arith), length-drop (k + length bytes) page)

pub get_or-with_bytes_below : (page : List ℕ) (k : ℕ) (bytes : List ℕ) (i d : ℕ) → k + length bytes ≤ length page → i < k → get_or (with_bytes page k bytes) i d ≡ get_or page i d
unfolding with_bytes
get_or-with_bytes_below page k bytes i d h lt =
    let front = length-take-le k page (omega arith) in
    get_or_append_left (take k page ++ bytes) (drop (k + length bytes) page) d i (omega (arith, length-append (take k page) bytes))
    ∙ get_or_append_left (take k page) bytes d i (omega arith) ∙ get_or-take k page i d lt

pub get_or-with_bytes_within : (page : List ℕ) (k : ℕ) (bytes : List ℕ) (i d : ℕ) → k + length bytes ≤ length page → i < length bytes → get_or (with_bytes page k bytes) (k + i) d ≡ get_or bytes i d
unfolding with_bytes
get_or-with_bytes_within page k bytes i d h lt =
    let front = length-take-le k page (omega arith) in
    let at : k + i - k ≡ i = omega arith in
    get_or_append_left (take k page ++ bytes) (drop (k + length bytes) page) d (k + i) (omega (arith, length-append (take k page) bytes))
    ∙ get_or-append_right (take k page) bytes k (k + i) d front (omega arith) ∙ ap (λ (j : ℕ). get_or bytes j d) at

pub get_or-with_bytes_above : (page : List ℕ) (k : ℕ) (bytes : List ℕ) (i d : ℕ) → k + length bytes ≤ length page → k + length bytes ≤ i → get_or (with_bytes page k bytes) i d ≡ get_or page i d
unfolding with_bytes
get_or-with_bytes_above page k bytes i d h le =
    let front = length-take-le k page (omega arith) in
    let all : length (take k page ++ bytes) ≡ k + length bytes = omega (arith, length-append (take k page) bytes) in
    let at : k + length bytes + (i - (k + length bytes)) ≡ i = omega arith in
    get_or-append_right (take k page ++ bytes) (drop (k + length bytes) page) (k + length bytes) i d all le
    ∙ get_or-drop (k + length bytes) page (i - (k + length bytes)) d ∙ ap (λ (j : ℕ). get_or page j d) at

-- the bytes are read back
pub bytes_at-with_bytes : (page : List ℕ) (k : ℕ) (bytes : List ℕ) → k + length bytes ≤ length page → bytes_at (length bytes) (with_bytes page k bytes) k ≡ bytes
bytes_at-with_bytes page k bytes h =
    let whole = length-with_bytes page k bytes h in
    same_number_lists (bytes_at (length bytes) (with_bytes page k bytes) k) bytes
    (length-take-le (length bytes) (drop k (with_bytes page k bytes)) (omega (arith, length-drop k (with_bytes page k bytes))))
    (λ i q.
    let lt : i < length bytes = omega (arith, length-take-le (length bytes) (drop k (with_bytes page k bytes)) (omega (arith, length-drop k (with_bytes page k bytes)))) in
    get_or-take (length bytes) (drop k (with_bytes page k bytes)) i 0 lt ∙ get_or-drop k (with_bytes page k bytes) i 0
    ∙ get_or-with_bytes_within page k bytes i 0 h lt)

-- Two pages that agree from k to k + n have the same bytes there.
pub bytes_at-same : (n : ℕ) (xs ys : List ℕ) (k : ℕ) → length xs ≡ length ys → ((i : ℕ) → k ≤ i → i < k + n → get_or xs i 0 ≡ get_or ys i 0) → bytes_at n xs k ≡ bytes_at n ys k
bytes_at-same n xs ys k e h =
    same_number_lists (bytes_at n xs k) (bytes_at n ys k) (simp (length-take, length-drop) (ap (λ (m : ℕ). min n (m - k)) e))
    (λ i q.
    let lt : i < n = omega (arith, simp (length-take) at q) in
    get_or-take n (drop k xs) i 0 lt ∙ get_or-drop k xs i 0 ∙ h (k + i) (omega arith) (omega arith)
    ∙ sym (get_or-take n (drop k ys) i 0 lt ∙ get_or-drop k ys i 0))

-- bytes that lie apart from what was written stay
pub bytes_at-with_bytes_apart : (n : ℕ) (page : List ℕ) (k : ℕ) (bytes : List ℕ) (j : ℕ) → k + length bytes ≤ length page → (j + n ≤ k) ⊎ (k + length bytes ≤ j) → bytes_at n (with_bytes page k bytes) j ≡ bytes_at n page j
bytes_at-with_bytes_apart n page k bytes j h (inl below) =
    bytes_at-same n (with_bytes page k bytes) page j (length-with_bytes page k bytes h) (λ i le lt. get_or-with_bytes_below page k bytes i 0 h (omega arith))
bytes_at-with_bytes_apart n page k bytes j h (inr above) =
    bytes_at-same n (with_bytes page k bytes) page j (length-with_bytes page k bytes h) (λ i le lt. get_or-with_bytes_above page k bytes i 0 h (omega arith))

-- Numbers at an offset.

-- the number is that of its bytes
pub number_at-bytes_at : (n : ℕ) (page : List ℕ) (k : ℕ) → number_at n page k ≡ little_number n (bytes_at n page k)
unfolding number_at
number_at-bytes_at n page k = sym (little_from-take 0 n n (drop k page) (omega arith))

-- pages with the same bytes there have the same number there
pub number_at-same : (n : ℕ) (xs ys : List ℕ) (k : ℕ) → bytes_at n xs k ≡ bytes_at n ys k → number_at n xs k ≡ number_at n ys k
number_at-same n xs ys k e = number_at-bytes_at n xs k ∙ ap (little_number n) e ∙ sym (number_at-bytes_at n ys k)

pub length-with_number : (n : ℕ) (page : List ℕ) (k v : ℕ) → k + n ≤ length page → length (with_number n page k v) ≡ length page
unfolding with_number
length-with_number n page k v h = length-with_bytes page k (little_bytes n v) (omega (arith, length-bytes_low_first 0 n v))

-- a number that fits is read back
pub number_at-with_number : (n : ℕ) (page : List ℕ) (k v : ℕ) → k + n ≤ length page → v < 256 ^ n → number_at n (with_number n page k v) k ≡ v
unfolding with_number
number_at-with_number n page k v h fits =
    let size = length-bytes_low_first 0 n v in
    let all : bytes_at n (with_bytes page k (little_bytes n v)) k ≡ little_bytes n v =
    ap (λ (m : ℕ). bytes_at m (with_bytes page k (little_bytes n v)) k) (sym size) ∙ bytes_at-with_bytes page k (little_bytes n v) (omega arith) in
    number_at-bytes_at n (with_bytes page k (little_bytes n v)) k ∙ ap (little_number n) (all ∙ sym (append-nil (little_bytes n v)))
    ∙ little_number-reads_back n v [] fits

-- numbers that lie apart from what was written stay
pub number_at-with_number_apart : (m n : ℕ) (page : List ℕ) (k v j : ℕ) → k + n ≤ length page → (j + m ≤ k) ⊎ (k + n ≤ j) → number_at m (with_number n page k v) j ≡ number_at m page j
unfolding with_number
number_at-with_number_apart m n page k v j h apart =
    let size = length-bytes_low_first 0 n v in
    let further : (j + m ≤ k) ⊎ (k + length (little_bytes n v) ≤ j) = ⊎_elim (λ below. inl below) (λ above. inr (omega arith)) apart in
    number_at-same m (with_bytes page k (little_bytes n v)) page j
    (bytes_at-with_bytes_apart m page k (little_bytes n v) j (omega arith) further)

-- the number in n bytes fits in n bytes
pub number_at-lt : (n : ℕ) (page : List ℕ) (k : ℕ) → AreBytes page → number_at n page k < 256 ^ n
unfolding number_at
number_at-lt n page k h = little_from-lt 0 n (drop k page) (λ i. rw (get_or-drop k page i 0) (h (k + i)))

-- what a number written over a part of n bytes leaves of the whole
pub put_mid-with_number : (n k m : ℕ) (page buf part : List ℕ) (v : ℕ) → length part ≤ n → m ≡ n → buf ≡ little_bytes n v ++ drop n part → put_mid k m page buf ≡ with_number n page k v
unfolding with_number
put_mid-with_number n k m page buf part v short e h =
    let exact : buf ≡ little_bytes n v = h ∙ ap (λ (rest : List ℕ). little_bytes n v ++ rest) (drop_all n part short) ∙ append-nil (little_bytes n v) in
    let size : length buf ≡ m = ap length exact ∙ length-bytes_low_first 0 n v ∙ sym e in
    put_mid-with_bytes k m page buf size ∙ ap (with_bytes page k) exact

-- nothing written changes nothing
pub with_bytes-nil : (page : List ℕ) (k : ℕ) → with_bytes page k [] ≡ page
unfolding with_bytes
with_bytes-nil page k = rw (append-nil, add-zero, take-append-drop) refl

-- what is written right after what was written is written with it
pub with_bytes-append : (page : List ℕ) (k : ℕ) (xs ys : List ℕ) → k ≤ length page → with_bytes (with_bytes page k xs) (k + length xs) ys ≡ with_bytes page k (xs ++ ys)
unfolding with_bytes
with_bytes-append page k xs ys h =
    let front = take k page ++ xs in
    let back = drop (k + length xs) page in
    let size : length front ≡ k + length xs = omega (arith, length-append (take k page) xs, length-take-le k page h) in
    let kept : take (k + length xs) (front ++ back) ≡ front = take_at front back (k + length xs) size in
    let rest : drop (k + length xs + length ys) (front ++ back) ≡ drop (k + length (xs ++ ys)) page =
    ap (λ (n : ℕ). drop (n + length ys) (front ++ back)) (sym size) ∙ drop-append-add front back (length ys)
    ∙ drop-drop (length ys) (k + length xs) page
    ∙ ap (λ (n : ℕ). drop n page) (omega (arith, length-append xs ys)) in
    rw (kept, rest, append_assoc (take k page) xs ys) refl

pub with_number-append : (n : ℕ) (page : List ℕ) (k v : ℕ) (xs : List ℕ) → k ≤ length page → with_number n (with_bytes page k xs) (k + length xs) v ≡ with_bytes page k (xs ++ little_bytes n v)
unfolding with_number
with_number-append n page k v xs h = with_bytes-append page k xs (little_bytes n v) h

-- bytes that lie apart from a number that was written stay
pub bytes_at-with_number_apart : (m n : ℕ) (page : List ℕ) (k v j : ℕ) → k + n ≤ length page → (j + m ≤ k) ⊎ (k + n ≤ j) → bytes_at m (with_number n page k v) j ≡ bytes_at m page j
unfolding with_number
bytes_at-with_number_apart m n page k v j h apart =
    let size = length-bytes_low_first 0 n v in
    let further : (j + m ≤ k) ⊎ (k + length (little_bytes n v) ≤ j) =
    ⊎_elim (λ below. inl below) (λ above. inr (omega arith)) apart in
    bytes_at-with_bytes_apart m page k (little_bytes n v) j (omega arith) further

-- a byte outside a number that was written stays
pub get_or-with_number_apart : (n : ℕ) (page : List ℕ) (k v i : ℕ) → k + n ≤ length page → (i < k) ⊎ (k + n ≤ i) → get_or (with_number n page k v) i 0 ≡ get_or page i 0
unfolding with_number
get_or-with_number_apart n page k v i h (inl below) =
    get_or-with_bytes_below page k (little_bytes n v) i 0 (omega (arith, length-bytes_low_first 0 n v)) below
get_or-with_number_apart n page k v i h (inr above) =
    get_or-with_bytes_above page k (little_bytes n v) i 0 (omega (arith, length-bytes_low_first 0 n v)) (omega (arith, length-bytes_low_first 0 n v))
