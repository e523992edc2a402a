-- The entries of a table, as the four bytes that they are.
use Rattle.std.proofs.Common.{◌≡◌, ◌≢◌, ℕ, ◌+◌, ◌-◌, ◌*◌, ◌/◌, ◌%◌, ◌<◌, ◌≤◌, ◌⊎◌, inl, inr, zero, suc, List, [], ◌∷◌, length, get_or, set, drop, refl, sym, ap, ap₂, ◌∙◌, subst, arith, Contains, All}
use Rattle.byteorder.specs.Endian.{little_bytes, little_number}
use Rattle.byteorder.specs.Numbers.{length-bytes_low_first}
use Rattle.std.proofs.lemmas.Bool.{cases_eq, cases_lt}
use Rattle.std.proofs.lemmas.Grind.{same_number_lists}
use Rattle.std.proofs.lemmas.List.{ext_get_or, get_or-take, get_or-drop, length-take-le, length-drop}
use Rattle.std.proofs.Common.{get_or-set_same, get_or-set_other}
use Rattle.definitions.specs.Bytes.{IsPage, bytes_at, with_bytes, with_number}
use Rattle.definitions.specs.Tables.{frame, entry_at, with_entry, with_entries, HasTable, table_frame_count}
use Rattle.definitions.proofs.Ascending.{Contains-nil, Contains-head, Contains-tail, Contains-cons_cases}
use Rattle.definitions.proofs.PageBytes.{bytes_at-with_bytes, bytes_at-with_number_apart, number_at-bytes_at}
use Rattle.definitions.proofs.TableEntries.{entry_frame_within, IsPage-with_entry, HasTable-with_entry}

-- the four bytes of entry k
abbrev pub chunk : List (List ℕ) → ℕ → ℕ → List ℕ
chunk m table k = bytes_at 4 (frame m (table + k / 1024)) (4 * (k % 1024))

written_bytes : (page : List ℕ) (at v : ℕ) → at + 4 ≤ length page → bytes_at 4 (with_number 4 page at v) at ≡ little_bytes 4 v
unfolding with_number
written_bytes page at v within =
    let size = length-bytes_low_first 0 4 v in
    ap (λ (n : ℕ). bytes_at n (with_bytes page at (little_bytes 4 v)) at) (sym size) ∙ bytes_at-with_bytes page at (little_bytes 4 v) (omega arith)

chunk-set : (m : List (List ℕ)) (table k v : ℕ) → table + k / 1024 < length m → IsPage (frame m (table + k / 1024)) → chunk (with_entry m table k v) table k ≡ little_bytes 4 v
unfolding with_entry
chunk-set m table k v lt page =
    let p = table + k / 1024 in
    let at = 4 * (k % 1024) in
    ap (λ (bytes : List ℕ). bytes_at 4 bytes at) (get_or-set_same m p (with_number 4 (frame m p) at v) [] lt) ∙ written_bytes (frame m p) at v (omega arith)

chunk-other : (m : List (List ℕ)) (table k v j : ℕ) → table + k / 1024 < length m → IsPage (frame m (table + k / 1024)) → j ≢ k → chunk (with_entry m table k v) table j ≡ chunk m table j
unfolding with_entry
chunk-other m table k v j lt page apart =
    let p = table + k / 1024 in
    let at = 4 * (k % 1024) in
    let new = with_number 4 (frame m p) at v in
    elim (cases_eq (table + j / 1024) p) [
      | inl e ↦
          let elsewhere : (4 * (j % 1024) + 4 ≤ at) ⊎ (at + 4 ≤ 4 * (j % 1024)) =
          elim (cases_lt (j % 1024) (k % 1024)) [ inl below ↦ inl (omega arith) | inr ge ↦ inr (omega arith) ] in
          ap (λ (q : ℕ). bytes_at 4 (frame (set m p new) q) (4 * (j % 1024))) e
          ∙ ap (λ (bytes : List ℕ). bytes_at 4 bytes (4 * (j % 1024))) (get_or-set_same m p new [] lt)
          ∙ bytes_at-with_number_apart 4 4 (frame m p) at v (4 * (j % 1024)) (omega arith) elsewhere
          ∙ ap (λ (q : ℕ). bytes_at 4 (frame m q) (4 * (j % 1024))) (sym e)
      | inr ne ↦ ap (λ (bytes : List ℕ). bytes_at 4 bytes (4 * (j % 1024))) (get_or-set_other m p (table + j / 1024) new [] ne)
    ]

pub chunk-outside : (m : List (List ℕ)) (table n : ℕ) (ks : List ℕ) (v j : ℕ) → All IsPage m → HasTable m table n → ((k : ℕ) → Contains ks k → k < n) → (Contains ks j → ⊥) → chunk (with_entries m table ks v) table j ≡ chunk m table j
unfolding with_entries
chunk-outside m table n [] v j pages has below out = refl
chunk-outside m table n (k ∷ ks) v j pages has below out =
    let within = entry_frame_within m table n k has (below k (Contains-head k ks)) in
    chunk-outside (with_entry m table k v) table n ks v j (IsPage-with_entry m table k v pages) (HasTable-with_entry m table n k v has) (λ i in'. below i (Contains-tail k ks i in')) (λ in'. out (Contains-tail k ks j in'))
    ∙ chunk-other m table k v j within (pages (table + k / 1024) [] within) (λ e. out (subst (Contains (k ∷ ks)) (sym e) (Contains-head k ks)))

chunk_set_or : (m : List (List ℕ)) (table n : ℕ) (ks : List ℕ) (v j : ℕ) → All IsPage m → HasTable m table n → ((k : ℕ) → Contains ks k → k < n) → (chunk m table j ≡ little_bytes 4 v) ⊎ Contains ks j → chunk (with_entries m table ks v) table j ≡ little_bytes 4 v
unfolding with_entries
chunk_set_or m table n [] v j pages has below this = elim this [ inl e ↦ e | inr in' ↦ absurd (Contains-nil j in') ]
chunk_set_or m table n (k ∷ ks) v j pages has below this =
    let within = entry_frame_within m table n k has (below k (Contains-head k ks)) in
    let page = pages (table + k / 1024) [] within in
    let next : (chunk (with_entry m table k v) table j ≡ little_bytes 4 v) ⊎ Contains ks j =
    elim (cases_eq j k) [
      | inl here ↦ inl (subst (λ (x : ℕ). chunk (with_entry m table k v) table x ≡ little_bytes 4 v) (sym here) (chunk-set m table k v within page))
      | inr apart ↦ elim this [
        | inl was ↦ inl (chunk-other m table k v j within page apart ∙ was)
        | inr in' ↦ elim (Contains-cons_cases k ks j in') [ inl e ↦ absurd (apart (sym e)) | inr rest ↦ inr rest ]
      ]
    ] in
    chunk_set_or (with_entry m table k v) table n ks v j (IsPage-with_entry m table k v pages) (HasTable-with_entry m table n k v has) (λ i in'. below i (Contains-tail k ks i in')) next

pub chunk-within : (m : List (List ℕ)) (table n : ℕ) (ks : List ℕ) (v j : ℕ) → All IsPage m → HasTable m table n → ((k : ℕ) → Contains ks k → k < n) → Contains ks j → chunk (with_entries m table ks v) table j ≡ little_bytes 4 v
chunk-within m table n ks v j pages has below in' = chunk_set_or m table n ks v j pages has below (inr in')

-- an entry of 0 is four zero bytes

sums_to_0 : (a b : ℕ) → a + 256 * b ≡ 0 → (a ≡ 0) × (b ≡ 0)
sums_to_0 a b e = (omega arith, omega arith)

four_zeros : (xs : List ℕ) → length xs ≡ 4 → little_number 4 xs ≡ 0 → xs ≡ little_bytes 4 0
four_zeros xs size e =
    let one = sums_to_0 (get_or xs 0 0) _ e in
    let two = sums_to_0 (get_or xs 1 0) _ one.1 in
    let three = sums_to_0 (get_or xs 2 0) _ two.1 in
    let four = sums_to_0 (get_or xs 3 0) 0 three.1 in
    same_number_lists xs (little_bytes 4 0) size (λ i lt. each i (omega arith) one.0 two.0 three.0 four.0) where
      each : (i : ℕ) → i < 4 → get_or xs 0 0 ≡ 0 → get_or xs 1 0 ≡ 0 → get_or xs 2 0 ≡ 0 → get_or xs 3 0 ≡ 0 → get_or xs i 0 ≡ get_or (little_bytes 4 0) i 0
      each zero lt a b c d = a
      each (suc zero) lt a b c d = b
      each (suc (suc zero)) lt a b c d = c
      each (suc (suc (suc zero))) lt a b c d = d
      each (suc (suc (suc (suc i)))) lt a b c d = absurd (omega arith)

pub chunk-zero : (m : List (List ℕ)) (table k : ℕ) → IsPage (frame m (table + k / 1024)) → entry_at m table k ≡ 0 → chunk m table k ≡ little_bytes 4 0
unfolding entry_at
chunk-zero m table k page e =
    let p = frame m (table + k / 1024) in
    let at = 4 * (k % 1024) in
    four_zeros (bytes_at 4 p at) (length-take-le 4 (drop at p) (omega (arith, length-drop at p))) (sym (number_at-bytes_at 4 p at) ∙ e)

pub entry-by_chunk : (m n : List (List ℕ)) (table k : ℕ) → chunk m table k ≡ chunk n table k → entry_at m table k ≡ entry_at n table k
unfolding entry_at
entry-by_chunk m n table k e =
    number_at-bytes_at 4 (frame m (table + k / 1024)) (4 * (k % 1024)) ∙ ap (little_number 4) e ∙ sym (number_at-bytes_at 4 (frame n (table + k / 1024)) (4 * (k % 1024)))

-- Memories with the same entries, and the same page frames elsewhere, are the same.

byte_of_chunk : (m : List (List ℕ)) (table f j : ℕ) → table ≤ f → j < 4096 → get_or (frame m f) j 0 ≡ get_or (chunk m table (1024 * (f - table) + j / 4)) (j % 4) 0
byte_of_chunk m table f j le lt =
    let k = 1024 * (f - table) + j / 4 in
    let p : table + k / 1024 ≡ f = omega arith in
    let at : 4 * (k % 1024) + j % 4 ≡ j = omega arith in
    ap₂ (λ (g i : ℕ). get_or (frame m g) i 0) (sym p) (sym at)
    ∙ sym (get_or-take 4 (drop (4 * (k % 1024)) (frame m (table + k / 1024))) (j % 4) 0 (omega arith) ∙ get_or-drop (4 * (k % 1024)) (frame m (table + k / 1024)) (j % 4) 0)

page_same : (p q : List ℕ) → IsPage p → IsPage q → ((j : ℕ) → j < 4096 → get_or p j 0 ≡ get_or q j 0) → p ≡ q
page_same p q a b each = ext_get_or 0 p q (a ∙ sym b) (λ j lt. each j (omega arith))

pub same_by_chunks : (m n : List (List ℕ)) (table count : ℕ) → length m ≡ length n → All IsPage m → All IsPage n → ((f : ℕ) → (f < table) ⊎ (table + table_frame_count count ≤ f) → frame m f ≡ frame n f) →
    ((k : ℕ) → chunk m table k ≡ chunk n table k) → m ≡ n
same_by_chunks m n table count size m_pages n_pages outside each =
    ext_get_or [] m n size (λ f lt. elim (cases_lt f table) [
      | inl below ↦ outside f (inl below)
      | inr from ↦ page_same (frame m f) (frame n f) (m_pages f [] lt) (n_pages f [] (omega arith))
          (λ j j_lt. byte_of_chunk m table f j from j_lt ∙ ap (λ (xs : List ℕ). get_or xs (j % 4) 0) (each (1024 * (f - table) + j / 4)) ∙ sym (byte_of_chunk n table f j from j_lt))
    ])
