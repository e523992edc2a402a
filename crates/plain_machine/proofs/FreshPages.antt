-- A table that is filled entry by entry has the pages of its entries.
use Rattle.std.proofs.Common.{◌≡◌, ℕ, zero, suc, ◌+◌, ◌*◌, ◌-◌, ◌/◌, ◌%◌, ◌<◌, ◌≤◌, List, [], ◌∷◌, ◌++◌, length, get_or, set, flat_map, zero-add, refl, sym, ap, ◌∙◌, subst, inl, inr, ◌⊎◌, arith}
use Rattle.std.proofs.lemmas.Bool.{cases_eq, cases_lt}
use Rattle.std.proofs.lemmas.List.{length-append, ext_get_or, get_or_append_left, get_or-append-add, get_or-set_same, get_or-set_other}
use Rattle.std.specs.List.{All, Contains, range_with_len}
use Rattle.byteorder.specs.Endian.{little_bytes}
use Rattle.byteorder.specs.Numbers.{length-bytes_low_first}
use Rattle.definitions.specs.Bytes.{IsPage, with_number}
use Rattle.definitions.specs.Tables.{frame, with_entry, HasTable}
use Rattle.definitions.proofs.Ascending.{Contains-nil, Contains-head, Contains-tail, Contains-cons_cases}
use Rattle.definitions.proofs.PageBytes.{get_or-with_bytes_within, get_or-with_number_apart}
use Rattle.definitions.proofs.TableEntries.{entry_frame_within, IsPage-with_entry, HasTable-with_entry}
use Rattle.plain_machine.specs.FreshMemory.{with_each_entry, table_page}

-- byte b of entry j
abbrev pub byte_at : List (List ℕ) → ℕ → ℕ → ℕ → ℕ
byte_at m table j b = get_or (frame m (table + j / 1024)) (4 * (j % 1024) + b) 0

byte-with_entry_same : (m : List (List ℕ)) (table k v b : ℕ) → table + k / 1024 < length m → IsPage (frame m (table + k / 1024)) → b < 4 → byte_at (with_entry m table k v) table k b ≡ get_or (little_bytes 4 v) b 0
unfolding with_entry with_number
byte-with_entry_same m table k v b within page lt =
    let f = table + k / 1024 in
    let at = 4 * (k % 1024) in
    let size = length-bytes_low_first 0 4 v in
    ap (λ (bytes : List ℕ). get_or bytes (at + b) 0) (get_or-set_same m f (with_number 4 (frame m f) at v) [] within)
    ∙ get_or-with_bytes_within (frame m f) at (little_bytes 4 v) b 0 (omega arith) (omega arith)

byte-with_entry_other : (m : List (List ℕ)) (table k v j b : ℕ) → table + k / 1024 < length m → IsPage (frame m (table + k / 1024)) → b < 4 → (j ≡ k → ⊥) → byte_at (with_entry m table k v) table j b ≡ byte_at m table j b
unfolding with_entry
byte-with_entry_other m table k v j b within page lt apart =
    let f = table + k / 1024 in
    let at = 4 * (k % 1024) in
    let new = with_number 4 (frame m f) at v in
    elim (cases_eq (table + j / 1024) f) [
      | inl e ↦
          let elsewhere : (4 * (j % 1024) + b < at) ⊎ (at + 4 ≤ 4 * (j % 1024) + b) =
          elim (cases_lt (j % 1024) (k % 1024)) [ inl low ↦ inl (omega arith) | inr ge ↦ inr (omega arith) ] in
          ap (λ (q : ℕ). get_or (frame (set m f new) q) (4 * (j % 1024) + b) 0) e
          ∙ ap (λ (bytes : List ℕ). get_or bytes (4 * (j % 1024) + b) 0) (get_or-set_same m f new [] within)
          ∙ get_or-with_number_apart 4 (frame m f) at v (4 * (j % 1024) + b) (omega arith) elsewhere
          ∙ ap (λ (q : ℕ). get_or (frame m q) (4 * (j % 1024) + b) 0) (sym e)
      | inr ne ↦ ap (λ (bytes : List ℕ). get_or bytes (4 * (j % 1024) + b) 0) (get_or-set_other m f (table + j / 1024) new [] ne)
    ]

-- a byte of an entry that isn't set stays
pub byte-each_other : (e : ℕ → ℕ) (n : ℕ) (ks : List ℕ) (table : ℕ) (m : List (List ℕ)) (j b : ℕ) → All IsPage m → HasTable m table n → b < 4 → ((k : ℕ) → Contains ks k → k < n) → (Contains ks j → ⊥) → byte_at (with_each_entry e ks table m) table j b ≡ byte_at m table j b
unfolding with_each_entry
byte-each_other e n [] table m j b pages has lt below out = refl
byte-each_other e n (k ∷ ks) table m j b pages has lt below out =
    let within = entry_frame_within m table n k has (below k (Contains-head k ks)) in
    byte-each_other e n ks table (with_entry m table k (e k)) j b (IsPage-with_entry m table k (e k) pages) (HasTable-with_entry m table n k (e k) has) lt
    (λ i in'. below i (Contains-tail k ks i in')) (λ in'. out (Contains-tail k ks j in'))
    ∙ byte-with_entry_other m table k (e k) j b within (pages (table + k / 1024) [] within) lt (λ is. out (subst (Contains (k ∷ ks)) (sym is) (Contains-head k ks)))

byte-each_or : (e : ℕ → ℕ) (n : ℕ) (ks : List ℕ) (table : ℕ) (m : List (List ℕ)) (j b : ℕ) → All IsPage m → HasTable m table n → b < 4 → ((k : ℕ) → Contains ks k → k < n) → (byte_at m table j b ≡ get_or (little_bytes 4 (e j)) b 0) ⊎ Contains ks j →
    byte_at (with_each_entry e ks table m) table j b ≡ get_or (little_bytes 4 (e j)) b 0
unfolding with_each_entry
byte-each_or e n [] table m j b pages has lt below (inl was) = was
byte-each_or e n [] table m j b pages has lt below (inr in') = absurd (Contains-nil j in')
byte-each_or e n (k ∷ ks) table m j b pages has lt below this =
    let within = entry_frame_within m table n k has (below k (Contains-head k ks)) in
    let page = pages (table + k / 1024) [] within in
    let next : (byte_at (with_entry m table k (e k)) table j b ≡ get_or (little_bytes 4 (e j)) b 0) ⊎ Contains ks j =
    elim (cases_eq j k) [
      | inl is ↦ inl (subst (λ (i : ℕ). byte_at (with_entry m table k (e k)) table i b ≡ get_or (little_bytes 4 (e i)) b 0) (sym is) (byte-with_entry_same m table k (e k) b within page lt))
      | inr ne ↦ elim this [
        | inl was ↦ inl (byte-with_entry_other m table k (e k) j b within page lt ne ∙ was)
        | inr in' ↦ elim (Contains-cons_cases k ks j in') [ inl h ↦ absurd (ne (sym h)) | inr rest ↦ inr rest ]
      ]
    ] in
    byte-each_or e n ks table (with_entry m table k (e k)) j b (IsPage-with_entry m table k (e k) pages) (HasTable-with_entry m table n k (e k) has) lt (λ i in'. below i (Contains-tail k ks i in')) next

pub byte-each : (e : ℕ → ℕ) (n : ℕ) (ks : List ℕ) (table : ℕ) (m : List (List ℕ)) (j b : ℕ) → All IsPage m → HasTable m table n → b < 4 → ((k : ℕ) → Contains ks k → k < n) → Contains ks j → byte_at (with_each_entry e ks table m) table j b ≡ get_or (little_bytes 4 (e j)) b 0
byte-each e n ks table m j b pages has lt below in' = byte-each_or e n ks table m j b pages has lt below (inr in')

-- The bytes of lists of one width, one after another.

get_or-flat : (f : ℕ → List ℕ) (a n k b : ℕ) → ((i : ℕ) → length (f i) ≡ 4) → k < n → b < 4 → get_or (flat_map f (range_with_len a n)) (4 * k + b) 0 ≡ get_or (f (a + k)) b 0
get_or-flat f a zero k b width lt below = absurd (omega arith)
get_or-flat f a (suc n) zero b width lt below =
    let size = width a in
    let here : a ≡ a + 0 = omega arith in
    let place : 4 * 0 + b ≡ b = omega arith in
    ap (λ (i : ℕ). get_or (f a ++ flat_map f (range_with_len (a + 1) n)) i 0) place
    ∙ get_or_append_left (f a) (flat_map f (range_with_len (a + 1) n)) 0 b (omega arith) ∙ ap (λ (i : ℕ). get_or (f i) b 0) here
get_or-flat f a (suc n) (suc k) b width lt below =
    let size = width a in
    let place : 4 * suc k + b ≡ length (f a) + (4 * k + b) = omega arith in
    let next : a + 1 + k ≡ a + suc k = omega arith in
    ap (λ (i : ℕ). get_or (f a ++ flat_map f (range_with_len (a + 1) n)) i 0) place
    ∙ get_or-append-add (f a) (flat_map f (range_with_len (a + 1) n)) (4 * k + b) 0
    ∙ get_or-flat f (a + 1) n k b width (omega arith) below
    ∙ ap (λ (i : ℕ). get_or (f i) b 0) next

length-flat : (f : ℕ → List ℕ) (a n : ℕ) → ((i : ℕ) → length (f i) ≡ 4) → length (flat_map f (range_with_len a n)) ≡ 4 * n
length-flat f a zero width = refl
length-flat f a (suc n) width =
    let first = width a in
    let rest = length-flat f (a + 1) n width in
    let both = length-append (f a) (flat_map f (range_with_len (a + 1) n)) in
    omega arith

width : (entry : ℕ → ℕ) (i : ℕ) → length (little_bytes 4 (entry i)) ≡ 4
width entry i = length-bytes_low_first 0 4 (entry i)

pub length-table_page : (first : ℕ) (entry : ℕ → ℕ) (p : ℕ) → length (table_page first entry p) ≡ 4096
unfolding table_page
length-table_page first entry p = length-flat (λ k. little_bytes 4 (entry (1024 * (p - first) + k))) 0 1024 (λ k. width entry (1024 * (p - first) + k))

-- a page whose bytes are those of the entries
pub is_table_page : (first : ℕ) (entry : ℕ → ℕ) (p : ℕ) (page : List ℕ) → IsPage page → ((k b : ℕ) → k < 1024 → b < 4 → get_or page (4 * k + b) 0 ≡ get_or (little_bytes 4 (entry (1024 * (p - first) + k))) b 0) → page ≡ table_page first entry p
unfolding table_page
is_table_page first entry p page whole bytes =
    let f : ℕ → List ℕ = λ k. little_bytes 4 (entry (1024 * (p - first) + k)) in
    let each : (k : ℕ) → length (f k) ≡ 4 = λ k. width entry (1024 * (p - first) + k) in
    ext_get_or 0 page (flat_map f (range_with_len 0 1024)) (whole ∙ sym (length-flat f 0 1024 each))
    (λ i lt.
    let k = i / 4 in
    let b = i % 4 in
    let place : i ≡ 4 * k + b = omega arith in
    let few : k < 1024 = omega arith in
    let low : b < 4 = omega arith in
    ap (λ (j : ℕ). get_or page j 0) place ∙ bytes k b few low ∙ ap (λ (j : ℕ). get_or (f j) b 0) (sym (zero-add k)) ∙ sym (get_or-flat f 0 1024 k b each few low) ∙ ap (λ (j : ℕ). get_or (flat_map f (range_with_len 0 1024)) j 0) (sym place))
