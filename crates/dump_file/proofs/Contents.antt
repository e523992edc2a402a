-- What page frames contain after some records.
use Rattle.std.proofs.Common.{◌≡◌, ℕ, zero, suc, ◌+◌, ◌<◌, Bool, true, false, cond, List, Option, Some, None, length, map, get_or, set, refl, sym, ap, ◌∙◌, subst, inl, inr, arith}
use Rattle.std.specs.Prelude.{◌==◌}
use Rattle.std.proofs.lemmas.Bool.{cases_eq, cases_lt, eq-eqb, ne_eqb, ltb-true}
use Rattle.std.proofs.lemmas.List.{same_lists, length-set, get_or-set_same, get_or-set_other, length-replicate, get_or-replicate}
use Rattle.std.proofs.lemmas.List.Folds.{find-append}
use Rattle.std.proofs.lemmas.List.FromFn.{length-map-range_with_len, get_or-map-range_with_len}
use Rattle.std.specs.List.{find, range_with_len}
use Rattle.std.specs.Prelude.{replicate}
use Rattle.std.specs.Option.{option_or}
use Rattle.machine.proofs.TableFaults.{find-none}
use Rattle.definitions.specs.Bytes.{zero_page}
use Rattle.definitions.specs.Tables.{with_frame}
use Rattle.dump_file.specs.Dump.{frame_before, is_above, record_fault}
use Rattle.dump_file.specs.Fields.{content, contents, page_of, record_byte, record_frame, record_page}
use Rattle.dump_file.proofs.RecordFaults.{is_in_order}
use Rattle.dump_file.proofs.ZoneRecords.{range-append}

-- no record is there yet
pub contents-none : (bytes : List ℕ) (first n : ℕ) → contents bytes first 0 n ≡ replicate n zero_page
unfolding contents
contents-none bytes first n =
    let all : List (List ℕ) = map (content bytes first 0) (range_with_len 0 n) in
    let size : length all ≡ n = length-map-range_with_len (content bytes first 0) 0 n in
    same_lists all (replicate n zero_page) (size ∙ sym (length-replicate n zero_page))
    (λ i d lt.
    let within : i < n = omega (arith, lt, size) in
    let place : 0 + i ≡ i = omega arith in
    get_or-map-range_with_len (content bytes first 0) 0 n i i d within place ∙ sym (get_or-replicate n i zero_page d within))

-- the page frames of records ascend
pub above_all : (zones : List (ℕ × ℕ)) (bytes : List ℕ) (first j : ℕ) → ((i : ℕ) → i < j → record_fault zones bytes first i ≡ None) → (p : ℕ) → is_above (frame_before bytes first j) p ≡ true → (i : ℕ) → i < j → record_frame bytes first i < p
above_all zones bytes first zero h p above i lt = absurd (omega (arith, lt))
above_all zones bytes first (suc k) h p above i lt =
    let last : record_frame bytes first k < p = ltb-true (record_frame bytes first k) p above in
    elim (cases_lt i k) [
      | inl below ↦
          let before = above_all zones bytes first k (λ m m_lt. h m (omega (arith, m_lt))) (record_frame bytes first k) (is_in_order zones bytes (frame_before bytes first k) (record_byte first k) (h k (omega arith))) i below in
          omega (arith, before, last)
      | inr ge ↦
          let same : k ≡ i = omega (arith, ge, lt) in
          subst (λ (m : ℕ). record_frame bytes first m < p) same last
    ]

-- a page frame that no record has
find_none : (bytes : List ℕ) (first p j : ℕ) → ((i : ℕ) → i < j → record_frame bytes first i ≡ p → ⊥) → find (λ i. record_frame bytes first i == p) (range_with_len 0 j) ≡ None
find_none bytes first p j h =
    find-none (λ i. record_frame bytes first i == p) 0 j
    (λ i lt. let place : i ≡ 0 + i = omega arith in subst (λ (k : ℕ). (record_frame bytes first k == p) ≡ false) place (ne_eqb (record_frame bytes first i) p (h i lt)))

-- the record of a page frame, among one more
find_parts : (bytes : List ℕ) (first p j : ℕ) → find (λ i. record_frame bytes first i == p) (range_with_len 0 (j + 1)) ≡ option_or (find (λ i. record_frame bytes first i == p) (range_with_len 0 j)) (cond (record_frame bytes first j == p) (Some j) None)
find_parts bytes first p j =
    let last : 0 + j ≡ j = omega arith in
    ap (find (λ i. record_frame bytes first i == p)) (range-append 0 j 1)
    ∙ find-append (λ i. record_frame bytes first i == p) (range_with_len 0 j) (range_with_len (0 + j) 1)
    ∙ ap (λ (k : ℕ). option_or (find (λ i. record_frame bytes first i == p) (range_with_len 0 j)) (cond (record_frame bytes first k == p) (Some k) None)) last

or_none : (o : Option ℕ) → option_or o None ≡ o
or_none None = refl
or_none (Some x) = refl

find_other : (bytes : List ℕ) (first p j : ℕ) → (record_frame bytes first j ≡ p → ⊥) → find (λ i. record_frame bytes first i == p) (range_with_len 0 (j + 1)) ≡ find (λ i. record_frame bytes first i == p) (range_with_len 0 j)
find_other bytes first p j ne =
    find_parts bytes first p j
    ∙ ap (λ (b : Bool). option_or (find (λ i. record_frame bytes first i == p) (range_with_len 0 j)) (cond b (Some j) None)) (ne_eqb (record_frame bytes first j) p ne)
    ∙ or_none (find (λ i. record_frame bytes first i == p) (range_with_len 0 j))

find_this : (bytes : List ℕ) (first p j : ℕ) → record_frame bytes first j ≡ p → ((i : ℕ) → i < j → record_frame bytes first i < p) → find (λ i. record_frame bytes first i == p) (range_with_len 0 (j + 1)) ≡ Some j
find_this bytes first p j is below =
    find_parts bytes first p j
    ∙ ap (λ (o : Option ℕ). option_or o (cond (record_frame bytes first j == p) (Some j) None)) (find_none bytes first p j (λ i lt e. let less = below i lt in omega (arith, less, e)))
    ∙ ap (λ (b : Bool). cond b (Some j) None) (eq-eqb (record_frame bytes first j) p is)

-- one record more
pub contents-more : (bytes : List ℕ) (first j n p : ℕ) → p ≡ record_frame bytes first j → p < n → ((i : ℕ) → i < j → record_frame bytes first i < p) → with_frame (contents bytes first j n) p (record_page bytes first j) ≡ contents bytes first (j + 1) n
unfolding contents
contents-more bytes first j n p is within below =
    let old : List (List ℕ) = map (content bytes first j) (range_with_len 0 n) in
    let new : List (List ℕ) = map (content bytes first (j + 1)) (range_with_len 0 n) in
    let page = record_page bytes first j in
    let old_size : length old ≡ n = length-map-range_with_len (content bytes first j) 0 n in
    let new_size : length new ≡ n = length-map-range_with_len (content bytes first (j + 1)) 0 n in
    let set_size : length (set old p page) ≡ length old = length-set old p page in
    same_lists (set old p page) new (set_size ∙ old_size ∙ sym new_size)
    (λ q d lt.
    let q_in : q < n = omega (arith, lt, set_size, old_size) in
    let place : 0 + q ≡ q = omega arith in
    let after : get_or new q d ≡ content bytes first (j + 1) q = get_or-map-range_with_len (content bytes first (j + 1)) 0 n q q d q_in place in
    elim (cases_eq q p) [
      | inl same ↦
          let here : p < length old = omega (arith, old_size, within) in
          ap (λ (k : ℕ). get_or (set old p page) k d) same ∙ get_or-set_same old p page d here
          ∙ sym (ap (page_of bytes first) (find_this bytes first q j (sym is ∙ sym same) (λ i i_lt. let less = below i i_lt in omega (arith, less, same))))
          ∙ sym after
      | inr other ↦
          get_or-set_other old p q page d other
          ∙ get_or-map-range_with_len (content bytes first j) 0 n q q d q_in place
          ∙ sym (ap (page_of bytes first) (find_other bytes first q j (λ e. other (sym e ∙ sym is))))
          ∙ sym after
    ])
