-- The extents of a dump of version 2, when the first n have been read.
use Rattle.std.proofs.Common.{◌≡◌, ℕ, ◌+◌, ◌-◌, ◌*◌, ◌<◌, ◌≤◌, zero, suc, Bool, true, false, eqb, ◌&&◌, List, [], ◌∷◌, cond, length, map, Some, None, refl, sym, ap, ap₂, ◌∙◌, subst, inl, inr, arith}
use Rattle.std.proofs.lemmas.Bool.{cases_Bool, cases_lt}
use Rattle.std.proofs.lemmas.List.FromFn.{get_or-map-range_with_len, length-map-range_with_len}
use Rattle.std.specs.List.{range_with_len}
use Rattle.definitions.specs.Slots.{extent_end, slots_before, slots_of}
use Rattle.definitions.specs.FileMaps.{IsInOrder, LieApart}
use Rattle.definitions.specs.Slots as slot
use Rattle.machine.specs.HardFault.{is_extent}
use Rattle.dump_file.specs.Dump.{cover_fault, extent_count_fault, extent_fault, extents_fault, map_fault, offset_fault, unless, wanted}
use Rattle.dump_file.specs.Fields.{extent_at, extent_byte, extent_count, extents, first_extent, is_second, map_byte, number, slots}
use Rattle.dump_file.specs.Reading.{HasExtents, HasMap}
use Rattle.dump_file.specs.declared.dump.DumpFault.{DumpFault}
use Rattle.dump_file.specs.declared.dump.DumpKind.TheVariants.{Extent}
use Rattle.std.specs.Prelude.{nat_le}
use Rattle.plain_machine.specs.Chain.{or_else}
use Rattle.dump_file.proofs.Chains.{or_else-more, or_else-none, or_else-some, unless-false, unless-true}
use Rattle.dump_file.proofs.ExtentFaults.{decides_order}
use Rattle.dump_file.proofs.Items.{item_right, items_right, items_short, items_wrong}

-- the extents of a dump of version 2
pub extents_are : (bytes : List ℕ) → is_second bytes ≡ true → extents bytes ≡ map (extent_at bytes (first_extent bytes)) (range_with_len 0 (extent_count bytes))
extents_are bytes e = ap (λ (b : Bool). cond b (map (extent_at bytes (first_extent bytes)) (range_with_len 0 (extent_count bytes))) ((0, slots bytes, 0) ∷ [])) e

pub extents_first : (bytes : List ℕ) → is_second bytes ≡ false → extents bytes ≡ ((0, slots bytes, 0) ∷ [])
extents_first bytes e = ap (λ (b : Bool). cond b (map (extent_at bytes (first_extent bytes)) (range_with_len 0 (extent_count bytes))) ((0, slots bytes, 0) ∷ [])) e

front_extent : (bytes : List ℕ) (first n j : ℕ) → j < n → slot.extent_at (map (extent_at bytes first) (range_with_len 0 n)) j ≡ extent_at bytes first j
front_extent bytes first n j lt = let place : 0 + j ≡ j = omega arith in get_or-map-range_with_len (extent_at bytes first) 0 n j j (0, 0, 0) lt place

before_same : (xs ys : List (ℕ × ℕ × ℕ)) (i : ℕ) → ((k : ℕ) → k ≤ i → slot.extent_at xs k ≡ slot.extent_at ys k) → slots_before xs i ≡ slots_before ys i
before_same xs ys zero same = refl
before_same xs ys (suc k) same = ap extent_end (same k (omega arith))

-- an extent that is in order among some is in order among more
order_same : (xs ys : List (ℕ × ℕ × ℕ)) (i : ℕ) → ((k : ℕ) → k ≤ i → slot.extent_at xs k ≡ slot.extent_at ys k) → IsInOrder xs i → IsInOrder ys i
order_same xs ys i same h = record {
  start = ap (λ (e : ℕ × ℕ × ℕ). e.0) (sym (same i (omega arith))) ∙ h.start ∙ before_same xs ys i same;
  some = subst (λ (e : ℕ × ℕ × ℕ). 1 ≤ e.1) (same i (omega arith)) h.some;
  fits = subst (λ (e : ℕ × ℕ × ℕ). e.2 + e.1 ≤ 4294967295) (same i (omega arith)) h.fits;
  apart = λ j lt. subst (λ (e : ℕ × ℕ × ℕ). LieApart e (slot.extent_at ys i)) (same j (omega (arith, lt))) (subst (λ (e : ℕ × ℕ × ℕ). LieApart (slot.extent_at xs j) e) (same i (omega arith)) (h.apart j lt));
  header = subst (λ (e : ℕ × ℕ × ℕ). e.2 ≡ 0 → e.0 ≡ 0) (same i (omega arith)) h.header;
}

test_same : (xs ys : List (ℕ × ℕ × ℕ)) (i : ℕ) → ((k : ℕ) → k ≤ i → slot.extent_at xs k ≡ slot.extent_at ys k) → is_extent xs i ≡ is_extent ys i
test_same xs ys i same =
    elim (cases_Bool (is_extent xs i)) [
      | inl is ↦ is ∙ sym ((decides_order ys i).1 (order_same xs ys i same ((decides_order xs i).0 is)))
      | inr not_xs ↦ elim (cases_Bool (is_extent ys i)) [
        | inl is ↦ absurd (let both : false ≡ true = sym not_xs ∙ (decides_order xs i).1 (order_same ys xs i (λ k le. sym (same k le)) ((decides_order ys i).0 is)) in grind (arith, both))
        | inr not_ys ↦ not_xs ∙ sym not_ys
      ]
    ]

front_test : (bytes : List ℕ) (list : List (ℕ × ℕ × ℕ)) (there i : ℕ) → is_second bytes ≡ true → list ≡ map (extent_at bytes (first_extent bytes)) (range_with_len 0 there) → there ≤ extent_count bytes → i < there → is_extent list i ≡ is_extent (extents bytes) i
front_test bytes list there i second is few lt =
    let first = first_extent bytes in
    let all = map (extent_at bytes first) (range_with_len 0 (extent_count bytes)) in
    let front = map (extent_at bytes first) (range_with_len 0 there) in
    ap (λ (xs : List (ℕ × ℕ × ℕ)). is_extent xs i) is
    ∙ test_same front all i (λ k le. front_extent bytes first there k (omega (arith, le, lt)) ∙ sym (front_extent bytes first (extent_count bytes) k (omega (arith, le, lt, few))))
    ∙ ap (λ (xs : List (ℕ × ℕ × ℕ)). is_extent xs i) (sym (extents_are bytes second))

-- The extents that were read, where each was found to be in order.

as_front : (bytes : List ℕ) (first len n : ℕ) (list : List (ℕ × ℕ × ℕ)) → HasExtents bytes first len → list ≡ map (extent_at bytes first) (range_with_len 0 n) → list ≡ map (extent_at bytes (first_extent bytes)) (range_with_len 0 n)
as_front bytes first len n list h is = is ∙ ap (λ (k : ℕ). map (extent_at bytes k) (range_with_len 0 n)) h.first_is

extent_right : (bytes : List ℕ) (first len n i : ℕ) (list : List (ℕ × ℕ × ℕ)) → HasExtents bytes first len → list ≡ map (extent_at bytes first) (range_with_len 0 n) → n ≤ len → first + 12 * n ≤ length bytes → ((j : ℕ) → j < n → is_extent list j ≡ true) → i < n → extent_fault bytes i ≡ None
extent_right bytes first len n i list h is few there each lt =
    item_right bytes (extent_byte bytes) (is_extent (extents bytes)) Extent i (omega (arith, h.first_is, there, lt))
    (sym (front_test bytes list n i h.second (as_front bytes first len n list h is) (omega (arith, few, h.len_is)) lt) ∙ each i lt)

pub extent_short : (bytes : List ℕ) (first len n : ℕ) (list : List (ℕ × ℕ × ℕ)) (f : DumpFault) → HasExtents bytes first len → list ≡ map (extent_at bytes first) (range_with_len 0 n) → n < len → first + 12 * n ≤ length bytes → ((j : ℕ) → j < n → is_extent list j ≡ true) → wanted bytes (first + 12 * n + 12) ≡ Some f → extents_fault bytes ≡ Some f
extent_short bytes first len n list f h is less there each short =
    let place : extent_byte bytes (n + 1) ≡ first + 12 * n + 12 = omega (arith, h.first_is) in
    items_short bytes (extent_byte bytes) (is_extent (extents bytes)) Extent (extent_count bytes) n f (omega (arith, less, h.len_is))
    (λ i lt. extent_right bytes first len n i list h is (omega (arith, less)) there each lt) (ap (wanted bytes) place ∙ short)

pub extent_wrong : (bytes : List ℕ) (first len n : ℕ) (before list : List (ℕ × ℕ × ℕ)) → HasExtents bytes first len → before ≡ map (extent_at bytes first) (range_with_len 0 n) → list ≡ map (extent_at bytes first) (range_with_len 0 (n + 1)) → n < len → first + 12 * n + 12 ≤ length bytes → ((j : ℕ) → j < n → is_extent before j ≡ true) → (((j : ℕ) → j < length list → is_extent list j ≡ true) → ⊥) → extents_fault bytes ≡ Some (record { kind = Extent; at = first + 12 * n })
extent_wrong bytes first len n before list h before_is is less there each never =
    let size : length list ≡ n + 1 = ap length is ∙ length-map-range_with_len (extent_at bytes first) 0 (n + 1) in
    let early : (j : ℕ) → j < n → is_extent (extents bytes) j ≡ true =
    λ j lt. sym (front_test bytes before n j h.second (as_front bytes first len n before h before_is) (omega (arith, less, h.len_is)) lt) ∙ each j lt in
    let all : is_extent (extents bytes) n ≡ true → (j : ℕ) → j < length list → is_extent list j ≡ true =
    λ last j lt.
    front_test bytes list (n + 1) j h.second (as_front bytes first len (n + 1) list h is) (omega (arith, less, h.len_is)) (omega (arith, lt, size))
    ∙ elim (cases_lt j n) [
      | inl below ↦ early j below
      | inr ge ↦ let same : n ≡ j = omega (arith, ge, lt, size) in subst (λ (k : ℕ). is_extent (extents bytes) k ≡ true) same last
    ] in
    let wrong : is_extent (extents bytes) n ≡ false =
    elim (cases_Bool (is_extent (extents bytes) n)) [ inl last ↦ absurd (never (all last)) | inr last ↦ last ] in
    let place : extent_byte bytes n ≡ first + 12 * n = omega (arith, h.first_is) in
    items_wrong bytes (extent_byte bytes) (is_extent (extents bytes)) Extent (extent_count bytes) n (omega (arith, less, h.len_is))
    (λ i lt. extent_right bytes first len n i before h before_is (omega (arith, less)) (omega (arith, there)) each lt)
    (omega (arith, there, h.first_is)) wrong
    ∙ ap (λ (k : ℕ). Some (record { kind = Extent; at = k })) place

pub extents_right : (bytes : List ℕ) (first len n : ℕ) (list : List (ℕ × ℕ × ℕ)) → HasExtents bytes first len → list ≡ map (extent_at bytes first) (range_with_len 0 n) → n ≡ len → first + 12 * n ≤ length bytes → ((j : ℕ) → j < n → is_extent list j ≡ true) → extents_fault bytes ≡ None
extents_right bytes first len n list h is all there each =
    items_right bytes (extent_byte bytes) (is_extent (extents bytes)) Extent (extent_count bytes)
    (λ i lt. extent_right bytes first len n i list h is (omega (arith, all)) there each (omega (arith, lt, all, h.len_is)))

-- all were read
pub whole_list : (bytes : List ℕ) (first len n : ℕ) (list : List (ℕ × ℕ × ℕ)) → HasExtents bytes first len → n ≡ len → list ≡ map (extent_at bytes first) (range_with_len 0 n) → list ≡ extents bytes
whole_list bytes first len n list h all is =
    as_front bytes first len n list h is
    ∙ ap (λ (k : ℕ). map (extent_at bytes (first_extent bytes)) (range_with_len 0 k)) (all ∙ h.len_is)
    ∙ sym (extents_are bytes h.second)

-- The file map, by the extents that were read.

pub map_extents : (bytes : List ℕ) (m s len : ℕ) → HasMap bytes m s → len ≡ number bytes (m + 4) → HasExtents bytes (m + 8) len
map_extents bytes m s len h len_is = record {
  second = h.second;
  first_is = ap (λ (k : ℕ). k + 8) h.map_is;
  len_is = len_is ∙ ap (λ (k : ℕ). number bytes (k + 4)) h.map_is;
}

map_there : (bytes : List ℕ) (m s : ℕ) → HasMap bytes m s → wanted bytes (m + 8) ≡ None → wanted bytes (map_byte bytes + 8) ≡ None
map_there bytes m s h none = ap (λ (k : ℕ). wanted bytes (k + 8)) (sym h.map_is) ∙ none

count_test : (bytes : List ℕ) (m s len : ℕ) → HasMap bytes m s → len ≡ number bytes (m + 4) → extent_count_fault bytes ≡ unless (nat_le 1 len && nat_le len 64) Extent (m + 4)
count_test bytes m s len h len_is =
    ap₂ (λ (n k : ℕ). unless (nat_le 1 n && nat_le n 64) Extent (k + 4)) (ap (λ (k : ℕ). number bytes (k + 4)) (sym h.map_is) ∙ sym len_is) (sym h.map_is)

pub map_short : (bytes : List ℕ) (m s : ℕ) (f : DumpFault) → HasMap bytes m s → wanted bytes (m + 8) ≡ Some f → map_fault bytes ≡ Some f
unfolding map_fault
map_short bytes m s f h short = or_else-some (wanted bytes (map_byte bytes + 8)) _ f (ap (λ (k : ℕ). wanted bytes (k + 8)) (sym h.map_is) ∙ short)

pub map_count : (bytes : List ℕ) (m s len : ℕ) → HasMap bytes m s → len ≡ number bytes (m + 4) → wanted bytes (m + 8) ≡ None → (nat_le 1 len && nat_le len 64) ≡ false → map_fault bytes ≡ Some (record { kind = Extent; at = m + 4 })
unfolding map_fault
map_count bytes m s len h len_is there wrong =
    or_else-none (wanted bytes (map_byte bytes + 8)) _ (map_there bytes m s h there)
    ∙ or_else-some (extent_count_fault bytes) _ (record { kind = Extent; at = m + 4 }) (count_test bytes m s len h len_is ∙ unless-false _ Extent (m + 4) wrong)

-- the number of extents is right
pub map_list : (bytes : List ℕ) (m s len : ℕ) → HasMap bytes m s → len ≡ number bytes (m + 4) → wanted bytes (m + 8) ≡ None → (nat_le 1 len && nat_le len 64) ≡ true → map_fault bytes ≡ or_else (extents_fault bytes) (or_else (cover_fault bytes) (offset_fault bytes))
unfolding map_fault
map_list bytes m s len h len_is there right =
    or_else-none (wanted bytes (map_byte bytes + 8)) _ (map_there bytes m s h there)
    ∙ or_else-none (extent_count_fault bytes) _ (count_test bytes m s len h len_is ∙ unless-true _ Extent (m + 4) right)
    ∙ or_else-more (extents_fault bytes) (cover_fault bytes) (offset_fault bytes)

pub cover_is : (bytes : List ℕ) (list : List (ℕ × ℕ × ℕ)) (m s len at : ℕ) (b : Bool) → HasMap bytes m s → len ≡ number bytes (m + 4) → list ≡ extents bytes → b ≡ eqb (slots_of list) s → at ≡ m + 8 + 12 * (len - 1) → cover_fault bytes ≡ unless b Extent at
cover_is bytes list m s len at b h len_is list_is b_is at_is =
    let place : extent_byte bytes (extent_count bytes - 1) ≡ at =
    ap₂ (λ (k n : ℕ). k + 8 + 12 * (n - 1)) (sym h.map_is) (ap (λ (k : ℕ). number bytes (k + 4)) (sym h.map_is) ∙ sym len_is) ∙ sym at_is in
    let test : eqb (slots_of (extents bytes)) (slots bytes) ≡ b = ap₂ (λ (xs : List (ℕ × ℕ × ℕ)) (n : ℕ). eqb (slots_of xs) n) (sym list_is) (sym h.slots_are) ∙ sym b_is in
    ap₂ (λ (t : Bool) (k : ℕ). unless t Extent k) test place

pub offset_is : (bytes : List ℕ) (list : List (ℕ × ℕ × ℕ)) (m s n : ℕ) → HasMap bytes m s → n ≡ number bytes m → list ≡ extents bytes → offset_fault bytes ≡ unless (eqb n (slot.extent_at list 0).2) Extent m
offset_is bytes list m s n h n_is list_is =
    let number_is : number bytes (map_byte bytes) ≡ n = ap (number bytes) (sym h.map_is) ∙ sym n_is in
    ap₂ (λ (k : ℕ) (xs : List (ℕ × ℕ × ℕ)). unless (eqb k (slot.extent_at xs 0).2) Extent (map_byte bytes)) number_is (sym list_is)
    ∙ ap (unless (eqb n (slot.extent_at list 0).2) Extent) (sym h.map_is)
