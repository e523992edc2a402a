-- What the records of a written dump say.
use Rattle.std.proofs.Common.{◌≡◌, ℕ, zero, suc, ◌+◌, ◌*◌, ◌<◌, Bool, true, false, cond, not, List, [], ◌∷◌, All, length, get_or, Option, Some, None, refl, sym, ap, ◌∙◌, subst, inl, inr, length-append, arith}
use Rattle.std.specs.Prelude.{◌==◌}
use Rattle.std.proofs.lemmas.Bool.{cases_Bool, eq-eqb, eqb-true, lt-ltb}
use Rattle.std.proofs.lemmas.Bool.Decides.{Decides-eqb}
use Rattle.std.proofs.lemmas.List.{get_or_default}
use Rattle.std.proofs.lemmas.List.Elements.{Contains-get_or}
use Rattle.std.proofs.lemmas.List.Kept.{IsStrictlyIncreasing-filter}
use Rattle.std.proofs.lemmas.Option.{none-some}
use Rattle.std.specs.Cmp.Lexicographic.{pointwise_decides}
use Rattle.std.specs.List.{find, range_with_len, Contains}
use Rattle.std.specs.List.Sorted.{IsStrictlyIncreasing}
use Rattle.std.specs.Option.{unwrap_or}
use Rattle.definitions.specs.Bytes.{zero_page, IsPage}
use Rattle.definitions.specs.Tables.{frame}
use Rattle.definitions.specs.Zones.{numbers, top}
use Rattle.definitions.specs.ZoneFacts.{AreZones}
use Rattle.definitions.proofs.Ascending.{Contains-cons_cases, Contains-head, Contains-nil, Contains-tail}
use Rattle.definitions.proofs.FrameSets.{Contains-filter, Contains-from_filter}
use Rattle.definitions.proofs.ZoneNumbers.{below_top, range-bounds, top_at_most, Contains-range, IsStrictlyIncreasing-numbers}
use Rattle.machine.proofs.Rows.{any_Contains, any_true, valid_true}
use Rattle.plain_machine.specs.Image.{is_zeros}
use Rattle.plain_machine.specs.Machine.{is_valid, Hardware, Memory}
use Rattle.dump_file.specs.Dump.{frame_before, is_above, record_fault, records_fault}
use Rattle.dump_file.specs.Fields.{content, contents, page_of, record_byte, record_frame, record_page}
use Rattle.dump_file.specs.ReadBack.{carried_frame, carried_memory}
use Rattle.dump_file.specs.Written.{nonzero, number_bytes, record_bytes, records_bytes}
use Rattle.dump_file.proofs.Chains.{first-none, map-same, wanted-there}
use Rattle.dump_file.proofs.Numbers.{length-number_bytes}
use Rattle.dump_file.proofs.Places.{bytes_stand, first_stands, length-pieces, number_stands, piece_stands, second_stands, StandsAt}
use Rattle.dump_file.proofs.RecordFaults.{no_fault}

-- The page frames that have a record.

abbrev pub kept : List (ℕ × ℕ) → Memory → List ℕ
kept zones m = nonzero m (numbers zones)

kept_valid : (zones : List (ℕ × ℕ)) (m : Memory) (j : ℕ) → j < length (kept zones m) → Contains (numbers zones) (get_or (kept zones m) j 0)
kept_valid zones m j lt =
    let from = Contains-from_filter (λ p. not (is_zeros (frame m p))) (numbers zones) (get_or (kept zones m) j 0) (Contains-get_or (kept zones m) j 0 lt) in
    from.0

-- a memory has a page for each page frame number below the zones' top
pub record HasPages (zones : List (ℕ × ℕ)) (m : Memory) : Type 0 where
  pub are : AreZones zones
  pub pages : All IsPage m
  pub size : length m ≡ top zones

length-record : (zones : List (ℕ × ℕ)) (m : Memory) (j : ℕ) → HasPages zones m → j < length (kept zones m) → length (record_bytes m (get_or (kept zones m) j 0)) ≡ 4100
length-record zones m j has lt =
    let p = get_or (kept zones m) j 0 in
    let below = below_top zones p has.are.apart (kept_valid zones m j lt) in
    let page : length (frame m p) ≡ 4096 = has.pages p [] (omega (arith, below, has.size)) in
    omega (arith, length-append (number_bytes p) (frame m p), length-number_bytes p, page)

pub length-records : (zones : List (ℕ × ℕ)) (m : Memory) → HasPages zones m → length (records_bytes m (numbers zones)) ≡ 4100 * length (kept zones m)
length-records zones m has = length-pieces (record_bytes m) 4100 (kept zones m) 0 (λ j lt. length-record zones m j has lt)

-- what the records say, if the first one begins at byte `first`
pub record HasRecords (zones : List (ℕ × ℕ)) (m : Memory) (text : List ℕ) (first : ℕ) : Type 0 where
  pub frames : (j : ℕ) → j < length (kept zones m) → record_frame text first j ≡ get_or (kept zones m) j 0
  pub pages : (j : ℕ) → j < length (kept zones m) → record_page text first j ≡ frame m (get_or (kept zones m) j 0)

pub records_stand : (zones : List (ℕ × ℕ)) (m : Memory) (text : List ℕ) (first : ℕ) → HasPages zones m → StandsAt text first (records_bytes m (numbers zones)) → HasRecords zones m text first
records_stand zones m text first has all =
    let here : (j : ℕ) → j < length (kept zones m) → StandsAt text (record_byte first j) (record_bytes m (get_or (kept zones m) j 0)) =
    λ j lt. piece_stands (record_bytes m) 4100 text first (kept zones m) j 0 (λ i i_lt. length-record zones m i has i_lt) lt all in
    let top_low = top_at_most zones has.are in
    record {
      frames =
          λ j lt.
          let p = get_or (kept zones m) j 0 in
          let below = below_top zones p has.are.apart (kept_valid zones m j lt) in
          number_stands text (record_byte first j) p (omega (arith, below, top_low)) (first_stands text (record_byte first j) (number_bytes p) (frame m p) (here j lt));
      pages =
          λ j lt.
          let p = get_or (kept zones m) j 0 in
          let below = below_top zones p has.are.apart (kept_valid zones m j lt) in
          bytes_stand text (record_byte first j + 4) 4096 (frame m p) (has.pages p [] (omega (arith, below, has.size)))
          (second_stands text (record_byte first j) (number_bytes p) (frame m p) 4 (length-number_bytes p) (here j lt));
    }

-- The records that were written have no fault.

above : (zones : List (ℕ × ℕ)) (m : Memory) (text : List ℕ) (first j : ℕ) → HasPages zones m → HasRecords zones m text first → j < length (kept zones m) → is_above (frame_before text first j) (record_frame text first j) ≡ true
above zones m text first zero has says lt = refl
above zones m text first (suc i) has says lt =
    let rise : IsStrictlyIncreasing (kept zones m) = IsStrictlyIncreasing-filter (λ p. not (is_zeros (frame m p))) (numbers zones) (IsStrictlyIncreasing-numbers zones has.are.apart) in
    let next : i + 1 ≡ suc i = omega arith in
    let less : get_or (kept zones m) i 0 < get_or (kept zones m) (suc i) 0 = subst (λ (k : ℕ). get_or (kept zones m) i 0 < get_or (kept zones m) k 0) next (rise i (omega (arith, lt))) in
    let old = says.frames i (omega (arith, lt)) in
    let new = says.frames (suc i) lt in
    lt-ltb (record_frame text first i) (record_frame text first (suc i)) (omega (arith, less, old, new))

pub no_record_fault : (zones : List (ℕ × ℕ)) (m : Memory) (text : List ℕ) (first : ℕ) → HasPages zones m → HasRecords zones m text first → length text ≡ first + 4100 * length (kept zones m) → records_fault zones text first (length (kept zones m)) ≡ None
unfolding records_fault
no_record_fault zones m text first has says size =
    first-none (record_fault zones text first) 0 (length (kept zones m))
    (λ j from lt.
    let within : j < length (kept zones m) = omega (arith, lt) in
    let k = record_byte first j in
    let is = says.frames j within in
    no_fault zones text (frame_before text first j) k (wanted-there text (k + 4) (omega (arith, size, within)))
    (any_true (numbers zones) (record_frame text first j) (subst (λ (p : ℕ). Contains (numbers zones) p) (sym is) (kept_valid zones m j within)))
    (above zones m text first j has says within)
    (wanted-there text (k + 4 + 4096) (omega (arith, size, within))))

-- What the records leave in the page frames.

-- the first of a list that passes a test is of the list, and passes it
found : (test : ℕ → Bool) (xs : List ℕ) (x : ℕ) → find test xs ≡ Some x → Contains xs x × (test x ≡ true)
found test [] x e = absurd (none-some x e)
found test (y ∷ ys) x e = elim (cases_Bool (test y)) [
  | inl is ↦
      let same : y ≡ x = ap (λ (o : Option ℕ). unwrap_or o 0) (sym (ap (λ (c : Bool). cond c (Some y) (find test ys)) is) ∙ e) in
      (subst (λ (z : ℕ). Contains (y ∷ ys) z) same (Contains-head y ys), subst (λ (z : ℕ). test z ≡ true) same is)
  | inr fails ↦
      let rest = found test ys x (sym (ap (λ (c : Bool). cond c (Some y) (find test ys)) fails) ∙ e) in
      (Contains-tail y ys x rest.0, rest.1)
]

missed : (test : ℕ → Bool) (xs : List ℕ) (x : ℕ) → find test xs ≡ None → Contains xs x → test x ≡ false
missed test [] x e in' = absurd (Contains-nil x in')
missed test (y ∷ ys) x e in' = elim (cases_Bool (test y)) [
  | inl is ↦ absurd (none-some y (sym e ∙ ap (λ (c : Bool). cond c (Some y) (find test ys)) is))
  | inr fails ↦ elim (Contains-cons_cases y ys x in') [
    | inl same ↦ subst (λ (z : ℕ). test z ≡ false) same fails
    | inr later ↦ missed test ys x (sym (ap (λ (c : Bool). cond c (Some y) (find test ys)) fails) ∙ e) later
  ]
]

zeros_are : (page : List ℕ) → is_zeros page ≡ true → page ≡ zero_page
zeros_are page is = let decides = pointwise_decides (λ a b. Decides-eqb a b) page zero_page in decides.0 is

pub carried-valid : (h : Hardware) (m : Memory) (p : ℕ) → Contains (numbers h.zones) p → carried_frame h m p ≡ frame m p
carried-valid h m p in' = ap (λ (b : Bool). cond b (frame m p) zero_page) (valid_true h p in')

-- a page frame without a record is all zero, if it is valid
without_record : (h : Hardware) (m : Memory) (p : ℕ) → ((j : ℕ) → j < length (kept h.zones m) → get_or (kept h.zones m) j 0 ≡ p → ⊥) → zero_page ≡ carried_frame h m p
without_record h m p never = elim (cases_Bool (is_valid h p)) [
  | inr invalid ↦ sym (ap (λ (b : Bool). cond b (frame m p) zero_page) invalid)
  | inl valid ↦ elim (cases_Bool (is_zeros (frame m p))) [
    | inl zeros ↦ sym (ap (λ (b : Bool). cond b (frame m p) zero_page) valid ∙ zeros_are (frame m p) zeros)
    | inr some ↦
        let here : Contains (kept h.zones m) p = Contains-filter (λ q. not (is_zeros (frame m q))) (numbers h.zones) p (any_Contains (numbers h.zones) p valid) (ap not some) in
        absurd (member_of (kept h.zones m) p here never)
  ]
]
  where
    member_of : (xs : List ℕ) (q : ℕ) → Contains xs q → ((j : ℕ) → j < length xs → get_or xs j 0 ≡ q → ⊥) → ⊥
    member_of xs q in' none = none in'.0 in'.1 (get_or_default xs in'.0 0 q in'.1 ∙ in'.2)

content_by : (h : Hardware) (m : Memory) (text : List ℕ) (first p : ℕ) (o : Option ℕ) → HasRecords h.zones m text first → find (λ j. record_frame text first j == p) (range_with_len 0 (length (kept h.zones m))) ≡ o → page_of text first o ≡ carried_frame h m p
content_by h m text first p (Some j) says e =
    let n = length (kept h.zones m) in
    let at = found (λ i. record_frame text first i == p) (range_with_len 0 n) j e in
    let bounds = range-bounds 0 n j at.0 in
    let within : j < n = let below = bounds.1 in omega (arith, below) in
    let is : get_or (kept h.zones m) j 0 ≡ p = sym (says.frames j within) ∙ eqb-true (record_frame text first j) p at.1 in
    says.pages j within ∙ ap (frame m) is
    ∙ sym (carried-valid h m p (subst (λ (q : ℕ). Contains (numbers h.zones) q) is (kept_valid h.zones m j within)))
content_by h m text first p None says e =
    let n = length (kept h.zones m) in
    without_record h m p
    (λ j lt is.
    let miss = missed (λ i. record_frame text first i == p) (range_with_len 0 n) j e (Contains-range 0 n j (omega arith) (omega (arith, lt))) in
    let hit : (record_frame text first j == p) ≡ true = eq-eqb (record_frame text first j) p (says.frames j lt ∙ is) in
    let both : false ≡ true = sym miss ∙ hit in
    grind (arith, both))

pub contents_are : (h : Hardware) (m : Memory) (text : List ℕ) (first : ℕ) → HasRecords h.zones m text first → contents text first (length (kept h.zones m)) (top h.zones) ≡ carried_memory h m
unfolding contents carried_memory
contents_are h m text first says =
    map-same (content text first (length (kept h.zones m))) (carried_frame h m) 0 (top h.zones)
    (λ p from lt. content_by h m text first p (find (λ j. record_frame text first j == p) (range_with_len 0 (length (kept h.zones m)))) says refl)
