-- Which table frames are at fault, and memories whose tables fit.
use Rattle.std.proofs.Common.{◌≡◌, ℕ, ◌+◌, ◌/◌, ◌<◌, ◌≤◌, inl, inr, zero, suc, Bool, true, false, not, eqb, cond, ◌&&◌, ◌||◌, List, [], ◌∷◌, ◌++◌, length, ◌↔◌, Option, Some, None, Result, Ok, Err, refl, sym, ap, ap₂, ◌∙◌, subst, arith}
use Rattle.std.proofs.lemmas.Bool.{both_ways, cases_Bool, eqb-true, eq-eqb, false≢true, lt-ltb, le-ltb, not-false}
use Rattle.std.proofs.lemmas.Option.{none-some}
use Rattle.std.proofs.lemmas.List.Folds.{find-append}
use Rattle.std.specs.List.{All, Contains, find, list_any, range_with_len}
use Rattle.std.specs.Option.{option_or}
use Rattle.std.specs.Result.{IfErr, IsOk, MatchResult, result_and}
use Rattle.definitions.specs.Bytes.{IsPage}
use Rattle.definitions.specs.Tables.{page_flags, is_saveable, owner_of}
use Rattle.definitions.specs.Zones.{numbers, top}
use Rattle.definitions.proofs.ZoneNumbers.{Contains-range, range-bounds}
use Rattle.plain_machine.specs.Machine.{Fits, Hardware, IsHardware, IsOfTable, IsTableFrame, Memory, frame_entry, frame_table_frames, is_slot_entry, is_table_at_fault, is_well_formed, raw_slot_entry, slot_table_frames, table_frames, table_len, tables_fault}
use Rattle.plain_machine.proofs.SameMemory.{of_frame_table, of_slot_table, tables_apart}
use Rattle.machine.proofs.ListTests.{any_at, any_none}
use Rattle.machine.proofs.PartTests.{in_table_frames}

-- Table frame f is not at fault.
pub record IsFaultless (h : Hardware) (m : Memory) (f : ℕ) : Type 0 where
  pub saveable : is_saveable (page_flags (frame_entry h m f)) ≡ true
  pub no_owner : owner_of (frame_entry h m f) ≡ 0
  pub entries : (p : ℕ) → Contains (numbers h.zones) p → h.frame_table + p / 1024 ≡ f → is_well_formed (frame_entry h m p) ≡ true
  pub slots : (s : ℕ) → s < h.slots → h.slot_table + s / 1024 ≡ f → is_slot_entry s (raw_slot_entry h m s) ≡ true

-- an entry that lies in page frame f of a table that begins at `first` fails its test
abbrev wrong_within : (test : ℕ → Bool) (first f k : ℕ) → Bool
wrong_within test first f k = eqb (first + k / 1024) f && not (test k)

within_right : (test : ℕ → Bool) (first f k : ℕ) → (first + k / 1024 ≡ f → test k ≡ true) → wrong_within test first f k ≡ false
within_right test first f k right = by_place (eqb (first + k / 1024) f) refl where
  by_place : (b : Bool) → eqb (first + k / 1024) f ≡ b → (b && not (test k)) ≡ false
  by_place true e = ap not (right (eqb-true (first + k / 1024) f e))
  by_place false e = refl

right_within : (test : ℕ → Bool) (first f k : ℕ) → wrong_within test first f k ≡ false → first + k / 1024 ≡ f → test k ≡ true
right_within test first f k none at =
    not-false (test k) (ap (λ (b : Bool). b && not (test k)) (sym (eq-eqb (first + k / 1024) f at)) ∙ none)

or_none : (a b : Bool) → (a || b) ≡ false → (a ≡ false) × (b ≡ false)
or_none true b e = absurd (false≢true (sym e))
or_none false b e = (refl, e)

-- none of a list passes where the whole doesn't
none_of : (test : ℕ → Bool) (xs : List ℕ) (x : ℕ) → list_any test xs ≡ false → Contains xs x → test x ≡ false
none_of test xs x none in' = elim (cases_Bool (test x)) [
  | inl e ↦ absurd (both_ways (list_any test xs) none (any_at test xs x in' e))
  | inr e ↦ e
]

pub at_fault-faultless : (h : Hardware) (m : Memory) (f : ℕ) → IsFaultless h m f → is_table_at_fault h m f ≡ false
at_fault-faultless h m f fine =
    let entry = frame_entry h m f in
    let a = ap not fine.saveable in
    let b = ap not (eq-eqb (owner_of entry) 0 fine.no_owner) in
    let c = any_none (wrong_within (λ p. is_well_formed (frame_entry h m p)) h.frame_table f) (numbers h.zones)
    (λ p in'. within_right (λ q. is_well_formed (frame_entry h m q)) h.frame_table f p (fine.entries p in')) in
    let d = any_none (wrong_within (λ s. is_slot_entry s (raw_slot_entry h m s)) h.slot_table f) (range_with_len 0 h.slots)
    (λ s in'. within_right (λ t. is_slot_entry t (raw_slot_entry h m t)) h.slot_table f s (let bounds = range-bounds 0 h.slots s in' in let below = bounds.1 in fine.slots s (omega arith))) in
    let both : Bool → Bool → Bool = λ x y. x || y in
    ap₂ both (ap₂ both (ap₂ both a b) c) d

pub faultless-at_fault : (h : Hardware) (m : Memory) (f : ℕ) → is_table_at_fault h m f ≡ false → IsFaultless h m f
faultless-at_fault h m f none =
    let entry = frame_entry h m f in
    let wrong_entry = wrong_within (λ p. is_well_formed (frame_entry h m p)) h.frame_table f in
    let wrong_slot = wrong_within (λ s. is_slot_entry s (raw_slot_entry h m s)) h.slot_table f in
    let abc = or_none (not (is_saveable (page_flags entry)) || not (eqb (owner_of entry) 0) || list_any wrong_entry (numbers h.zones)) (list_any wrong_slot (range_with_len 0 h.slots)) none in
    let ab = or_none (not (is_saveable (page_flags entry)) || not (eqb (owner_of entry) 0)) (list_any wrong_entry (numbers h.zones)) abc.0 in
    let own = or_none (not (is_saveable (page_flags entry))) (not (eqb (owner_of entry) 0)) ab.0 in
    record {
      saveable = not-false (is_saveable (page_flags entry)) own.0;
      no_owner = eqb-true (owner_of entry) 0 (not-false (eqb (owner_of entry) 0) own.1);
      entries = λ p in' at. right_within (λ q. is_well_formed (frame_entry h m q)) h.frame_table f p (none_of wrong_entry (numbers h.zones) p ab.1 in') at;
      slots = λ s lt at. right_within (λ t. is_slot_entry t (raw_slot_entry h m t)) h.slot_table f s (none_of wrong_slot (range_with_len 0 h.slots) s abc.1 (Contains-range 0 h.slots s (omega arith) (omega arith))) at;
    }

-- a test that says which table frames are faultless
pub decides_fault : (h : Hardware) (m : Memory) (f : ℕ) (b : Bool) → (b ≡ true → IsFaultless h m f) → (IsFaultless h m f → b ≡ true) → b ≡ not (is_table_at_fault h m f)
decides_fault h m f true sound whole = sym (ap not (at_fault-faultless h m f (sound refl)))
decides_fault h m f false sound whole =
    elim (cases_Bool (is_table_at_fault h m f)) [
      | inl e ↦ sym (ap not e)
      | inr e ↦ absurd (false≢true (whole (faultless-at_fault h m f e)))
    ]

-- a page frame of one table has no entry of the other
pub no_slot_within : (h : Hardware) (f s : ℕ) → IsHardware h → IsOfTable h.frame_table (top h.zones) f → s < h.slots → h.slot_table + s / 1024 ≡ f → ⊥
no_slot_within h f s hw of lt at = tables_apart h f hw of (subst (IsOfTable h.slot_table h.slots) at (of_slot_table h s lt))

pub no_entry_within : (h : Hardware) (f p : ℕ) → IsHardware h → IsOfTable h.slot_table h.slots f → Contains (numbers h.zones) p → h.frame_table + p / 1024 ≡ f → ⊥
no_entry_within h f p hw of in' at = tables_apart h f hw (subst (IsOfTable h.frame_table (top h.zones)) at (of_frame_table h p hw in')) of

-- page frame i of a table, from 0
pub of_run : (first entries i : ℕ) → i < table_len entries → IsOfTable first entries (first + i)
of_run first entries i lt = record { from = omega arith; below = omega arith }

-- what is known of the own entry of a table frame
abbrev pub IsUsed : Hardware → Memory → ℕ → Type 0
IsUsed h m f = (is_saveable (page_flags (frame_entry h m f)) ≡ true) × (owner_of (frame_entry h m f) ≡ 0)

-- the entries of valid page frames that lie in page frame i of the frame table are well formed, and those of slots in page
-- frame i of the slot table
abbrev pub HasRightEntries : Hardware → Memory → ℕ → Type 0
HasRightEntries h m i = (p : ℕ) → p / 1024 ≡ i → Contains (numbers h.zones) p → is_well_formed (frame_entry h m p) ≡ true

abbrev pub HasRightSlots : Hardware → Memory → ℕ → Type 0
HasRightSlots h m i = (s : ℕ) → s / 1024 ≡ i → s < h.slots → is_slot_entry s (raw_slot_entry h m s) ≡ true

pub decides_frame_table_frame : (h : Hardware) (m : Memory) (i : ℕ) (b : Bool) → IsHardware h → i < table_len (top h.zones) → (b ≡ true → IsUsed h m (h.frame_table + i) × HasRightEntries h m i) → (IsUsed h m (h.frame_table + i) → HasRightEntries h m i → b ≡ true) → b ≡ not (is_table_at_fault h m (h.frame_table + i))
decides_frame_table_frame h m i b hw lt sound whole =
    decides_fault h m (h.frame_table + i) b
    (λ e. record {
      saveable = (sound e).0.0;
      no_owner = (sound e).0.1;
      entries = λ p in' at. (sound e).1 p (omega arith) in';
      slots = λ s below at. absurd (no_slot_within h (h.frame_table + i) s hw (of_run h.frame_table (top h.zones) i lt) below at);
    })
    (λ fine. whole (fine.saveable, fine.no_owner) (λ p at in'. fine.entries p in' (omega arith)))

pub decides_slot_table_frame : (h : Hardware) (m : Memory) (i : ℕ) (b : Bool) → IsHardware h → i < table_len h.slots → (b ≡ true → IsUsed h m (h.slot_table + i) × HasRightSlots h m i) → (IsUsed h m (h.slot_table + i) → HasRightSlots h m i → b ≡ true) → b ≡ not (is_table_at_fault h m (h.slot_table + i))
decides_slot_table_frame h m i b hw lt sound whole =
    decides_fault h m (h.slot_table + i) b
    (λ e. record {
      saveable = (sound e).0.0;
      no_owner = (sound e).0.1;
      entries = λ p in' at. absurd (no_entry_within h (h.slot_table + i) p hw (of_run h.slot_table h.slots i lt) in' at);
      slots = λ s below at. (sound e).1 s (omega arith) below;
    })
    (λ fine. whole (fine.saveable, fine.no_owner) (λ s at below. fine.slots s below (omega arith)))

-- The first of a run of numbers that passes a test.

pub find-none : (test : ℕ → Bool) (a n : ℕ) → ((i : ℕ) → i < n → test (a + i) ≡ false) → find test (range_with_len a n) ≡ None
find-none test a zero out = refl
find-none test a (suc n) out =
    let here : a + 0 ≡ a = omega arith in
    ap (λ (b : Bool). cond b (Some a) (find test (range_with_len (a + 1) n))) (ap test (sym here) ∙ out 0 (omega arith))
    ∙ find-none test (a + 1) n (λ i lt. let next : a + 1 + i ≡ a + (i + 1) = omega arith in ap test next ∙ out (i + 1) (omega arith))

pub find-first : (test : ℕ → Bool) (a n i : ℕ) → i < n → ((j : ℕ) → j < i → test (a + j) ≡ false) → test (a + i) ≡ true → find test (range_with_len a n) ≡ Some (a + i)
find-first test a zero i lt before here = absurd (omega arith)
find-first test a (suc n) zero lt before here =
    let at : a + 0 ≡ a = omega arith in
    ap (λ (b : Bool). cond b (Some a) (find test (range_with_len (a + 1) n))) (ap test (sym at) ∙ here) ∙ ap Some (sym at)
find-first test a (suc n) (suc i) lt before here =
    let first : a + 0 ≡ a = omega arith in
    let at : a + suc i ≡ a + 1 + i = omega arith in
    ap (λ (b : Bool). cond b (Some a) (find test (range_with_len (a + 1) n))) (ap test (sym first) ∙ before 0 (omega arith))
    ∙ find-first test (a + 1) n i (omega arith) (λ j low. let next : a + 1 + j ≡ a + (j + 1) = omega arith in ap test next ∙ before (j + 1) (omega arith)) (ap test (sym at) ∙ here)
    ∙ ap Some (sym at)

-- where none is found, none passes
none_found : (test : ℕ → Bool) (xs : List ℕ) → find test xs ≡ None → list_any test xs ≡ false
none_found test [] e = refl
none_found test (x ∷ xs) e = elim (cases_Bool (test x)) [
  | inl is ↦ absurd (none-some x (sym e ∙ ap (λ (c : Bool). cond c (Some x) (find test xs)) is))
  | inr is ↦ ap (λ (c : Bool). c || list_any test xs) is ∙ none_found test xs (sym (ap (λ (c : Bool). cond c (Some x) (find test xs)) is) ∙ e)
]

-- Both tables together.

-- a result that names the number found, if one is
abbrev pub Tells : Option ℕ → Result (Unit {0}) ℕ → Type 0
Tells found r = MatchResult r (λ u. found ≡ None) (λ f. found ≡ Some f)

tells_first : (a b : Option ℕ) (r s : Result (Unit {0}) ℕ) → Tells a r → Tells b s → Tells (option_or a b) (result_and r s)
tells_first a b (Ok u) (Ok v) e none = ap (λ (o : Option ℕ). option_or o b) e ∙ none
tells_first a b (Ok u) (Err f) e some = ap (λ (o : Option ℕ). option_or o b) e ∙ some
tells_first a b (Err f) s e t = ap (λ (o : Option ℕ). option_or o b) e

pub tells_ok : (found : Option ℕ) (r : Result (Unit {0}) ℕ) → Tells found r → IsOk r ↔ (found ≡ None)
tells_ok found (Ok u) e = (λ ok. e, λ none. refl)
tells_ok found (Err f) e = (λ ok. absurd (false≢true ok), λ none. absurd (none-some f (sym none ∙ e)))

pub tells_err : (found : Option ℕ) (r : Result (Unit {0}) ℕ) → Tells found r → IfErr r (λ f. found ≡ Some f)
tells_err found (Ok u) e = tt
tells_err found (Err f) e = e

in_order : Hardware → Memory → Bool → Option ℕ
in_order h m b = find (is_table_at_fault h m) (cond b (frame_table_frames h ++ slot_table_frames h) (slot_table_frames h ++ frame_table_frames h))

-- the tables in the order of their page frames
pub tells_frames_first : (h : Hardware) (m : Memory) (r s : Result (Unit {0}) ℕ) → h.frame_table < h.slot_table →
    Tells (find (is_table_at_fault h m) (frame_table_frames h)) r → Tells (find (is_table_at_fault h m) (slot_table_frames h)) s → Tells (tables_fault h m) (result_and r s)
unfolding in_order
tells_frames_first h m r s lt a b =
    let fault = is_table_at_fault h m in
    let found = ap (in_order h m) (lt-ltb h.frame_table h.slot_table lt) ∙ find-append fault (frame_table_frames h) (slot_table_frames h) in
    subst (λ (o : Option ℕ). Tells o (result_and r s)) (sym found) (tells_first (find fault (frame_table_frames h)) (find fault (slot_table_frames h)) r s a b)

pub tells_slots_first : (h : Hardware) (m : Memory) (r s : Result (Unit {0}) ℕ) → h.slot_table ≤ h.frame_table →
    Tells (find (is_table_at_fault h m) (frame_table_frames h)) r → Tells (find (is_table_at_fault h m) (slot_table_frames h)) s → Tells (tables_fault h m) (result_and s r)
unfolding in_order
tells_slots_first h m r s le a b =
    let fault = is_table_at_fault h m in
    let found = ap (in_order h m) (le-ltb h.frame_table h.slot_table le) ∙ find-append fault (slot_table_frames h) (frame_table_frames h) in
    subst (λ (o : Option ℕ). Tells o (result_and s r)) (sym found) (tells_first (find fault (slot_table_frames h)) (find fault (frame_table_frames h)) s r b a)

-- tables none of whose page frames is at fault fit
pub fits-no_fault : (h : Hardware) (m : Memory) → IsHardware h → All IsPage m → length m ≡ top h.zones → tables_fault h m ≡ None → Fits h m
fits-no_fault h m hw pages size none =
    let fault = is_table_at_fault h m in
    let faultless : (f : ℕ) → IsTableFrame h f → IsFaultless h m f = λ f of.
    faultless-at_fault h m f (none_of fault (table_frames h) f (none_found fault (table_frames h) none) (in_table_frames h f of)) in
    record {
      pages = pages;
      size = size;
      entries = λ p in'. (faultless (h.frame_table + p / 1024) (inl (of_frame_table h p hw in'))).entries p in' refl;
      tables = λ f of. let fine = faultless f of in (fine.saveable, fine.no_owner);
      slots = λ s lt. (faultless (h.slot_table + s / 1024) (inr (of_slot_table h s lt))).slots s lt refl;
    }
