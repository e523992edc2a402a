-- Laws of memories that are the same but for what free page frames hold.
use Rattle.std.proofs.Common.{◌≡◌, ◌≢◌, ℕ, ◌+◌, ◌-◌, ◌*◌, ◌/◌, ◌%◌, ◌^◌, ◌<◌, ◌≤◌, ◌⊎◌, inl, inr, Bool, true, List, [], ◌∷◌, length, refl, sym, ap, ap₂, ◌∙◌, arith, ⊎_elim, filter, cond, eqb, set, get_or, subst}
use Rattle.std.proofs.lemmas.Bool.{cases_eq, false≢true}
use Rattle.std.proofs.lemmas.List.{length-set, get_or-set_same, get_or-set_other}
use Rattle.std.specs.List.{All, Contains}
use Rattle.definitions.specs.Bytes.{IsPage, number_at, with_number}
use Rattle.definitions.specs.Zones.{numbers, top}
use Rattle.definitions.specs.Tables.{frame, entry_at, with_entry, is_saveable, page_flags, owner_of}
use Rattle.definitions.specs.Tables.{free_frames}
use Rattle.definitions.proofs.Ascending.{Contains-head, Contains-tail}
use Rattle.definitions.proofs.TableEntries.{entry_at-with_entry_same, entry_at-with_entry_other, frame-with_entry_other, length-with_entry, IsPage-with_entry}
use Rattle.definitions.proofs.ZoneNumbers.{below_top}
use Rattle.definitions.proofs.ZoneLists.{Contains-free_frames, Contains-from_free_frames}
use Rattle.plain_machine.specs.Machine.{Hardware, Memory, IsHardware, Fits, IsSameMemory, frame_entry, raw_slot_entry, IsOfTable, IsTableFrame, table_len, is_well_formed, is_slot_entry}

-- two tests that agree at each element keep the same elements
pub filter_agree_within : (p q : ℕ → Bool) (xs : List ℕ) → ((x : ℕ) → Contains xs x → p x ≡ q x) → filter p xs ≡ filter q xs
filter_agree_within p q [] same = refl
filter_agree_within p q (x ∷ xs) same =
    let rest = filter_agree_within p q xs (λ y in'. same y (Contains-tail x xs y in')) in
    ap₂ (λ (b : Bool) (ys : List ℕ). cond b (x ∷ ys) ys) (same x (Contains-head x xs)) rest

-- an entry is read from its page frame of the table
pub entry-same : (m n : Memory) (table k : ℕ) → frame n (table + k / 1024) ≡ frame m (table + k / 1024) → entry_at n table k ≡ entry_at m table k
unfolding entry_at
entry-same m n table k e = ap (λ (page : List ℕ). number_at 4 page (4 * (k % 1024))) e

-- The page frames of the two tables.
pub of_frame_table : (h : Hardware) (p : ℕ) → IsHardware h → Contains (numbers h.zones) p → IsOfTable h.frame_table (top h.zones) (h.frame_table + p / 1024)
of_frame_table h p hw in' =
    let low = below_top h.zones p hw.zones.apart in' in
    record { from = omega arith; below = omega arith }

pub of_slot_table : (h : Hardware) (s : ℕ) → s < h.slots → IsOfTable h.slot_table h.slots (h.slot_table + s / 1024)
of_slot_table h s lt = record { from = omega arith; below = omega arith }

pub table_frame_valid : (h : Hardware) (f : ℕ) → IsHardware h → IsTableFrame h f → Contains (numbers h.zones) f
table_frame_valid h f hw (inl of) =
    let at : h.frame_table + (f - h.frame_table) ≡ f = let low = of.from in omega arith in
    subst (Contains (numbers h.zones)) at (hw.frame_table (f - h.frame_table) (let low = of.from in let high = of.below in omega arith))
table_frame_valid h f hw (inr of) =
    let at : h.slot_table + (f - h.slot_table) ≡ f = let low = of.from in omega arith in
    subst (Contains (numbers h.zones)) at (hw.slot_table (f - h.slot_table) (let low = of.from in let high = of.below in omega arith))

pub tables_apart : (h : Hardware) (f : ℕ) → IsHardware h → IsOfTable h.frame_table (top h.zones) f → IsOfTable h.slot_table h.slots f → ⊥
tables_apart h f hw a b =
    let low = a.from in
    let high = a.below in
    let low' = b.from in
    let high' = b.below in
    ⊎_elim (λ (le : h.frame_table + table_len (top h.zones) ≤ h.slot_table). let r : ⊥ = omega arith in r) (λ (le : h.slot_table + table_len h.slots ≤ h.frame_table). let r : ⊥ = omega arith in r) hw.apart

-- no page frame of a table is free or a task's
pub table_frame_used : (h : Hardware) (m : Memory) (f : ℕ) → Fits h m → IsTableFrame h f → frame_entry h m f ≡ 1 → ⊥
table_frame_used h m f fits of free =
    false≢true (ap (λ (entry : ℕ). is_saveable (page_flags entry)) (sym free) ∙ (fits.tables f of).0)

pub table_frame_not_owned : (h : Hardware) (m : Memory) (f t : ℕ) → Fits h m → owner_of (frame_entry h m f) ≡ t → 1 ≤ t → IsTableFrame h f → ⊥
table_frame_not_owned h m f t fits owner some of = let none = (fits.tables f of).1 in omega arith

-- The tables of two memories that are the same are equal.
pub same_table : (h : Hardware) (m n : Memory) (f : ℕ) → IsHardware h → Fits h m → IsSameMemory h m n → IsTableFrame h f → frame n f ≡ frame m f
same_table h m n f hw fits same of =
    same.used f (table_frame_valid h f hw of) (λ in'. table_frame_used h m f fits of (Contains-from_free_frames h.zones h.frame_table m f in').1)

pub same_entry : (h : Hardware) (m n : Memory) (p : ℕ) → IsHardware h → Fits h m → IsSameMemory h m n → Contains (numbers h.zones) p → frame_entry h n p ≡ frame_entry h m p
same_entry h m n p hw fits same in' = entry-same m n h.frame_table p (same_table h m n (h.frame_table + p / 1024) hw fits same (inl (of_frame_table h p hw in')))

pub same_slot_entry : (h : Hardware) (m n : Memory) (s : ℕ) → IsHardware h → Fits h m → IsSameMemory h m n → s < h.slots → raw_slot_entry h n s ≡ raw_slot_entry h m s
same_slot_entry h m n s hw fits same lt = entry-same m n h.slot_table s (same_table h m n (h.slot_table + s / 1024) hw fits same (inr (of_slot_table h s lt)))

pub same_used : (h : Hardware) (m n : Memory) (p : ℕ) → IsSameMemory h m n → Contains (numbers h.zones) p → frame_entry h m p ≢ 1 → frame n p ≡ frame m p
same_used h m n p same in' not_free = same.used p in' (λ free. not_free (Contains-from_free_frames h.zones h.frame_table m p free).1)

-- Memories with the same entries, whose other page frames than the free ones are equal, are the same.
pub same_by : (h : Hardware) (m n : Memory) → ((p : ℕ) → Contains (numbers h.zones) p → frame_entry h n p ≡ frame_entry h m p) →
    ((p : ℕ) → Contains (numbers h.zones) p → frame_entry h m p ≢ 1 → frame n p ≡ frame m p) → IsSameMemory h m n
unfolding free_frames
same_by h m n entries pages = record {
  free = filter_agree_within (λ p. eqb (frame_entry h n p) 1) (λ p. eqb (frame_entry h m p) 1) (numbers h.zones) (λ p in'. ap (λ (entry : ℕ). eqb entry 1) (entries p in'));
  used = λ p in' not_free. pages p in' (λ free. not_free (Contains-free_frames h.zones h.frame_table m p in' free));
}

pub same_refl : (h : Hardware) (m : Memory) → IsSameMemory h m m
same_refl h m = same_by h m m (λ p in'. refl) (λ p in' used. refl)

-- the same page set in both memories: page frames that were equal, and the one that is set, are equal
pub frame-set_both : (m n : Memory) (f p : ℕ) (x : List ℕ) → length n ≡ length m → f < length m → (p ≡ f) ⊎ (frame n p ≡ frame m p) → frame (set n f x) p ≡ frame (set m f x) p
frame-set_both m n f p x size lt this =
    elim (cases_eq p f) [
      | inl e ↦ ap (λ (q : ℕ). get_or (set n f x) q []) e ∙ get_or-set_same n f x [] (omega arith) ∙ sym (get_or-set_same m f x [] lt) ∙ ap (λ (q : ℕ). get_or (set m f x) q []) (sym e)
      | inr ne ↦ get_or-set_other n f p x [] ne ∙ ⊎_elim (λ e. absurd (ne e)) (λ same. same) this ∙ sym (get_or-set_other m f p x [] ne)
    ]

-- a page set in two memories that are the same leaves them the same, if a page frame that isn't free afterwards was so
-- before, or has equal pages
pub same_set : (h : Hardware) (m n : Memory) (f : ℕ) (x : List ℕ) → IsHardware h → Fits h m → IsSameMemory h m n → length n ≡ length m → f < length m →
    ((p : ℕ) → Contains (numbers h.zones) p → p ≢ f → frame_entry h (set m f x) p ≢ 1 → (frame_entry h m p ≢ 1) ⊎ (frame n p ≡ frame m p)) →
    IsSameMemory h (set m f x) (set n f x)
same_set h m n f x hw fits same size lt used =
    same_by h (set m f x) (set n f x)
    (λ p in'. entry-same (set m f x) (set n f x) h.frame_table p
    (frame-set_both m n f (h.frame_table + p / 1024) x size lt (inr (same_table h m n (h.frame_table + p / 1024) hw fits same (inl (of_frame_table h p hw in'))))))
    (λ p in' not_free. frame-set_both m n f p x size lt
    (elim (cases_eq p f) [
      | inl e ↦ inl e
      | inr ne ↦ inr (⊎_elim (λ was. same_used h m n p same in' was) (λ e. e) (used p in' ne not_free))
    ]))

-- A page frame that is no table's can be set to any page: the memory still fits.
pub entry-set_other : (h : Hardware) (m : Memory) (f p : ℕ) (x : List ℕ) → IsHardware h → (IsTableFrame h f → ⊥) → Contains (numbers h.zones) p → frame_entry h (set m f x) p ≡ frame_entry h m p
entry-set_other h m f p x hw no_table in' =
    entry-same m (set m f x) h.frame_table p
    (get_or-set_other m f (h.frame_table + p / 1024) x [] (λ e. no_table (inl (subst (IsOfTable h.frame_table (top h.zones)) e (of_frame_table h p hw in')))))

pub slot_entry-set_other : (h : Hardware) (m : Memory) (f s : ℕ) (x : List ℕ) → (IsOfTable h.slot_table h.slots f → ⊥) → s < h.slots → raw_slot_entry h (set m f x) s ≡ raw_slot_entry h m s
slot_entry-set_other h m f s x no_table lt =
    entry-same m (set m f x) h.slot_table s
    (get_or-set_other m f (h.slot_table + s / 1024) x [] (λ e. no_table (subst (IsOfTable h.slot_table h.slots) e (of_slot_table h s lt))))

IsPage-set : (m : Memory) (f : ℕ) (x : List ℕ) → All IsPage m → IsPage x → All IsPage (set m f x)
IsPage-set m f x pages page i d lt =
    let within : i < length m = let size = length-set m f x in omega arith in
    elim (cases_eq i f) [
      | inl e ↦ ap (λ (j : ℕ). length (get_or (set m f x) j d)) e ∙ ap length (get_or-set_same m f x d (omega arith)) ∙ page
      | inr ne ↦ ap length (get_or-set_other m f i x d ne) ∙ pages i d within
    ]

pub fits_set : (h : Hardware) (m : Memory) (f : ℕ) (x : List ℕ) → IsHardware h → Fits h m → (IsTableFrame h f → ⊥) → IsPage x → Fits h (set m f x)
fits_set h m f x hw fits no_table page = record {
  pages = IsPage-set m f x fits.pages page;
  size = length-set m f x ∙ fits.size;
  entries = λ p in'. ap is_well_formed (entry-set_other h m f p x hw no_table in') ∙ fits.entries p in';
  tables = λ g of.
      let e = entry-set_other h m f g x hw no_table (table_frame_valid h g hw of) in
      (ap (λ (entry : ℕ). is_saveable (page_flags entry)) e ∙ (fits.tables g of).0, ap owner_of e ∙ (fits.tables g of).1);
  slots = λ s lt. ap (is_slot_entry s) (slot_entry-set_other h m f s x (λ of. no_table (inr of)) lt) ∙ fits.slots s lt;
}

entry_frame_within : (h : Hardware) (m : Memory) (p : ℕ) → IsHardware h → Fits h m → Contains (numbers h.zones) p → h.frame_table + p / 1024 < length m
entry_frame_within h m p hw fits in' =
    let valid = below_top h.zones (h.frame_table + p / 1024) hw.zones.apart (table_frame_valid h (h.frame_table + p / 1024) hw (inl (of_frame_table h p hw in'))) in
    let size = fits.size in
    omega arith

-- The entry of a page frame that is no table's can be set to any that is well formed.
pub frame_entry-set_same : (h : Hardware) (m : Memory) (p v : ℕ) → IsHardware h → Fits h m → Contains (numbers h.zones) p → v < 2 ^ 32 → frame_entry h (with_entry m h.frame_table p v) p ≡ v
frame_entry-set_same h m p v hw fits in' small =
    let within = entry_frame_within h m p hw fits in' in
    entry_at-with_entry_same m h.frame_table p v within (fits.pages (h.frame_table + p / 1024) [] within) small

pub frame_entry-set_other : (h : Hardware) (m : Memory) (p q v : ℕ) → IsHardware h → Fits h m → Contains (numbers h.zones) p → q ≢ p → frame_entry h (with_entry m h.frame_table p v) q ≡ frame_entry h m q
frame_entry-set_other h m p q v hw fits in' ne =
    let within = entry_frame_within h m p hw fits in' in
    entry_at-with_entry_other m h.frame_table p v q within (fits.pages (h.frame_table + p / 1024) [] within) ne

pub slot_entry-frame_entry_set : (h : Hardware) (m : Memory) (p s v : ℕ) → IsHardware h → Contains (numbers h.zones) p → s < h.slots → raw_slot_entry h (with_entry m h.frame_table p v) s ≡ raw_slot_entry h m s
slot_entry-frame_entry_set h m p s v hw in' lt =
    entry-same m (with_entry m h.frame_table p v) h.slot_table s
    (frame-with_entry_other m h.frame_table p v (h.slot_table + s / 1024) (λ e. tables_apart h (h.frame_table + p / 1024) hw (of_frame_table h p hw in') (subst (IsOfTable h.slot_table h.slots) e (of_slot_table h s lt))))

pub fits_entry : (h : Hardware) (m : Memory) (p v : ℕ) → IsHardware h → Fits h m → Contains (numbers h.zones) p → (IsTableFrame h p → ⊥) → is_well_formed v ≡ true → v < 2 ^ 32 → Fits h (with_entry m h.frame_table p v)
fits_entry h m p v hw fits in' no_table well small = record {
  pages = IsPage-with_entry m h.frame_table p v fits.pages;
  size = length-with_entry m h.frame_table p v ∙ fits.size;
  entries = λ q in_q. elim (cases_eq q p) [
    | inl e ↦ ap (λ (r : ℕ). is_well_formed (frame_entry h (with_entry m h.frame_table p v) r)) e ∙ ap is_well_formed (frame_entry-set_same h m p v hw fits in' small) ∙ well
    | inr ne ↦ ap is_well_formed (frame_entry-set_other h m p q v hw fits in' ne) ∙ fits.entries q in_q
  ];
  tables = λ g of.
      let e = frame_entry-set_other h m p g v hw fits in' (λ same. no_table (subst (IsTableFrame h) same of)) in
      (ap (λ (entry : ℕ). is_saveable (page_flags entry)) e ∙ (fits.tables g of).0, ap owner_of e ∙ (fits.tables g of).1);
  slots = λ s lt. ap (is_slot_entry s) (slot_entry-frame_entry_set h m p s v hw in' lt) ∙ fits.slots s lt;
}

-- the entry of a page frame set in two memories that are the same
pub same_entry_set : (h : Hardware) (m n : Memory) (p v : ℕ) → IsHardware h → Fits h m → IsSameMemory h m n → length n ≡ length m → Contains (numbers h.zones) p → v < 2 ^ 32 →
    (v ≢ 1 → (frame_entry h m p ≢ 1) ⊎ (frame n p ≡ frame m p)) → IsSameMemory h (with_entry m h.frame_table p v) (with_entry n h.frame_table p v)
unfolding with_entry
same_entry_set h m n p v hw fits same size in' small used =
    let f = h.frame_table + p / 1024 in
    let of = of_frame_table h p hw in' in
    let x = with_number 4 (frame m f) (4 * (p % 1024)) v in
    let equal : with_number 4 (frame n f) (4 * (p % 1024)) v ≡ x = ap (λ (page : List ℕ). with_number 4 page (4 * (p % 1024)) v) (same_table h m n f hw fits same (inl of)) in
    subst (λ (y : List ℕ). IsSameMemory h (set m f x) (set n f y)) (sym equal)
    (same_set h m n f x hw fits same size (entry_frame_within h m p hw fits in')
    (λ q in_q ne not_free. elim (cases_eq q p) [
      | inl e ↦ subst (λ (r : ℕ). (frame_entry h m r ≢ 1) ⊎ (frame n r ≡ frame m r)) (sym e)
          (used (λ is_one. not_free (ap (frame_entry h (set m f x)) e ∙ frame_entry-set_same h m p v hw fits in' small ∙ is_one)))
      | inr other ↦ inl (λ free. not_free (frame_entry-set_other h m p q v hw fits in' other ∙ free))
    ]))
