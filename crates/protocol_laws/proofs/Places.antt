-- The blocks that a hibernation writes: of free slots of the area, so that none is the header's or a task's.
use Rattle.std.proofs.Common.{◌≡◌, ◌≢◌, ℕ, ◌+◌, ◌<◌, ◌≤◌, inl, inr, Bool, true, false, cond, eqb, not, ltb, ◌||◌, List, [], ◌∷◌, length, get_or, refl, sym, ap, ◌∙◌, subst, arith, Contains, Option, Some, None}
use Rattle.std.specs.List.{range_with_len, list_any}
use Rattle.std.specs.List.Sorted.{IsStrictlyIncreasing}
use Rattle.std.proofs.lemmas.Bool.{cases_eq, cases_Bool, eqb-true, false≢true, ltb-true}
use Rattle.std.proofs.lemmas.Option.{none-some}
use Rattle.std.proofs.lemmas.List.Elements.{Contains-get_or}
use Rattle.std.proofs.lemmas.List.Kept.{IsStrictlyIncreasing-filter}
use Rattle.definitions.specs.Disk.{DiskImage}
use Rattle.definitions.proofs.Ascending.{Contains-nil, Contains-cons_cases}
use Rattle.definitions.proofs.FileMaps.{block_of-injective}
use Rattle.definitions.proofs.FrameSets.{Contains-from_filter}
use Rattle.definitions.proofs.ZoneNumbers.{range-bounds, Contains-range, IsStrictlyIncreasing-range}
use Rattle.image_format.specs.declared.signature.area.Area.{Area}
use Rattle.image_format.specs.declared.signature.area.AreaKind.{AreaKind}
use Rattle.image_format.specs.declared.signature.area.AreaKind.TheVariants.{Swap, Image as Marks, Old, Other, BadArea}
use Rattle.image_format.specs.AreaKind.{area_kind}
use Rattle.plain_machine.specs.UsableArea.{no_swap_at}
use Rattle.plain_machine.specs.Machine.{Hardware, Memory, IsHardware, Fits, block_of_slot, slot_entry, raw_slot_entry, unused_slots, is_slot_entry, image_slot, bad_slot}
use Rattle.plain_machine.specs.Chain.{blocks_of}
use Rattle.plain_machine.specs.UsableArea.{area_block, area_fault, kind_or_fit_fault, fit_fault}
use Rattle.plain_machine.specs.declared.no_swap.NoSwap.{NoSwap}
use Rattle.plain_machine.specs.declared.no_swap.NoSwap.TheVariants as no_swap

-- Free slots.

-- a slot that is free, as the table is seen
pub record IsFree (h : Hardware) (m : Memory) (s : ℕ) : Type 0 where
  pub within : s < h.slots
  pub free : slot_entry h m s ≡ 0

pub free_place : (h : Hardware) (m : Memory) (place : ℕ) → place < length (unused_slots h m) → IsFree h m (get_or (unused_slots h m) place 0)
free_place h m place lt =
    let test : ℕ → Bool = λ s. eqb (slot_entry h m s) 0 in
    let in' = Contains-from_filter test (range_with_len 0 h.slots) (get_or (unused_slots h m) place 0) (Contains-get_or (unused_slots h m) place 0 lt) in
    let bounds = range-bounds 0 h.slots (get_or (unused_slots h m) place 0) in'.0 in
    let below = bounds.1 in
    record { within = omega arith; free = eqb-true (slot_entry h m (get_or (unused_slots h m) place 0)) 0 in'.1 }

pub unused_slots-ascend : (h : Hardware) (m : Memory) → IsStrictlyIncreasing (unused_slots h m)
unused_slots-ascend h m = IsStrictlyIncreasing-filter (λ s. eqb (slot_entry h m s) 0) (range_with_len 0 h.slots) (IsStrictlyIncreasing-range 0 h.slots)

-- Slot 0 is bad.
zero_entry : (e : ℕ) → is_slot_entry 0 e ≡ true → e ≡ bad_slot
zero_entry e is = eqb-true e bad_slot (first (eqb e bad_slot) is) where
  first : (b : Bool) → (b || false) ≡ true → b ≡ true
  first true f = refl
  first false f = absurd (false≢true f)

bad_not_free : (e : ℕ) → e ≡ bad_slot → cond (eqb e image_slot) 0 e ≡ 0 → ⊥
bad_not_free e is free = let at : cond (eqb bad_slot image_slot) 0 bad_slot ≡ 0 = subst (λ (n : ℕ). cond (eqb n image_slot) 0 n ≡ 0) is free in let r : ⊥ = omega arith in r

pub free_not_0 : (h : Hardware) (m : Memory) (s : ℕ) → IsHardware h → Fits h m → IsFree h m s → 0 < s
free_not_0 h m s hw fits free = elim (cases_eq s 0) [
  | inl e ↦
      let some = hw.some_slots in
      let bad = zero_entry (raw_slot_entry h m 0) (fits.slots 0 (omega arith)) in
      absurd (bad_not_free (raw_slot_entry h m 0) bad (subst (λ (n : ℕ). slot_entry h m n ≡ 0) e free.free))
  | inr ne ↦ omega arith
]

-- blocks of different slots are different
pub blocks_differ : (h : Hardware) (s t : ℕ) → IsHardware h → s < h.slots → t < h.slots → s ≢ t → block_of_slot h s ≢ block_of_slot h t
blocks_differ h s t hw s_lt t_lt ne e = ne (block_of-injective h.extents h.slots s t hw.map s_lt t_lt e)

pub free_not_header : (h : Hardware) (m : Memory) (s : ℕ) → IsHardware h → Fits h m → IsFree h m s → block_of_slot h 0 ≢ block_of_slot h s
free_not_header h m s hw fits free =
    let some = free_not_0 h m s hw fits free in
    let lt = free.within in
    blocks_differ h 0 s hw (omega arith) lt (λ e. omega arith)

-- the block of a free slot isn't that of a slot with another entry
pub free_not_used : (h : Hardware) (m : Memory) (s t : ℕ) → IsHardware h → IsFree h m s → t < h.slots → 1 ≤ slot_entry h m t → block_of_slot h t ≢ block_of_slot h s
free_not_used h m s t hw free lt used =
    blocks_differ h t s hw lt free.within (λ e. let same : slot_entry h m t ≡ 0 = ap (slot_entry h m) e ∙ free.free in let r : ⊥ = omega arith in r)

-- The area: a machine that can use it has its slots, and the disk has their blocks.

pub record IsUsable (h : Hardware) (blocks : ℕ) (page : List ℕ) : Type 0 where
  pub area : Area
  pub is : area_kind page ≡ Swap area
  pub slots : area.last + 1 ≡ h.slots
  pub on_disk : (s : ℕ) → s < h.slots → block_of_slot h s < blocks

none_false : (b : Bool) (x : Option NoSwap) (why : NoSwap) → cond b (Some why) x ≡ None → (b ≡ false) × (x ≡ None)
none_false true x why e = absurd (none-some why (sym e))
none_false false x why e = (refl, e)

none_true : (b : Bool) (why : NoSwap) → cond b None (Some why) ≡ None → b ≡ true
none_true true why e = refl
none_true false why e = absurd (none-some why (sym e))

or_right : (b c : Bool) → c ≡ true → (b || c) ≡ true
or_right true c e = refl
or_right false c e = e

any_at : (test : ℕ → Bool) (xs : List ℕ) (x : ℕ) → Contains xs x → test x ≡ true → list_any test xs ≡ true
any_at test [] x in' met = absurd (Contains-nil x in')
any_at test (y ∷ xs) x in' met =
    elim (Contains-cons_cases y xs x in') [
      | inl e ↦ ap (λ (b : Bool). b || list_any test xs) (ap test e ∙ met)
      | inr rest ↦ or_right (test y) (list_any test xs) (any_at test xs x rest met)
    ]

not_any : (test : ℕ → Bool) (xs : List ℕ) (x : ℕ) → list_any test xs ≡ false → Contains xs x → test x ≡ false
not_any test xs x none in' = elim (cases_Bool (test x)) [
  | inl met ↦ absurd (false≢true (sym none ∙ any_at test xs x in' met))
  | inr fails ↦ fails
]

not_false : (b : Bool) → not b ≡ false → b ≡ true
not_false true e = refl
not_false false e = absurd (false≢true (sym e))

pub usable_fits : (h : Hardware) (blocks : ℕ) (area : Area) → fit_fault h blocks area ≡ None → (area.last + 1 ≡ h.slots) × ((s : ℕ) → s < h.slots → block_of_slot h s < blocks)
usable_fits h blocks area none =
    let short : ℕ → Bool = λ s. not (ltb (block_of_slot h s) blocks) in
    let first = none_false (list_any short (range_with_len 0 (area.last + 1))) (cond (eqb (area.last + 1) h.slots) None (Some (no_swap.Misfit area.last h.slots))) (no_swap.Short area.last blocks) none in
    let slots : area.last + 1 ≡ h.slots = eqb-true (area.last + 1) h.slots (none_true (eqb (area.last + 1) h.slots) (no_swap.Misfit area.last h.slots) first.1) in (
      slots,
      λ s lt. ltb-true (block_of_slot h s) blocks (not_false (ltb (block_of_slot h s) blocks) (not_any short (range_with_len 0 (area.last + 1)) s first.0 (Contains-range 0 (area.last + 1) s (omega arith) (omega arith)))),
    )

usable_kind : (h : Hardware) (blocks : ℕ) (kind : AreaKind) → kind_or_fit_fault h blocks kind ≡ None → (area : Area) × (kind ≡ Swap area) × (fit_fault h blocks area ≡ None)
usable_kind h blocks (Swap area) none = (area, refl, none)
usable_kind h blocks (Marks mark) none = absurd (none-some no_swap.Image (sym none))
usable_kind h blocks Old none = absurd (none-some no_swap.Old (sym none))
usable_kind h blocks (Other sig) none = absurd (none-some (no_swap.Signature sig) (sym none))
usable_kind h blocks (BadArea why) none = absurd (none-some (no_swap_at why) (sym none))

pub usable_area : (h : Hardware) (v : DiskImage) → area_fault h v ≡ None → IsUsable h (blocks_of v) (area_block h v)
unfolding area_fault
usable_area h v none =
    let kind = usable_kind h (blocks_of v) (area_kind (area_block h v)) none in
    let fits = usable_fits h (blocks_of v) kind.0 kind.2 in
    record { area = kind.0; is = kind.1; slots = fits.0; on_disk = fits.1 }

-- a task's slot isn't slot 0
bad_not_task : (e : ℕ) → e ≡ bad_slot → cond (eqb e image_slot) 0 e ≤ 64 → ⊥
bad_not_task e is le = let at : cond (eqb bad_slot image_slot) 0 bad_slot ≤ 64 = subst (λ (n : ℕ). cond (eqb n image_slot) 0 n ≤ 64) is le in let r : ⊥ = omega arith in r

pub task_not_header : (h : Hardware) (m : Memory) (s : ℕ) → IsHardware h → Fits h m → s < h.slots → slot_entry h m s ≤ 64 → block_of_slot h s ≢ block_of_slot h 0
task_not_header h m s hw fits lt task =
    let some = hw.some_slots in
    blocks_differ h s 0 hw lt (omega arith)
    (λ e. bad_not_task (raw_slot_entry h m 0) (zero_entry (raw_slot_entry h m 0) (fits.slots 0 (omega arith))) (subst (λ (n : ℕ). slot_entry h m n ≤ 64) e task))
