-- An image and a loader between which nothing is wrong, and the blocks that the image names there.
use Rattle.std.proofs.Common.{◌≡◌, ℕ, ◌+◌, ◌-◌, ◌*◌, ◌/◌, ◌%◌, ◌<◌, ◌≤◌, ◌&&◌, ◌||◌, inl, inr, zero, suc, Bool, true, false, cond, not, eqb, leb, ltb, nat_eq, List, length, get_or, Some, None, ap, subst, ◌∙◌, refl, arith}
use Rattle.std.specs.List.{list_any, range_with_len}
use Rattle.std.specs.Cmp.Lexicographic.{pointwise}
use Rattle.std.proofs.lemmas.Bool.{cases_eq, cond-true, cond-false, lt-ltb, eq-eqb, ne_eqb, leb-false, ltb-false, or_from, and_from, not_from_true}
use Rattle.std.proofs.lemmas.List.Folds.{list_any_at}
use Rattle.std.proofs.lemmas.List.FromFn.{length-range_with_len, get_or-range_with_len}
use Rattle.definitions.specs.Disk.{DiskImage}
use Rattle.definitions.specs.Slots.{block_of}
use Rattle.definitions.specs.SwapHeader.{flags_of, hw_sig_of, last_page_of, sig_of, image_signature}
use Rattle.plain_machine.specs.Chain.{blocks_of, block_fault, entry_block, entry_fault, header_of, is_at_fault}
use Rattle.plain_machine.specs.Chain.{is_fault_of, map_block, map_fault}
use Rattle.plain_machine.specs.Image.{maps_read}
use Rattle.plain_machine.specs.Loader.{left_free, need}
use Rattle.plain_machine.specs.Machine.{Hardware, IsHardware, Memory, block_of_slot, is_valid, valid_count}
use Rattle.plain_machine.specs.Trace.{map_at, page_at, d_in, first_map, format_in, info_in, is_set, number_in, place, place_cause}
use Rattle.plain_machine.specs.declared.event.Loader.TheVariants as loader
use Rattle.plain_machine.specs.declared.reply.Reply.TheVariants as reply
use Rattle.image_walk.specs.declared.limits.Limits.{Limits}
use Rattle.image_walk.specs.declared.visit.BlockFault.TheVariants as fault
use Rattle.image_walk.specs.Names.{is_bad}
use Rattle.image_machine.specs.Resumable.{IsNamed, IsSlotBlock, MayName}
use Rattle.image_machine.proofs.Whole.{IsReadWhole}

pub record IsPrepared (h : Hardware) (m : Memory) (v : DiskImage) (l : Limits) : Type 0 where
  pub signed : pointwise nat_eq (sig_of (header_of h v)) image_signature ≡ true
  pub uncompressed : is_set (flags_of (header_of h v)) 2 ≡ true
  pub blocks : l.blocks ≡ blocks_of v
  pub header : l.header ≡ block_of_slot h 0
  pub read : IsReadWhole l (format_in h v) v (first_map h v) (info_in h v).pages
  pub hardware : IsHardware h
  pub slots : (b : ℕ) → IsNamed h v b → MayName l b → IsSlotBlock h (header_of h v) b
  pub signature : is_set (flags_of (header_of h v)) 8 ≡ true → hw_sig_of (header_of h v) ≡ h.hw_sig
  pub pages : (info_in h v).physpages ≡ valid_count h
  pub valid : (j : ℕ) → j < (info_in h v).image_pages → is_valid h (number_in h v j) ≡ true
  pub room : need (d_in h v) ≤ length (left_free h m loader.Table)

-- The blocks that an image may name.

pub record IsInside (l : Limits) (b : ℕ) : Type 0 where
  pub some : 0 < b
  pub inside : b < l.blocks
  pub to : b ≤ l.last
  pub other : eqb b l.header ≡ false

none_of : {X : Type 0} (a b c d e : Bool) (v w x y z : X) → cond a (Some v) (cond b (Some w) (cond c (Some x) (cond d (Some y) (cond (e || false) (Some z) None)))) ≡ None → (a ≡ false) × (b ≡ false) × (c ≡ false) × (e ≡ false)
none_of true b c d e v w x y z is = cc
none_of false true c d e v w x y z is = cc
none_of false false true d e v w x y z is = cc
none_of false false false true e v w x y z is = cc
none_of false false false false true v w x y z is = cc
none_of false false false false false v w x y z is = (refl, refl, refl, refl)

not_zero : (b : ℕ) → eqb b 0 ≡ false → 0 < b
not_zero zero e = cc
not_zero (suc b) e = omega arith

pub inside_of : (l : Limits) (b : ℕ) → MayName l b → IsInside l b
inside_of l b may =
    let (some, inside, to, other) = none_of (eqb b 0) (leb l.blocks b) (ltb l.last b) (is_bad l b) (eqb b l.header) fault.Zero (fault.BeyondFile b) (fault.BeyondLast b) (fault.Bad b) (fault.Again b) may in
    record { some = not_zero b some; inside = leb-false l.blocks b inside; to = ltb-false l.last b to; other = other }

slot_there : (extents : List (ℕ × ℕ × ℕ)) (last slot x : ℕ) → 1 ≤ slot → slot ≤ last → block_of extents slot ≡ x → list_any (λ s. eqb (block_of extents s) x) (range_with_len 1 last) ≡ true
slot_there extents last slot x some le lies =
    let size = length-range_with_len 1 last in
    let at : get_or (range_with_len 1 last) (slot - 1) 0 ≡ slot = get_or-range_with_len 1 last (slot - 1) 0 (omega arith) ∙ omega arith in
    list_any_at (λ s. eqb (block_of extents s) x) (range_with_len 1 last) (slot - 1) 0 (omega arith)
    (ap (λ (s : ℕ). eqb (block_of extents s) x) at ∙ eq-eqb (block_of extents slot) x lies)

fine_block : (extents : List (ℕ × ℕ × ℕ)) (blocks last x : ℕ) → eqb x (block_of extents 0) ≡ false → x < blocks → list_any (λ s. eqb (block_of extents s) x) (range_with_len 1 last) ≡ true → is_fault_of extents blocks last x ≡ false
fine_block extents blocks last x other inside there =
    let slots = list_any (λ s. eqb (block_of extents s) x) (range_with_len 1 last) in
    or_from (eqb x (block_of extents 0)) (not (ltb x blocks && slots)) other
    (not_from_true (ltb x blocks && slots) (and_from (ltb x blocks) slots (lt-ltb x blocks inside) there))

module _ (h : Hardware) (m : Memory) (v : DiskImage) (l : Limits) (is : IsPrepared h m v l) where
  no_block_fault : (b : ℕ) → IsNamed h v b → MayName l b → block_fault h v b ≡ None
  no_block_fault b named may =
      let i = inside_of l b may in
      let s = is.slots b named may in
      let inside : b < blocks_of v = subst (λ (n : ℕ). b < n) is.blocks i.inside in
      let other : eqb b (block_of_slot h 0) ≡ false = subst (λ (n : ℕ). eqb b n ≡ false) is.header i.other in
      cond-false (is_at_fault h v b) (Some (reply.BadBlock b)) None
      (fine_block h.extents (blocks_of v) (last_page_of (header_of h v)) b other inside (slot_there h.extents (last_page_of (header_of h v)) s.slot b s.from s.to s.lies))

  pub no_map_fault : (j : ℕ) → 511 * j < (info_in h v).pages → map_fault h v (first_map h v) j ≡ None
  no_map_fault zero lt =
      let b = first_map h v in
      let may = is.read.maps 0 lt in
      let i = inside_of l b may in
      cond-false (eqb b 0) (Some reply.NoChain) (block_fault h v b) (ne_eqb b 0 (λ e. let some = i.some in omega arith)) ∙ no_block_fault b (inl (0, lt, refl)) may
  no_map_fault (suc j) lt =
      let b = map_block v (first_map h v) (suc j) in
      let may = is.read.maps (suc j) lt in
      let i = inside_of l b may in
      cond-false (eqb b 0) (Some (reply.ChainEnds (suc j))) (block_fault h v b) (ne_eqb b 0 (λ e. let some = i.some in omega arith)) ∙ no_block_fault b (inl (suc j, lt, refl)) may

  pub no_entry_fault : (k : ℕ) → k < (info_in h v).pages → entry_fault h v (first_map h v) k ≡ None
  no_entry_fault k lt = no_block_fault (entry_block v (first_map h v) k) (inr (k, lt, refl)) (is.read.entries k lt)

  map_within : (t pages : ℕ) → t % 512 ≡ 0 → t < maps_read pages + pages → 1 ≤ pages → 511 * (t / 512) < pages
  map_within t pages first lt some = omega arith

  page_within : (t pages : ℕ) → (t % 512 ≡ 0 → ⊥) → t < maps_read pages + pages → 1 ≤ pages → t - t / 512 - 1 < pages
  page_within t pages later lt some = omega arith

  pub no_place_cause : (t : ℕ) → t < maps_read (info_in h v).pages + (info_in h v).pages → place_cause h v (place t) ≡ None
  no_place_cause t lt =
      let some = is.read.some in
      elim (cases_eq (t % 512) 0) [
        | inl first ↦
            ap (place_cause h v) (cond-true (eqb (t % 512) 0) (map_at (t / 512)) (page_at (t - t / 512 - 1)) (eq-eqb (t % 512) 0 first))
            ∙ no_map_fault (t / 512) (map_within t (info_in h v).pages first lt (omega arith))
        | inr later ↦
            ap (place_cause h v) (cond-false (eqb (t % 512) 0) (map_at (t / 512)) (page_at (t - t / 512 - 1)) (ne_eqb (t % 512) 0 later))
            ∙ no_entry_fault (t - t / 512 - 1) (page_within t (info_in h v).pages later lt (omega arith))
      ]
