-- Blocks on which no slot of the area lies: no event writes them.
use Rattle.std.proofs.Common.{zero, suc, ◌≡◌, inl, inr, ◌<◌, ℕ, ◌+◌, ◌/◌, ◌==◌, nat_lt, Bool, true, false, ◌&&◌, cond, List, [], ◌∷◌, length, map, flat_map, eqb, Option, Some, None, get_or, slice_index_or, Contains, refl, sym, subst, arith}
use Rattle.std.proofs.lemmas.Bool.{cases_lt, ltb-true}
use Rattle.std.proofs.lemmas.List.{get_or_past, get_or_default}
use Rattle.std.proofs.lemmas.List.Elements.{Contains-append_cases}
use Rattle.std.specs.List.{range_with_len}
use Rattle.definitions.specs.Disk as disk
use Rattle.definitions.proofs.FrameSets.{Contains-from_filter}
use Rattle.definitions.proofs.ZoneNumbers.{range-bounds}
use Rattle.plain_machine.specs.Machine.{Hardware, Memory, block_of_slot, unused_slots, slot_entry}
use Rattle.plain_machine.specs.Image.{Image, stream_of, maps_of}
use Rattle.plain_machine.specs.Image.{laid, laid_block, laid_map, laid_write, is_map_write, map_place, page_place}
use Rattle.plain_machine.specs.Image.{page_of_write}
use Rattle.plain_machine.specs.Shows.{WorldView}
use Rattle.plain_machine.specs.Stands.{Stands, HasFlights, laid_blocks}
use Rattle.plain_machine.specs.State.{State, Running, Flight, goes_out, comes_in, off, on, booting, hibernating, undoing, settling, waking, loading, asleep}
use Rattle.plain_machine.specs.Calls.{back_call, undo_call, load_call}
use Rattle.protocol_laws.proofs.Unwritten.{step_in_laid}
use Rattle.protocol_laws.proofs.WrittenWhileHeld.{header_alone, header_of_load}
use Rattle.protocol_laws.specs.Rows.{blocks_written, out_block}
use Rattle.swsusp_cli.specs.Replay.{IsNoSlot}

-- Each block that an event may write is a slot's.

-- a slot of the area lies on this block
abbrev IsOfSlot : Hardware → ℕ → Type 0
IsOfSlot h b = (s : ℕ) × (s < h.slots) × (block_of_slot h s ≡ b)

unused_below : (h : Hardware) (m : Memory) (s : ℕ) → Contains (unused_slots h m) s → s < h.slots
unused_below h m s in' = let bounds = range-bounds 0 h.slots s (Contains-from_filter (λ k. eqb (slot_entry h m k) 0) (range_with_len 0 h.slots) s in').0 in let below = bounds.1 in omega arith

get_or_same : (xs : List ℕ) (k : ℕ) → k < length xs → get_or xs k (get_or xs k 0) ≡ get_or xs k 0
get_or_same xs k lt = get_or_default xs k (get_or xs k 0) 0 lt

place_below : (h : Hardware) (free : List ℕ) (place : ℕ) → 0 < h.slots → ((s : ℕ) → Contains free s → s < h.slots) → get_or free place 0 < h.slots
place_below h free place some each = elim (cases_lt place (length free)) as (λ x. get_or free place 0 < h.slots) [
  | inl lt ↦ each (get_or free place 0) (place, lt, get_or_same free place lt)
  | inr le ↦ subst (λ (s : ℕ). s < h.slots) (sym (get_or_past free place 0 le)) some
]

write_of_slot : (h : Hardware) (m : Memory) (pages : ℕ) (page : List ℕ) (k : ℕ) → 0 < h.slots → IsOfSlot h (laid_write h.extents (unused_slots h m) pages page k).0
write_of_slot h m pages page k some = by_kind (is_map_write pages k) where
  below : (place : ℕ) → get_or (unused_slots h m) place 0 < h.slots
  below place = place_below h (unused_slots h m) place some (unused_below h m)

  by_kind : (is_map : Bool) →
      IsOfSlot h
      (cond {A = ℕ × List ℕ} is_map (laid_block h.extents (unused_slots h m) (map_place (k / 512)), laid_map h.extents (unused_slots h m) pages (k / 512))
      (laid_block h.extents (unused_slots h m) (page_place (page_of_write k)), page)).0
  by_kind true = (get_or (unused_slots h m) (map_place (k / 512)) 0, below (map_place (k / 512)), refl)
  by_kind false = (get_or (unused_slots h m) (page_place (page_of_write k)) 0, below (page_place (page_of_write k)), refl)

each_mapped : {A B : Type 0} (g : A → B) (f : B → ℕ) (P : ℕ → Type 0) (xs : List A) → ((x : A) → P (f (g x))) → (y : ℕ) → Contains (map f (map g xs)) y → P y
each_mapped g f P [] each y (k, lt, e) = absurd (omega arith)
each_mapped g f P (x ∷ xs) each y (zero, lt, e) = subst P e (each x)
each_mapped g f P (x ∷ xs) each y (suc k, lt, e) = each_mapped g f P xs each y (k, omega arith, e)

laid_of_slot : (h : Hardware) (a : Running) (i : Image) (b : ℕ) → 0 < h.slots → Contains (laid_blocks h a i) b → IsOfSlot h b
unfolding laid
laid_of_slot h a i b some in' =
    let stream = stream_of i in
    let page : ℕ → List ℕ = λ k. slice_index_or stream (page_of_write k) [] in
    each_mapped (λ k. laid_write h.extents (unused_slots h a.memory) (length stream) (page k) k) (λ written. written.0) (IsOfSlot h)
    (range_with_len 0 (length stream + maps_of (length stream))) (λ k. write_of_slot h a.memory (length stream) (page k) k some) b in'

-- a step that takes a mark back writes block(0)
header_of_slot : (h : Hardware) (b : ℕ) → 0 < h.slots → b ≡ block_of_slot h 0 → IsOfSlot h b
header_of_slot h b some is = (0, some, sym is)

image_of_slot : (h : Hardware) (a : Running) (i : Image) (b : ℕ) → 0 < h.slots → Contains (block_of_slot h 0 ∷ laid_blocks h a i) b → IsOfSlot h b
image_of_slot h a i b some (zero, lt, e) = (0, some, e)
image_of_slot h a i b some (suc k, lt, e) = laid_of_slot h a i b some (k, omega arith, e)

-- an unfinished out goes to a slot of the area
left_of_both : (x y : Bool) → (x && y) ≡ true → x ≡ true
left_of_both true y e = refl
left_of_both false y e = e

out_of_slot : (h : Hardware) (a : Running) → HasFlights h a → (t : ℕ) (flight : Option Flight) (b : ℕ) → a.flights t ≡ flight → Contains (out_block h flight) b → IsOfSlot h b
out_of_slot h a has t None b is (k, lt, e) = absurd (omega arith)
out_of_slot h a has t (Some (goes_out s p)) b is (zero, lt, e) =
    (s, ltb-true s h.slots (left_of_both (nat_lt s h.slots) (slot_entry h a.memory s == t) (has.outs t s p is).slot), e)
out_of_slot h a has t (Some (goes_out s p)) b is (suc k, lt, e) = absurd (omega arith)
out_of_slot h a has t (Some (comes_in s p)) b is (k, lt, e) = absurd (omega arith)

outs_of_slots : (h : Hardware) (a : Running) → HasFlights h a → (ts : List ℕ) (b : ℕ) → Contains (flat_map (λ t. out_block h (a.flights t)) ts) b → IsOfSlot h b
outs_of_slots h a has [] b (k, lt, e) = absurd (omega arith)
outs_of_slots h a has (t ∷ ts) b in' =
    elim (Contains-append_cases (out_block h (a.flights t)) (flat_map (λ u. out_block h (a.flights u)) ts) b in') [
      | inl here ↦ out_of_slot h a has t (a.flights t) b refl here
      | inr there ↦ outs_of_slots h a has ts b there
    ]

written_of_slot : (h : Hardware) (shown : WorldView) (c : disk.Content) (a : State) (b : ℕ) → Stands h shown c a → 0 < h.slots → Contains (blocks_written h a) b → IsOfSlot h b
written_of_slot h shown c (off held kept) b stands some (k, lt, e) = absurd (omega arith)
written_of_slot h shown c (on a) b stands some in' = outs_of_slots h a stands.parts.disk.flights (range_with_len 1 64) b in'
written_of_slot h shown c (booting from dump held n) b stands some (k, lt, e) = absurd (omega arith)
written_of_slot h shown c (hibernating suspends i a k) b stands some in' = image_of_slot h a i b some (step_in_laid h a i k b in')
written_of_slot h shown c (undoing i call a k) b stands some in' = header_of_slot h b some (header_alone h b (undo_call k) in')
written_of_slot h shown c (settling a k) b stands some in' = header_of_slot h b some (header_alone h b (back_call k) in')
written_of_slot h shown c (waking i held a k) b stands some in' = header_of_slot h b some (header_alone h b (back_call k) in')
written_of_slot h shown c (loading load k) b stands some in' = header_of_slot h b some (header_of_load h b (load_call k) in')
written_of_slot h shown c (asleep i held a) b stands some (k, lt, e) = absurd (omega arith)

-- a block on which no slot lies isn't written
pub unwritten_here : (h : Hardware) (shown : WorldView) (c : disk.Content) (a : State) (b : ℕ) → Stands h shown c a → 0 < h.slots → IsNoSlot h b → Contains (blocks_written h a) b → ⊥
unwritten_here h shown c a b stands some none in' = let is = written_of_slot h shown c a b stands some in' in none is.0 is.1 is.2
