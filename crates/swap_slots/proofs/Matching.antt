-- Runs that are those of a table, and how they stay so.
use Rattle.std.proofs.Common.{◌≡◌, ℕ, ◌+◌, ◌^◌, ◌<◌, List, [], ◌∷◌, Some, sym, ap, ◌∙◌, subst, ⊎_elim, arith}
use Rattle.std.proofs.lemmas.Option.{same_Some}
use Rattle.std.specs.List.{All, Contains, slice_get}
use Rattle.definitions.specs.Bytes.{IsPage}
use Rattle.definitions.specs.Zones.{numbers}
use Rattle.definitions.specs.Tables.{entry_at, with_entry, with_entries}
use Rattle.definitions.specs.FreeRuns.{runs_of}
use Rattle.definitions.specs.Tables.{image_slots}
use Rattle.definitions.specs.FrameSets.{inserted, removed}
use Rattle.definitions.proofs.Ascending.{Contains-head}
use Rattle.definitions.proofs.SlotRuns.{numbers-runs_of}
use Rattle.definitions.proofs.FreeSlots.{IsSlot, free_slot, free_slots-taken, free_slots-given, image_slot, image_slots-more_image}
use Rattle.definitions.proofs.TableEntries.{with_entries-more, entry_at-with_entries_other}
use Rattle.swap_slots.specs.Runs.{SlotRuns}
use Rattle.swap_slots.specs.Table.{IsOwner, LiesIn, Matches, free_in}
use Rattle.swap_slots.specs.declared.table.SlotTable.{SlotTable}

-- the numbers of the runs are the free slots
pub free_numbers : (frames : List (List ℕ)) (table : SlotTable) (free : SlotRuns) → Matches frames table free → numbers free.runs ≡ free_in frames table
free_numbers frames table free h = ap numbers h.runs ∙ numbers-runs_of (free_in frames table)

first_in : (xs : List ℕ) (s : ℕ) → Some s ≡ slice_get xs 0 → Contains xs s
first_in [] s e = absurd (cc)
first_in (x ∷ xs) s e = subst (λ (y : ℕ). Contains (x ∷ xs) y) (same_Some x s (sym e)) (Contains-head x xs)

-- the first of them is a slot of the table
pub first_within : (frames : List (List ℕ)) (table : SlotTable) (free : SlotRuns) (s : ℕ) → Matches frames table free → Some s ≡ slice_get (numbers free.runs) 0 → s < table.slots
first_within frames table free s h e =
    let in' : Contains (free_in frames table) s = first_in (free_in frames table) s (e ∙ ap (λ xs. slice_get xs 0) (free_numbers frames table free h)) in
    (free_slot table.slots table.first frames s in').0

pub matches_taken : (frames : List (List ℕ)) (table : SlotTable) (free : SlotRuns) (s owner : ℕ) → Matches frames table free → IsSlot table.slots table.first frames s → IsOwner owner → Matches (with_entry frames table.first s owner) table (record { room = free.room; runs = runs_of (removed (numbers free.runs) s) })
matches_taken frames table free s owner h at owns =
    let some : (0 < owner) × (owner < 2 ^ 32) = ⊎_elim (λ task. (omega arith, omega arith)) (λ image. (omega arith, omega arith)) owns in
    record {
      room = h.room;
      runs = ap (λ xs. runs_of (removed xs s)) (free_numbers frames table free h) ∙ ap runs_of (sym (free_slots-taken table.slots table.first frames s owner at some.1 some.0));
    }

pub matches_given : (frames : List (List ℕ)) (table : SlotTable) (free : SlotRuns) (s : ℕ) → Matches frames table free → IsSlot table.slots table.first frames s → Matches (with_entry frames table.first s 0) table (record { room = free.room; runs = runs_of (inserted (numbers free.runs) s) })
matches_given frames table free s h at = record {
  room = h.room;
  runs = ap (λ xs. runs_of (inserted xs s)) (free_numbers frames table free h) ∙ ap runs_of (sym (free_slots-given table.slots table.first frames s at));
}

-- while the image's slots below one are given back, the entry of that one stays
pub image_entry : (frames : List (List ℕ)) (table : SlotTable) (slot : ℕ) → All IsPage frames → LiesIn frames table → slot < table.slots → entry_at (with_entries frames table.first (image_slots slot table.first frames) 0) table.first slot ≡ entry_at frames table.first slot
image_entry frames table slot pages lies lt =
    entry_at-with_entries_other frames table.first table.slots (image_slots slot table.first frames) 0 slot pages lies
    (λ k in'. let below = (image_slot slot table.first frames k in').0 in (omega arith, λ e. omega arith))

pub images_more : (frames now new : List (List ℕ)) (table : SlotTable) (slot : ℕ) → now ≡ with_entries frames table.first (image_slots slot table.first frames) 0 → entry_at frames table.first slot ≡ 65536 → new ≡ with_entry now table.first slot 0 → new ≡ with_entries frames table.first (image_slots (slot + 1) table.first frames) 0
images_more frames now new table slot given image e =
    e ∙ ap (λ (fs : List (List ℕ)). with_entry fs table.first slot 0) given
    ∙ sym (with_entries-more frames table.first (image_slots slot table.first frames) slot 0)
    ∙ ap (λ ks. with_entries frames table.first ks 0) (sym (image_slots-more_image slot table.first frames image))
