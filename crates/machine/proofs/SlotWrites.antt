-- Laws of the slot table: an entry of it that is set, in page frames and as they are seen.
use Rattle.std.proofs.Common.{◌≡◌, ◌≢◌, ℕ, zero, suc, ◌+◌, ◌-◌, ◌*◌, ◌/◌, ◌%◌, ◌^◌, ◌<◌, ◌≤◌, ◌⊎◌, inl, inr, List, [], ◌∷◌, length, refl, sym, ap, ◌∙◌, arith, eqb, set, get_or, subst}
use Rattle.byteorder.specs.Endian.{little_bytes}
use Rattle.byteorder.specs.Numbers.{length-bytes_low_first}
use Rattle.std.proofs.lemmas.Bool.{cases_eq, cases_lt, ne_eqb}
use Rattle.std.proofs.lemmas.Grind.{same_number_lists}
use Rattle.std.proofs.lemmas.List.{get_or-set_same, get_or-set_other, set-set}
use Rattle.std.specs.List.{All, Contains, range_with_len}
use Rattle.definitions.specs.Bytes.{IsPage, with_bytes, with_number}
use Rattle.definitions.specs.Tables.{free_slots, image_slots}
use Rattle.definitions.specs.FreeRuns.{runs_of}
use Rattle.definitions.specs.Tables.{frame, with_entry, with_entries, HasTable}
use Rattle.definitions.specs.Zones.{numbers, top}
use Rattle.definitions.proofs.Ascending.{Contains-head, Contains-tail}
use Rattle.definitions.proofs.FreeSlots.{image_slot, Contains-image_slots}
use Rattle.definitions.proofs.PageBytes.{length-with_bytes, get_or-with_bytes_below, get_or-with_bytes_within, get_or-with_bytes_above}
use Rattle.definitions.proofs.TableEntries.{entry_frame_within, entry_at-with_entry_same, entry_at-with_entry_other, entry_at-with_entries_same, entry_at-with_entries_other, frame-with_entry_other, IsPage-with_entry, HasTable-with_entry}
use Rattle.definitions.proofs.ZoneNumbers.{range-bounds}
use Rattle.plain_machine.specs.Machine.{Hardware, Memory, IsHardware, IsOfTable, frame_entry, raw_slot_entry}
use Rattle.plain_machine.specs.Shows.{seen_frames}
use Rattle.plain_machine.proofs.SameMemory.{filter_agree_within, entry-same, of_frame_table, of_slot_table, tables_apart}
use Rattle.swap_slots.specs.Runs.{SlotRuns}
use Rattle.swap_slots.specs.Table.{Matches}
use Rattle.machine.specs.Running.{slot_table_of}

-- Two writes to a page that lie apart.

get_or-within : (page : List ℕ) (k : ℕ) (bytes : List ℕ) (i : ℕ) → k + length bytes ≤ length page → k ≤ i → i < k + length bytes → get_or (with_bytes page k bytes) i 0 ≡ get_or bytes (i - k) 0
get_or-within page k bytes i fits le lt =
    let at : k + (i - k) ≡ i = omega arith in
    subst (λ (j : ℕ). get_or (with_bytes page k bytes) j 0 ≡ get_or bytes (i - k) 0) at (get_or-with_bytes_within page k bytes (i - k) 0 fits (omega arith))

with_bytes-swap : (page : List ℕ) (j : ℕ) (xs : List ℕ) (k : ℕ) (ys : List ℕ) → j + length xs ≤ k → k + length ys ≤ length page → with_bytes (with_bytes page j xs) k ys ≡ with_bytes (with_bytes page k ys) j xs
with_bytes-swap page j xs k ys apart fits =
    let first = with_bytes page j xs in
    let second = with_bytes page k ys in
    let first_size : length first ≡ length page = length-with_bytes page j xs (omega arith) in
    let second_size : length second ≡ length page = length-with_bytes page k ys fits in
    let size : length (with_bytes first k ys) ≡ length page = length-with_bytes first k ys (omega arith) ∙ first_size in
    let size' : length (with_bytes second j xs) ≡ length page = length-with_bytes second j xs (omega arith) ∙ second_size in
    same_number_lists (with_bytes first k ys) (with_bytes second j xs) (size ∙ sym size')
    (λ i lt. elim (cases_lt i j) [
      | inl low ↦ get_or-with_bytes_below first k ys i 0 (omega arith) (omega arith) ∙ get_or-with_bytes_below page j xs i 0 (omega arith) low
          ∙ sym (get_or-with_bytes_below second j xs i 0 (omega arith) low ∙ get_or-with_bytes_below page k ys i 0 fits (omega arith))
      | inr from ↦ elim (cases_lt i (j + length xs)) [
        | inl within ↦ get_or-with_bytes_below first k ys i 0 (omega arith) (omega arith) ∙ get_or-within page j xs i (omega arith) from within
            ∙ sym (get_or-within second j xs i (omega arith) from within)
        | inr past ↦ elim (cases_lt i k) [
          | inl between ↦ get_or-with_bytes_below first k ys i 0 (omega arith) between ∙ get_or-with_bytes_above page j xs i 0 (omega arith) past
              ∙ sym (get_or-with_bytes_above second j xs i 0 (omega arith) past ∙ get_or-with_bytes_below page k ys i 0 fits between)
          | inr next ↦ elim (cases_lt i (k + length ys)) [
            | inl inside ↦ get_or-within first k ys i (omega arith) next inside
                ∙ sym (get_or-with_bytes_above second j xs i 0 (omega arith) past ∙ get_or-within page k ys i fits next inside)
            | inr above ↦ get_or-with_bytes_above first k ys i 0 (omega arith) above ∙ get_or-with_bytes_above page j xs i 0 (omega arith) past
                ∙ sym (get_or-with_bytes_above second j xs i 0 (omega arith) past ∙ get_or-with_bytes_above page k ys i 0 fits above)
          ]
        ]
      ]
    ])

with_number-swap : (page : List ℕ) (j v k w : ℕ) → (j + 4 ≤ k) ⊎ (k + 4 ≤ j) → j + 4 ≤ length page → k + 4 ≤ length page → with_number 4 (with_number 4 page j v) k w ≡ with_number 4 (with_number 4 page k w) j v
unfolding with_number
with_number-swap page j v k w apart fits fits' =
    let a = length-bytes_low_first 0 4 v in
    let b = length-bytes_low_first 0 4 w in
    elim apart [
      | inl le ↦ with_bytes-swap page j (little_bytes 4 v) k (little_bytes 4 w) (omega arith) (omega arith)
      | inr le ↦ sym (with_bytes-swap page k (little_bytes 4 w) j (little_bytes 4 v) (omega arith) (omega arith))
    ]

-- Two entries of one table.

set_set : (l : Memory) (i j : ℕ) (a b : List ℕ) → i ≢ j → set (set l i a) j b ≡ set (set l j b) i a
set_set [] i j a b ne = refl
set_set (x ∷ l) zero zero a b ne = absurd (ne refl)
set_set (x ∷ l) zero (suc j) a b ne = refl
set_set (x ∷ l) (suc i) zero a b ne = refl
set_set (x ∷ l) (suc i) (suc j) a b ne = ap (λ (t : Memory). x ∷ t) (set_set l i j a b (λ e. ne (ap suc e)))

with_entry-swap : (m : Memory) (table n k v j w : ℕ) → All IsPage m → HasTable m table n → k < n → j < n → j ≢ k → with_entry (with_entry m table k v) table j w ≡ with_entry (with_entry m table j w) table k v
unfolding with_entry
with_entry-swap m table n k v j w pages has lt lt' ne =
    let p = table + k / 1024 in
    let q = table + j / 1024 in
    let at = 4 * (k % 1024) in
    let at' = 4 * (j % 1024) in
    let page = with_number 4 (frame m p) at v in
    let page' = with_number 4 (frame m q) at' w in
    let inside = entry_frame_within m table n k has lt in
    let whole = pages p [] inside in
    elim (cases_eq q p) [
      | inl e ↦
          let elsewhere : (at + 4 ≤ at') ⊎ (at' + 4 ≤ at) = elim (cases_lt (k % 1024) (j % 1024)) [ inl low ↦ inl (omega arith) | inr ge ↦ inr (omega arith) ] in
          let other : page' ≡ with_number 4 (frame m p) at' w = ap (λ (r : ℕ). with_number 4 (frame m r) at' w) e in
          ap (λ (r : ℕ). set (set m p page) r (with_number 4 (frame (set m p page) r) at' w)) e
          ∙ ap (λ (x : List ℕ). set (set m p page) p (with_number 4 x at' w)) (get_or-set_same m p page [] inside)
          ∙ set-set m p page (with_number 4 page at' w)
          ∙ ap (set m p) (with_number-swap (frame m p) at v at' w elsewhere (omega arith) (omega arith))
          ∙ sym (ap (λ (x : List ℕ). set (set m q x) p (with_number 4 (frame (set m q x) p) at v)) other
          ∙ ap (λ (r : ℕ). set (set m r (with_number 4 (frame m p) at' w)) p (with_number 4 (frame (set m r (with_number 4 (frame m p) at' w)) p) at v)) e
          ∙ ap (λ (x : List ℕ). set (set m p (with_number 4 (frame m p) at' w)) p (with_number 4 x at v)) (get_or-set_same m p (with_number 4 (frame m p) at' w) [] inside)
          ∙ set-set m p (with_number 4 (frame m p) at' w) (with_number 4 (with_number 4 (frame m p) at' w) at v))
      | inr apart ↦
          ap (λ (x : List ℕ). set (set m p page) q (with_number 4 x at' w)) (get_or-set_other m p q page [] apart)
          ∙ set_set m p q page page' (λ e. apart (sym e))
          ∙ sym (ap (λ (x : List ℕ). set (set m q page') p (with_number 4 x at v)) (get_or-set_other m q p page' [] (λ e. apart (sym e))))
    ]

with_entries-swap : (m : Memory) (table n k v : ℕ) (js : List ℕ) (w : ℕ) → All IsPage m → HasTable m table n → k < n → ((j : ℕ) → Contains js j → (j < n) × (j ≢ k)) → with_entries (with_entry m table k v) table js w ≡ with_entry (with_entries m table js w) table k v
unfolding with_entries
with_entries-swap m table n k v [] w pages has lt apart = refl
with_entries-swap m table n k v (j ∷ js) w pages has lt apart =
    let this = apart j (Contains-head j js) in
    ap (λ (x : Memory). with_entries x table js w) (with_entry-swap m table n k v j w pages has lt this.0 this.1)
    ∙ with_entries-swap (with_entry m table j w) table n k v js w (IsPage-with_entry m table j w pages) (HasTable-with_entry m table n j w has) lt (λ i in'. apart i (Contains-tail j js i in'))

-- An entry of the slot table that is set.

-- page frames of a machine, with its slot table
pub record HasSlots (h : Hardware) (m : Memory) : Type 0 where
  pub pages : All IsPage m
  pub table : HasTable m h.slot_table h.slots

pub slot_entry-set_same : (h : Hardware) (m : Memory) (s v : ℕ) → HasSlots h m → s < h.slots → v < 2 ^ 32 → raw_slot_entry h (with_entry m h.slot_table s v) s ≡ v
slot_entry-set_same h m s v has lt small =
    let within = entry_frame_within m h.slot_table h.slots s has.table lt in
    entry_at-with_entry_same m h.slot_table s v within (has.pages (h.slot_table + s / 1024) [] within) small

pub slot_entry-set_apart : (h : Hardware) (m : Memory) (s v k : ℕ) → HasSlots h m → s < h.slots → k ≢ s → raw_slot_entry h (with_entry m h.slot_table s v) k ≡ raw_slot_entry h m k
slot_entry-set_apart h m s v k has lt ne =
    let within = entry_frame_within m h.slot_table h.slots s has.table lt in
    entry_at-with_entry_other m h.slot_table s v k within (has.pages (h.slot_table + s / 1024) [] within) ne

pub frame_entry-slot_set : (h : Hardware) (m : Memory) (s v p : ℕ) → IsHardware h → s < h.slots → Contains (numbers h.zones) p → frame_entry h (with_entry m h.slot_table s v) p ≡ frame_entry h m p
frame_entry-slot_set h m s v p hw lt in' =
    entry-same m (with_entry m h.slot_table s v) h.frame_table p
    (frame-with_entry_other m h.slot_table s v (h.frame_table + p / 1024) (λ e. tables_apart h (h.slot_table + s / 1024) hw (subst (λ (f : ℕ). IsOfTable h.frame_table (top h.zones) f) e (of_frame_table h p hw in')) (of_slot_table h s lt)))

-- One that is set to another than the image's, and wasn't the image's, can be set before or after those of the image are given back.
image_slots-set : (h : Hardware) (m : Memory) (s v : ℕ) → HasSlots h m → s < h.slots → v < 2 ^ 32 → v ≢ 65536 → raw_slot_entry h m s ≢ 65536 → image_slots h.slots h.slot_table (with_entry m h.slot_table s v) ≡ image_slots h.slots h.slot_table m
unfolding image_slots
image_slots-set h m s v has lt small ne was =
    let new = with_entry m h.slot_table s v in
    filter_agree_within (λ k. eqb (raw_slot_entry h new k) 65536) (λ k. eqb (raw_slot_entry h m k) 65536) (range_with_len 0 h.slots)
    (λ k in'. elim (cases_eq k s) [
      | inl e ↦
          ap (λ (j : ℕ). eqb (raw_slot_entry h new j) 65536) e
          ∙ ne_eqb (raw_slot_entry h new s) 65536 (λ is. ne (sym (slot_entry-set_same h m s v has lt small) ∙ is))
          ∙ sym (ap (λ (j : ℕ). eqb (raw_slot_entry h m j) 65536) e ∙ ne_eqb (raw_slot_entry h m s) 65536 was)
      | inr apart ↦ ap (λ (entry : ℕ). eqb entry 65536) (slot_entry-set_apart h m s v k has lt apart)
    ])

pub seen_slot : (h : Hardware) (m : Memory) (s v : ℕ) → HasSlots h m → s < h.slots → v < 2 ^ 32 → v ≢ 65536 → raw_slot_entry h m s ≢ 65536 → seen_frames h (with_entry m h.slot_table s v) ≡ with_entry (seen_frames h m) h.slot_table s v
seen_slot h m s v has lt small ne was =
    ap (λ (ks : List ℕ). with_entries (with_entry m h.slot_table s v) h.slot_table ks 0) (image_slots-set h m s v has lt small ne was)
    ∙ with_entries-swap m h.slot_table h.slots s v (image_slots h.slots h.slot_table m) 0 has.pages has.table lt
    (λ k in'. let it = image_slot h.slots h.slot_table m k in' in (it.0, λ e. was (subst (λ (j : ℕ). raw_slot_entry h m j ≡ 65536) e it.1)))

-- an entry that isn't the image's is seen as it is
pub slot_entry-seen : (h : Hardware) (m : Memory) (s : ℕ) → HasSlots h m → raw_slot_entry h m s ≢ 65536 → raw_slot_entry h (seen_frames h m) s ≡ raw_slot_entry h m s
slot_entry-seen h m s has ne =
    entry_at-with_entries_other m h.slot_table h.slots (image_slots h.slots h.slot_table m) 0 s has.pages has.table
    (λ k in'. let it = image_slot h.slots h.slot_table m k in' in (it.0, λ e. ne (subst (λ (j : ℕ). raw_slot_entry h m j ≡ 65536) e it.1)))

-- an entry that is the image's is seen as free
pub slot_entry-image : (h : Hardware) (m : Memory) (s : ℕ) → HasSlots h m → s < h.slots → raw_slot_entry h m s ≡ 65536 → raw_slot_entry h (seen_frames h m) s ≡ 0
slot_entry-image h m s has lt is =
    entry_at-with_entries_same m h.slot_table h.slots (image_slots h.slots h.slot_table m) 0 s has.pages has.table (omega arith)
    (λ k in'. (image_slot h.slots h.slot_table m k in').0) (Contains-image_slots h.slots h.slot_table m s lt is)

-- The runs are those of every memory with the same slot entries.

free_slots-same : (h : Hardware) (m n : Memory) → ((k : ℕ) → k < h.slots → raw_slot_entry h n k ≡ raw_slot_entry h m k) → free_slots h.slots h.slot_table n ≡ free_slots h.slots h.slot_table m
unfolding free_slots
free_slots-same h m n same =
    filter_agree_within (λ s. eqb (raw_slot_entry h n s) 0) (λ s. eqb (raw_slot_entry h m s) 0) (range_with_len 0 h.slots)
    (λ s in'. let bounds = range-bounds 0 h.slots s in' in let below = bounds.1 in ap (λ (x : ℕ). eqb x 0) (same s (omega arith)))

pub matches-same : (h : Hardware) (m n : Memory) (runs : SlotRuns) → ((k : ℕ) → k < h.slots → raw_slot_entry h n k ≡ raw_slot_entry h m k) → Matches m (slot_table_of h) runs → Matches n (slot_table_of h) runs
matches-same h m n runs same matches = record { room = matches.room; runs = matches.runs ∙ sym (ap runs_of (free_slots-same h m n same)) }
