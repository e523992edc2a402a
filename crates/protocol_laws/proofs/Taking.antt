-- Slots that a hibernation takes for its image: what is seen of memory stays.
use Rattle.std.proofs.Common.{◌≡◌, ℕ, ◌+◌, ◌/◌, ◌<◌, ◌≤◌, ◌⊎◌, inl, inr, List, [], ◌∷◌, sym, ◌∙◌, subst, arith, Contains}
use Rattle.byteorder.specs.Endian.{little_bytes}
use Rattle.std.proofs.lemmas.Bool.{cases_eq, cases_lt}
use Rattle.definitions.specs.Bytes.{IsPage}
use Rattle.definitions.specs.Tables.{image_slots}
use Rattle.definitions.specs.Tables.{frame, HasTable, table_frame_count}
use Rattle.definitions.proofs.Ascending.{Contains-nil, Contains-head, Contains-tail, Contains-cons_cases}
use Rattle.definitions.proofs.FreeSlots.{Contains-image_slots, image_slot}
use Rattle.definitions.proofs.TableEntries.{entry_at-with_entries_same, entry_at-with_entries_other, length-with_entries, IsPage-with_entries, HasTable-with_entries, frame-with_entries_other}
use Rattle.plain_machine.specs.Machine.{Hardware, Memory, IsSameMemory, raw_slot_entry, table_len}
use Rattle.plain_machine.specs.Shows.{seen_frames}
use Rattle.plain_machine.proofs.Fresh.{seen-plain}
use Rattle.protocol_laws.specs.Slots.{IsMemoryOf, AreFree, taken}
use Rattle.protocol_laws.proofs.Chunks.{chunk, chunk-outside, chunk-within, chunk-zero, same_by_chunks}
use Rattle.protocol_laws.specs.Memory.{FrameTaken, NamesTaken, NoneLeft, RunsGivenBack, RunsTaken, SeenTaken}

has_table : (h : Hardware) (m : Memory) → IsMemoryOf h m → HasTable m h.slot_table h.slots
has_table h m is = is.table

-- is a number in a list?
find_in : (xs : List ℕ) (p : ℕ) → Contains xs p ⊎ (Contains xs p → ⊥)
find_in [] p = inr (λ in'. Contains-nil p in')
find_in (x ∷ xs) p = elim (cases_eq x p) [
  | inl e ↦ inl (subst (Contains (x ∷ xs)) e (Contains-head x xs))
  | inr ne ↦ elim (find_in xs p) [
    | inl there ↦ inl (Contains-tail x xs p there)
    | inr out ↦ inr (λ in'. elim (Contains-cons_cases x xs p in') [ inl e ↦ ne e | inr there ↦ out there ])
  ]
]

image_below : (h : Hardware) (m : Memory) (k : ℕ) → Contains (image_slots h.slots h.slot_table m) k → k < h.slots
image_below h m k in' = (image_slot h.slots h.slot_table m k in').0

pub is_memory-taken : (h : Hardware) (m : Memory) (ss : List ℕ) → IsMemoryOf h m → IsMemoryOf h (taken h m ss)
is_memory-taken h m ss is = record { pages = IsPage-with_entries m h.slot_table ss 65536 is.pages; table = HasTable-with_entries m h.slot_table h.slots ss 65536 is.table }

-- the entry of a slot that was taken, and of another one
pub taken_entry : (h : Hardware) (m : Memory) (ss : List ℕ) (k : ℕ) → IsMemoryOf h m → AreFree h m ss → Contains ss k → raw_slot_entry h (taken h m ss) k ≡ 65536
taken_entry h m ss k is free in' = entry_at-with_entries_same m h.slot_table h.slots ss 65536 k is.pages is.table (omega arith) (λ j j_in. (free j j_in).0) in'

pub other_entry : (h : Hardware) (m : Memory) (ss : List ℕ) (k : ℕ) → IsMemoryOf h m → AreFree h m ss → (Contains ss k → ⊥) → raw_slot_entry h (taken h m ss) k ≡ raw_slot_entry h m k
other_entry h m ss k is free out =
    entry_at-with_entries_other m h.slot_table h.slots ss 65536 k is.pages is.table (λ j j_in. ((free j j_in).0, λ e. out (subst (Contains ss) e j_in)))

-- an entry as it is seen
seen_chunk : (h : Hardware) (m : Memory) (k : ℕ) → IsMemoryOf h m → k < h.slots → raw_slot_entry h m k ≡ 65536 → chunk (seen_frames h m) h.slot_table k ≡ little_bytes 4 0
seen_chunk h m k is lt e =
    chunk-within m h.slot_table h.slots (image_slots h.slots h.slot_table m) 0 k is.pages is.table (image_below h m) (Contains-image_slots h.slots h.slot_table m k lt e)

plain_chunk : (h : Hardware) (m : Memory) (k : ℕ) → IsMemoryOf h m → (k < h.slots → raw_slot_entry h m k ≡ 65536 → ⊥) → chunk (seen_frames h m) h.slot_table k ≡ chunk m h.slot_table k
plain_chunk h m k is plain =
    chunk-outside m h.slot_table h.slots (image_slots h.slots h.slot_table m) 0 k is.pages is.table (image_below h m)
    (λ in'. let it = image_slot h.slots h.slot_table m k in' in plain it.0 it.1)

taken_chunk : (h : Hardware) (m : Memory) (ss : List ℕ) (k : ℕ) → IsMemoryOf h m → AreFree h m ss → (Contains ss k → ⊥) → chunk (taken h m ss) h.slot_table k ≡ chunk m h.slot_table k
taken_chunk h m ss k is free out = chunk-outside m h.slot_table h.slots ss 65536 k is.pages is.table (λ j j_in. (free j j_in).0) out

frame_of_slot : (h : Hardware) (m : Memory) (k : ℕ) → IsMemoryOf h m → k < h.slots → IsPage (frame m (h.slot_table + k / 1024))
frame_of_slot h m k is lt = is.pages (h.slot_table + k / 1024) [] (let table = is.table in omega arith)

same_chunk : (h : Hardware) (m : Memory) (ss : List ℕ) (k : ℕ) → IsMemoryOf h m → AreFree h m ss → chunk (seen_frames h (taken h m ss)) h.slot_table k ≡ chunk (seen_frames h m) h.slot_table k
same_chunk h m ss k is free =
    let new = is_memory-taken h m ss is in
    elim (find_in ss k) [
      | inl in' ↦
          let f = free k in' in
          seen_chunk h (taken h m ss) k new f.0 (taken_entry h m ss k is free in')
          ∙ sym (plain_chunk h m k is (λ lt e. let r : ⊥ = omega (arith, f.1, e) in r) ∙ chunk-zero m h.slot_table k (frame_of_slot h m k is f.0) f.1)
      | inr out ↦
          let entry = other_entry h m ss k is free out in
          elim (image_or_not h m k) [
            | inl (lt, e) ↦ seen_chunk h (taken h m ss) k new lt (entry ∙ e) ∙ sym (seen_chunk h m k is lt e)
            | inr plain ↦ plain_chunk h (taken h m ss) k new (λ lt e. plain lt (sym entry ∙ e)) ∙ taken_chunk h m ss k is free out ∙ sym (plain_chunk h m k is plain)
          ]
    ] where
      image_or_not : (h : Hardware) (m : Memory) (k : ℕ) → ((k < h.slots) × (raw_slot_entry h m k ≡ 65536)) ⊎ (k < h.slots → raw_slot_entry h m k ≡ 65536 → ⊥)
      image_or_not h m k = elim (cases_lt k h.slots) [
        | inl lt ↦ elim (cases_eq (raw_slot_entry h m k) 65536) [ inl e ↦ inl (lt, e) | inr ne ↦ inr (λ l e. ne e) ]
        | inr past ↦ inr (λ lt e. absurd (omega arith))
      ]

seen_outside : (h : Hardware) (m : Memory) (f : ℕ) → (f < h.slot_table) ⊎ (h.slot_table + table_frame_count h.slots ≤ f) → frame (seen_frames h m) f ≡ frame m f
seen_outside h m f out = frame-with_entries_other m h.slot_table h.slots (image_slots h.slots h.slot_table m) 0 f (image_below h m) out

-- What is seen of memory stays where free slots are taken.
pub seen_taken : SeenTaken
seen_taken h m ss is free =
    let new = is_memory-taken h m ss is in
    same_by_chunks (seen_frames h (taken h m ss)) (seen_frames h m) h.slot_table h.slots
    (length-with_entries (taken h m ss) h.slot_table (image_slots h.slots h.slot_table (taken h m ss)) 0 ∙ length-with_entries m h.slot_table ss 65536 ∙ sym (length-with_entries m h.slot_table (image_slots h.slots h.slot_table m) 0))
    (IsPage-with_entries (taken h m ss) h.slot_table (image_slots h.slots h.slot_table (taken h m ss)) 0 new.pages)
    (IsPage-with_entries m h.slot_table (image_slots h.slots h.slot_table m) 0 is.pages)
    (λ f out. seen_outside h (taken h m ss) f out ∙ frame-with_entries_other m h.slot_table h.slots ss 65536 f (λ j j_in. (free j j_in).0) out ∙ sym (seen_outside h m f out))
    (λ k. same_chunk h m ss k is free)

-- Given back, no slot is the image's, and what is seen is what there is.

pub none_left : NoneLeft
none_left h m k is lt e = elim (cases_eq (raw_slot_entry h m k) 65536) [
  | inl image ↦
      let zero_is : raw_slot_entry h (seen_frames h m) k ≡ 0 = entry_at-with_entries_same m h.slot_table h.slots (image_slots h.slots h.slot_table m) 0 k is.pages is.table (omega arith) (image_below h m) (Contains-image_slots h.slots h.slot_table m k lt image) in
      let r : ⊥ = omega arith in r
  | inr plain ↦
      plain (sym (entry_at-with_entries_other m h.slot_table h.slots (image_slots h.slots h.slot_table m) 0 k is.pages is.table
      (λ j j_in. let it = image_slot h.slots h.slot_table m j j_in in (it.0, λ same. plain (subst (λ (x : ℕ). raw_slot_entry h m x ≡ 65536) same it.1)))) ∙ e)
]

is_memory-seen : (h : Hardware) (m : Memory) → IsMemoryOf h m → IsMemoryOf h (seen_frames h m)
is_memory-seen h m is = record {
  pages = IsPage-with_entries m h.slot_table (image_slots h.slots h.slot_table m) 0 is.pages;
  table = HasTable-with_entries m h.slot_table h.slots (image_slots h.slots h.slot_table m) 0 is.table;
}

pub seen_seen : (h : Hardware) (m : Memory) → IsMemoryOf h m → seen_frames h (seen_frames h m) ≡ seen_frames h m
seen_seen h m is = seen-plain h (seen_frames h m) (λ k lt e. none_left h m k is lt e)

-- A running state that the page frames show is still shown.

pub runs_taken : RunsTaken
runs_taken h flag why ops m ss a is free runs = record {
  held = runs.held;
  unusable = runs.unusable;
  flights = runs.flights;
  same = subst (IsSameMemory h a.memory) (sym (seen_taken h m ss is free)) runs.same;
  fits = runs.fits;
}

pub runs_given_back : RunsGivenBack
runs_given_back h flag why ops m a is runs = record {
  held = runs.held;
  unusable = runs.unusable;
  flights = runs.flights;
  same = subst (IsSameMemory h a.memory) (sym (seen_seen h m is)) runs.same;
  fits = runs.fits;
}

-- Names: a slot of the image is one of before, or one that was taken.
pub names_taken : NamesTaken
names_taken h m ss blocks is free before new k lt e = elim (find_in ss k) [
  | inl in' ↦ new k in'
  | inr out ↦ before k lt (sym (other_entry h m ss k is free out) ∙ e)
]

-- Page frames outside the slot table keep their pages.
pub frame_taken : FrameTaken
frame_taken h m ss f free no_table =
    frame-with_entries_other m h.slot_table h.slots ss 65536 f (λ j j_in. (free j j_in).0)
    (elim (cases_lt f h.slot_table) [ inl lt ↦ inl lt | inr le ↦ elim (cases_lt f (h.slot_table + table_len h.slots)) [ inl lt ↦ absurd (no_table (record { from = le; below = lt })) | inr le' ↦ inr le' ] ])
