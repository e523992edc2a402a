-- The tables in page frames. Memory is a list of pages, the content of each page frame by its number.
use Rattle.std.specs.Prelude.{◌≡◌, ◌≢◌, ◌≤◌, ◌<◌, ◌⊎◌, ℕ, ◌+◌, ◌*◌, ◌/◌, ◌%◌, ◌==◌, ◌&&◌, ◌||◌, Bool, not, IsTrue, List}
use Rattle.std.specs.Prelude.{[], ◌∷◌, length, slice_index_or, slice_set, bit_and, filter}
use Rattle.definitions.specs.Bytes.{number_at, with_number}
use Rattle.std.specs.List.{range_with_len}
use Rattle.definitions.specs.Zones.{numbers}
use Rattle.definitions.specs.declared.counts.TheConstants.{ENTRIES_PER_FRAME}

-- the content of page frame p
abbrev pub frame : List (List ℕ) → ℕ → List ℕ
frame frames p = slice_index_or frames p []

-- the frames with this page in page frame p
abbrev pub with_frame : List (List ℕ) → ℕ → List ℕ → List (List ℕ)
with_frame frames p page = slice_set frames p page

-- Entry k of the table of 4-byte numbers whose first page frame is `table`: 1024 of them in each frame.
unfoldable pub entry_at : List (List ℕ) → ℕ → ℕ → ℕ
entry_at frames table k = number_at 4 (frame frames (table + k / ENTRIES_PER_FRAME)) (4 * (k % ENTRIES_PER_FRAME))

-- The number of page frames that a table of n entries takes, in a row.
abbrev pub table_frame_count : ℕ → ℕ
table_frame_count n = (n + 1023) / ENTRIES_PER_FRAME

-- memory has all page frames of a table of n entries
abbrev pub HasTable : List (List ℕ) → ℕ → ℕ → Type 0
HasTable frames table n = table + table_frame_count n ≤ length frames

-- memory with entry k of the table set to v
unfoldable pub with_entry : List (List ℕ) → ℕ → ℕ → ℕ → List (List ℕ)
with_entry frames table k v =
    with_frame frames (table + k / ENTRIES_PER_FRAME)
    (with_number 4 (frame frames (table + k / ENTRIES_PER_FRAME)) (4 * (k % ENTRIES_PER_FRAME)) v)

-- memory with each of these entries of the table set to v
unfoldable pub with_entries : List (List ℕ) → ℕ → List ℕ → ℕ → List (List ℕ)
with_entries frames table [] v = frames
with_entries frames table (k ∷ ks) v = with_entries (with_entry frames table k v) table ks v

-- An entry of the frame table: flags in the low 16 bits (struct page's flags, as far as kernel/power/snapshot.c asks
-- for them), the owner in the high 16: 0, or a task from 1 to 64.
abbrev pub page_flags : ℕ → ℕ
page_flags entry = entry % 65536

abbrev pub owner_of : ℕ → ℕ
owner_of entry = entry / 65536

-- the entry with these flags and this owner
abbrev pub entry_of : ℕ → ℕ → ℕ
entry_of flags owner = flags + 65536 * owner

-- whether some flag of a mask is set
abbrev pub has_flag : ℕ → ℕ → Bool
has_flag flags mask = not (bit_and flags mask == 0)

-- FREE 1: the page frame is free (swsusp_page_is_free).
abbrev pub is_free : ℕ → Bool
is_free flags = has_flag flags 1

-- A page frame is saveable (saveable_page) unless it is free, offline (4) or a guard page (8), or is reserved (2) and
-- either not mapped by the kernel (16) or in the kernel's nosave section (32, pfn_is_nosave).
abbrev pub is_saveable : ℕ → Bool
is_saveable flags =
    not (is_free flags) && not (has_flag flags 4) && not (has_flag flags 8)
    && not (has_flag flags 2 && (has_flag flags 16 || has_flag flags 32))

-- A well-formed entry: no flag above CACHE (64), and an owner of at most 64. A free page frame has no other flag and no
-- owner, and an owned one has no flag but CACHE.
pub record IsWellFormed (entry : ℕ) : Type 0 where
  pub flags : page_flags entry < 128
  pub owner : owner_of entry ≤ 64
  pub free : IsTrue (is_free (page_flags entry)) → entry ≡ 1
  pub owned : owner_of entry ≢ 0 → (page_flags entry ≡ 0) ⊎ (page_flags entry ≡ 64)

-- What the tables say: which page frames are saveable or free, and which slots are free. All ascending.

-- the page frames of the zones that an image saves (saveable_page), by the frame table
unfoldable pub saveable_frames : List (ℕ × ℕ) → ℕ → List (List ℕ) → List ℕ
saveable_frames zones table frames = filter (λ p. is_saveable (page_flags (entry_at frames table p))) (numbers zones)

-- the page frames whose entry is FREE and nothing else
unfoldable pub free_frames : List (ℕ × ℕ) → ℕ → List (List ℕ) → List ℕ
free_frames zones table frames = filter (λ p. entry_at frames table p == 1) (numbers zones)

-- the slots among the first `slots` whose entry in the slot table is 0
unfoldable pub free_slots : ℕ → ℕ → List (List ℕ) → List ℕ
free_slots slots table frames = filter (λ s. entry_at frames table s == 0) (range_with_len 0 slots)

-- the slots of the image, whose entry is 65536
unfoldable pub image_slots : ℕ → ℕ → List (List ℕ) → List ℕ
image_slots slots table frames = filter (λ s. entry_at frames table s == 65536) (range_with_len 0 slots)
