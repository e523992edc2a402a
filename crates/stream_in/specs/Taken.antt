-- How far a stream has been taken.
use Rattle.std.specs.Prelude.{◌≡◌, ◌≤◌, ◌<◌, ℕ, ◌+◌, ◌-◌, ◌*◌, ◌%◌, List, ◌∷◌, [], ◌++◌, None, nat_lt, slice_index}
use Rattle.std.specs.Prelude.{length, if◌then◌else◌}
use Rattle.definitions.specs.Bytes.{number_at}
use Rattle.stream_in.specs.declared.checking.taking.Taking.{Taking}
use Rattle.stream_in.specs.Grammar.{image_pages, all_pages, place, words, least_number, first_fault, most_bytes}

-- The numbers that are kept are in order, and so small that no sum of them wraps.
pub record AreBounded (t : Taking) : Type 0 where
  pub taken : t.taken ≤ t.end
  pub early : t.taken < 4096 → t.numbers_end ≡ 4096
  pub numbers : 4096 ≤ t.numbers_end
  pub within : t.numbers_end ≤ t.end
  pub few : t.end ≤ most_bytes
  pub least : t.least ≤ 65536
  pub image_pages : 4096 < t.numbers_end → t.image_pages ≤ 65536
  pub pages : 4096 < t.numbers_end → t.pages ≤ 65665

-- What is kept of these bytes, in which no fault was found: the two counts, the ends of the tested words and of the
-- stream, and the least number that may come next.
pub record HasRead (bs : List ℕ) (t : Taking) : Type 0 where
  pub sound : first_fault bs ≡ None
  pub image_count : 424 ≤ length bs → t.image_pages ≡ image_pages bs
  pub page_count : 432 ≤ length bs → t.pages ≡ all_pages bs
  pub numbers_end : t.numbers_end ≡ (if nat_lt (length bs) 4096 then 4096 else place (image_pages bs + 1))
  pub end : 4096 ≤ length bs → t.end ≡ 4096 * all_pages bs
  pub least : words bs ≤ image_pages bs → t.least ≡ least_number bs (words bs)

-- the bytes so far of the word that has begun
abbrev pub HasBegun : List ℕ → Taking → Type 0
HasBegun bs t = (i : ℕ) → i < t.taken % 8 → slice_index t.word i ≡ slice_index bs (t.taken - t.taken % 8 + i)

-- Exactly these bytes are taken, and they have no fault.
pub record HasTaken (bs : List ℕ) (t : Taking) : Type 0 where
  pub taken : t.taken ≡ length bs
  pub read : HasRead bs t
  pub begun : t.taken < t.numbers_end → HasBegun bs t

-- This byte completes the word v, which hasn't been read yet.
pub record Completes (bs : List ℕ) (b v : ℕ) (t : Taking) : Type 0 where
  pub read : HasRead bs t
  pub taken : t.taken ≡ length bs + 1
  pub within : length bs < t.numbers_end
  pub whole : t.taken % 8 ≡ 0
  pub value : v ≡ number_at 8 (bs ++ b ∷ []) (t.taken - 8)
