-- The restore list (struct pbe, kernel/power/snapshot.c) as it lies in the list frames: each holds the number of the
-- next list frame, then up to 170 entries.
use Rattle.std.specs.Prelude.{◌≡◌, ◌≤◌, ◌<◌, ℕ, ◌+◌, ◌-◌, ◌*◌, ◌^◌, List, [], ◌∷◌, length, take, drop, flat_map, nat_eq}
use Rattle.std.specs.Prelude.{nat_lt, slice_index, if◌then◌else◌, All}
use Rattle.std.specs.List.{IsDistinct}
use Rattle.definitions.specs.Moves.{Entry}
use Rattle.definitions.specs.NumberPages.{page_of_words}
use Rattle.definitions.specs.Tables.{frame}

-- a restore list: the list frames that it may use, and how many entries it has
pub record Listed : Type 0 where
  pub frames : List ℕ
  pub len : ℕ

-- the three words of an entry
abbrev pub words_of : Entry → List ℕ
words_of e = e.0 ∷ e.1 ∷ e.2 ∷ []

-- the number of the list frame after the i-th, or the end of the chain
abbrev pub end_of_chain : ℕ
end_of_chain = 2 ^ 64 - 1

abbrev pub next_frame : List ℕ → ℕ → ℕ
next_frame frames i = if nat_lt (i + 1) (length frames) then slice_index frames (i + 1) else end_of_chain

-- the entries that lie in the i-th list frame
abbrev pub part : List Entry → ℕ → List Entry
part entries i = take 170 (drop (170 * i) entries)

-- the page of a list frame: the next list frame, these entries, and zeros
unfoldable pub list_page : ℕ → List Entry → List ℕ
list_page next entries = page_of_words (next ∷ flat_map words_of entries)

-- the numbers of an entry fit in 32 bits
pub record IsEntry (e : Entry) : Type 0 where
  pub from : e.0 < 2 ^ 32
  pub to : e.1 < 2 ^ 32
  pub count : e.2 < 2 ^ 32

-- Memory holds this restore list with these entries: each list frame is exactly its page.
pub record LiesIn (memory : List (List ℕ)) (listed : Listed) (entries : List Entry) : Type 0 where
  pub within : All (λ p. p < length memory) listed.frames
  pub distinct : IsDistinct nat_eq listed.frames
  pub len : listed.len ≡ length entries
  pub room : length entries ≤ 170 * length listed.frames
  pub fits : All IsEntry entries
  pub pages : (i : ℕ) → i < length listed.frames →
      frame memory (slice_index listed.frames i) ≡ list_page (next_frame listed.frames i) (part entries i)
