-- What is known of the blocks that an image names, up to its last page.
use Rattle.std.specs.Prelude.{◌≡◌, ℕ, ◌+◌, true, false, Bool, List, [], ◌∷◌, ◌++◌, length, map, take, flat_map, nat_lt}
use Rattle.std.specs.Prelude.{Option, Ok, Err}
use Rattle.std.specs.List.{range_with_len}
use Rattle.page_core.specs.declared.format.Format.{Format}
use Rattle.definitions.specs.Bytes.{number_at, word}
use Rattle.definitions.specs.Disk.{Content}
use Rattle.image_walk.specs.Names.{Name, map_at, page_at, block_of, IsReading, AreReadFrom}
use Rattle.image_walk.specs.Walking.{IsSeen}
use Rattle.image_walk.specs.declared.limits.Limits.{Limits}
use Rattle.image_check.specs.Numbers.{frame_of}
use Rattle.image_show.specs.InfoFacts.{info_facts}
use Rattle.image_show.specs.declared.facts.fact.Fact.{Fact}
use Rattle.image_show.specs.declared.facts.fact.Fact.TheVariants as fact
use Rattle.definitions.specs.declared.counts.TheConstants.{WORDS_PER_PAGE}

-- the pages that entries name, and all blocks, in the order of reading
abbrev pub pages_in : List Name → List (List ℕ)
pages_in [] = []
pages_in (map_at b answer ∷ h) = pages_in h
pages_in (page_at b (Ok page) ∷ h) = pages_in h ++ page ∷ []
pages_in (page_at b (Err why) ∷ h) = pages_in h

abbrev pub blocks_in : List Name → List ℕ
blocks_in [] = []
blocks_in (x ∷ h) = blocks_in h ++ block_of x ∷ []

-- after these pages one more is wanted: the info page, or one of as many as it says the image has
abbrev pub is_wanted : List (List ℕ) → Bool
is_wanted [] = true
is_wanted (info ∷ rest) = nat_lt (length rest + 1) (number_at 8 info 424)

-- a block counts if it was read, and is a map or a page that is wanted
abbrev pub is_told : List Name → Name → Bool
is_told h (map_at b (Ok page)) = true
is_told h (map_at b (Err why)) = false
is_told h (page_at b (Ok page)) = is_wanted (pages_in h)
is_told h (page_at b (Err why)) = false

abbrev pub AreTold : List Name → Type 0
AreTold [] = Unit {0}
AreTold (x ∷ h) = AreTold h × (is_told h x ≡ true)

-- A prefix of a reading of the image whose first map is named: each name follows those before it, and counts. The pages
-- are those that the disk holds.
pub record IsFront (l : Limits) (first : ℕ) (content : Option Content) (h : List Name) : Type 0 where
  pub reading : IsReading l first h
  pub told : AreTold h
  pub pages : AreReadFrom content h

-- the next name doesn't count
abbrev pub IsEnd : Limits → ℕ → Option Content → (before now : ℕ) → List Name → Type 0
IsEnd l first content before now h = (x : Name) × (IsSeen l first content before now h x × (is_told h x ≡ false))

-- what the info page says, once it was read
abbrev pub facts_of_first : List (List ℕ) → List Fact
facts_of_first [] = []
facts_of_first (info ∷ rest) = info_facts info

-- the words of a page
unfoldable pub words_of : List ℕ → List ℕ
words_of page = map (word page) (range_with_len 0 WORDS_PER_PAGE)

-- The page frame numbers are the first words of the pages after the info page, as many as page frames were saved by the
-- info page.
unfoldable pub numbers_in : List (List ℕ) → List ℕ
numbers_in [] = []
numbers_in (info ∷ rest) = take (number_at 8 info 416) (flat_map words_of rest)

abbrev pub frames_in : Format → List Name → List ℕ
frames_in format h = map (frame_of format) (numbers_in (pages_in h))

-- all numbers are on the pages after the info page
abbrev pub HasNumbers : List (List ℕ) → Type 0
HasNumbers [] = ⊥
HasNumbers (info ∷ rest) = length (numbers_in (info ∷ rest)) ≡ number_at 8 info 416

abbrev pub block_run : ℕ × ℕ → Fact
block_run run = fact.BlockRun run.0 run.1

abbrev pub frame_run : ℕ × ℕ → Fact
frame_run run = fact.FrameRun run.0 run.1
