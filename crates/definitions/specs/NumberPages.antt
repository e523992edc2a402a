-- The pages of frame numbers that follow the info page (pack_pfns, kernel/power/snapshot.c).
use Rattle.std.specs.Prelude.{ℕ, ◌+◌, ◌*◌, ◌/◌, ◌%◌, ◌^◌, ◌-◌, List, [], ◌∷◌, ◌++◌, map, take, drop, length, flat_map}
use Rattle.std.specs.Prelude.{slice_index_or, ◌==◌, nat_lt, if◌then◌else◌}
use Rattle.std.specs.List.{list_any, range_with_len}
use Rattle.byteorder.specs.Endian.{little_bytes}
use Rattle.definitions.specs.declared.counts.TheConstants.{WORDS_PER_PAGE}
use Rattle.definitions.specs.Bytes.{zero_page, with_bytes, word}

-- the page whose first words are these; the others are 0
unfoldable pub page_of_words : List ℕ → List ℕ
page_of_words words = with_bytes zero_page 0 (flat_map (little_bytes 8) words)

-- how many pages n numbers take, 512 in each
abbrev pub meta_of : ℕ → ℕ
meta_of n = (n + 511) / WORDS_PER_PAGE

-- the word after the last number, if the number page isn't full (BM_END_OF_MAP)
abbrev pub end_value : ℕ
end_value = 2 ^ 64 - 1

-- bit 63, which marks the number of a page of zeros that has no data page (an extension of this project)
abbrev pub zero_bit : ℕ
zero_bit = 2 ^ 63

-- the numbers of these page frames; those of `zeros` carry bit 63
abbrev pub marked_numbers : List ℕ → List ℕ → List ℕ
marked_numbers frames zeros = map (λ p. if list_any (λ q. q == p) zeros then p + zero_bit else p) frames

-- number page k: its up to 512 numbers, then the end value if they don't fill it
unfoldable pub number_page : List ℕ → ℕ → List ℕ
number_page numbers k = page_of_words (take WORDS_PER_PAGE (drop (WORDS_PER_PAGE * k) (numbers ++ end_value ∷ [])))

-- all number pages
abbrev pub number_pages : List ℕ → List (List ℕ)
number_pages numbers = map (number_page numbers) (range_with_len 0 (meta_of (length numbers)))

-- the page frame number in a word, without the mark in bit 63
abbrev pub number_of_word : ℕ → ℕ
number_of_word w = w % zero_bit

-- word j of these pages, 512 in each
abbrev pub word_at : List (List ℕ) → ℕ → ℕ
word_at pages j = word (slice_index_or pages (j / WORDS_PER_PAGE) []) (j % WORDS_PER_PAGE)
