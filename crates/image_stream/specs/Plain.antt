-- The stream of an image in the plain format, which `export` writes and `import` reads, by the pages of the image's own
-- stream. The stream of a plain image stays as it is. If pages of zeros are skipped, the info page counts a data page
-- for each saved page frame, the numbers lose their marks, and each page frame has its page.
use Rattle.std.specs.Prelude.{ℕ, ◌+◌, ◌*◌, ◌-◌, ◌%◌, ◌^◌, List, ◌∷◌, ◌++◌, length, map, nat_lt, if◌then◌else◌}
use Rattle.std.specs.List.{range_with_len}
use Rattle.page_core.specs.declared.format.Format.{Format}
use Rattle.page_core.specs.declared.format.Format.TheVariants.{Plain, SkipZeros}
use Rattle.definitions.specs.Bytes.{with_word, word}
use Rattle.definitions.specs.NumberPages.{meta_of, number_of_word, page_of_words}
use Rattle.image_check.specs.Info.{counts_in}
use Rattle.image_pages.specs.Found.{page_at}
use Rattle.image_pages.specs.Saved.{count_in, page_in}
use Rattle.definitions.specs.declared.counts.TheConstants.{WORDS_PER_PAGE}

-- how many pages the stream of n page frames has
abbrev pub plain_pages : ℕ → ℕ
plain_pages n = n + meta_of n + 1

-- the fields `pages` and `size` at bytes 424 and 432 (struct swsusp_info, kernel/power/power.h), of 64 bits each
abbrev pub plain_info : List ℕ → List ℕ
plain_info info =
    with_word (with_word info 53 (plain_pages (counts_in info).image_pages % 2 ^ 64)) 54
    (4096 * plain_pages (counts_in info).image_pages % 2 ^ 64)

-- word j of a number page whose first `count` words are numbers
abbrev pub plain_word : ℕ → List ℕ → ℕ → ℕ
plain_word count page j = if nat_lt j count then number_of_word (word page j) else word page j

unfoldable pub plain_numbers : ℕ → List ℕ → List ℕ
plain_numbers count page = page_of_words (map (plain_word count page) (range_with_len 0 WORDS_PER_PAGE))

-- the first k number pages of n numbers
abbrev pub plain_lists : ℕ → (ℕ → List ℕ) → ℕ → List (List ℕ)
plain_lists n at k = map (λ j. plain_numbers (n - WORDS_PER_PAGE * j) (at (1 + j))) (range_with_len 0 k)

abbrev pub plain_stream : Format → (ℕ → List ℕ) → List (List ℕ)
plain_stream Plain at = map at (range_with_len 0 (counts_in (at 0)).pages)
plain_stream SkipZeros at =
    plain_info (at 0)
    ∷ (plain_lists (count_in at) at (meta_of (count_in at))
    ++ map (page_in SkipZeros at) (range_with_len 0 (count_in at)))
