-- What is wrong with a page of page frame numbers (pack_pfns, unpack_orig_pfns, kernel/power/snapshot.c).
use Rattle.std.specs.Prelude.{ℕ, ◌+◌, ◌*◌, ◌-◌, ◌==◌, ◌&&◌, List, length, filter, nat_le, nat_lt, if◌then◌else◌, Option}
use Rattle.std.specs.Prelude.{Some, None}
use Rattle.std.specs.List.{range_with_len}
use Rattle.page_core.specs.declared.format.Format.{Format}
use Rattle.page_core.specs.declared.format.Format.TheVariants.{Plain, SkipZeros}
use Rattle.definitions.specs.Bytes.{word}
use Rattle.definitions.specs.NumberPages.{end_value, number_of_word, zero_bit}
use Rattle.image_check.specs.declared.finding.Finding.{Finding}
use Rattle.image_check.specs.declared.finding.Finding.TheVariants as finding
use Rattle.image_check.specs.Told.{each_below}
use Rattle.definitions.specs.declared.counts.TheConstants.{WORDS_PER_PAGE}

-- how many words of a number page are numbers with a data page (bit 63 isn't set), in an image with n numbers
abbrev pub data_words : (n page : ℕ) → List ℕ → ℕ
data_words n page bytes =
    length (filter (λ i. nat_lt (WORDS_PER_PAGE * (page - 1) + i) n
    && nat_lt (word bytes i) zero_bit) (range_with_len 0 WORDS_PER_PAGE))

-- the page frame number of a word, in which bit 63 marks a page of zeros that has no data page
abbrev pub frame_of : Format → ℕ → ℕ
frame_of Plain w = w
frame_of SkipZeros w = number_of_word w

-- a number is above the one before it, which is known unless its page wasn't read
abbrev pub order_fault : Format → (page i w : ℕ) → Option ℕ → Option Finding
order_fault format page i w None = None
order_fault format page i w (Some before) =
    if nat_le (frame_of format w) (frame_of format before)
    then Some (finding.Order page i (frame_of format w) (frame_of format before)) else None

-- a page frame's address has at most 64 bits
abbrev pub number_fault : Format → (page i w : ℕ) → Option ℕ → Option Finding
number_fault format page i w before =
    if nat_le 4503599627370496 (frame_of format w) then Some (finding.Number page i (frame_of format w))
    else order_fault format page i w before

abbrev pub end_fault : (page i w : ℕ) → Option Finding
end_fault page i w = if w == end_value then None else Some (finding.End page i w)

-- Word i of a number page of an image with n numbers: the first n words are the numbers, and the end value follows.
abbrev pub word_fault : Format → (n page i w : ℕ) → Option ℕ → Option Finding
word_fault format n page i w before =
    if nat_lt (WORDS_PER_PAGE * (page - 1) + i) n then number_fault format page i w before
    else if WORDS_PER_PAGE * (page - 1) + i == n then end_fault page i w
    else None

-- the word before word i of a page
abbrev pub word_before : Option ℕ → List ℕ → ℕ → Option ℕ
word_before previous bytes i = if i == 0 then previous else Some (word bytes (i - 1))

-- all that is wrong with a number page, where `previous` is the last word of the one before
abbrev pub number_findings : Format → (n page : ℕ) → Option ℕ → List ℕ → List Finding
number_findings format n page previous bytes =
    each_below (λ i. word_fault format n page i (word bytes i) (word_before previous bytes i)) WORDS_PER_PAGE
