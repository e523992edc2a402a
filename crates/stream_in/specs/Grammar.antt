-- The grammar of an image as a stream of bytes: the info page, the pages of frame numbers, and the saved pages in the
-- order of their frames, with nothing else (what /dev/snapshot hands out, kernel/power/user.c and snapshot.c).
use Rattle.std.specs.Prelude.{ℕ, zero, suc, ◌+◌, ◌-◌, ◌*◌, ◌/◌, ◌%◌, ◌==◌, ◌&&◌, ◌||◌, Bool, nat_lt, nat_le, List}
use Rattle.std.specs.Prelude.{length, min, Option, Some, None, if◌then◌else◌}
use Rattle.definitions.specs.Bytes.{number_at}
use Rattle.definitions.specs.NumberPages.{meta_of, end_value}
use Rattle.stream_in.specs.declared.checking.fault.Kind.{Kind}
use Rattle.stream_in.specs.declared.checking.fault.Kind.TheVariants.{Counts, Pfn, Order, End, Extra, Short}
use Rattle.stream_in.specs.declared.checking.fault.StreamFault.{StreamFault}
use Rattle.definitions.specs.declared.counts.TheConstants.{WORDS_PER_PAGE}

-- what the info page says: how many pages were saved, and how many pages the stream has (struct swsusp_info)
abbrev pub image_pages : List ℕ → ℕ
image_pages bs = number_at 8 bs 416

abbrev pub all_pages : List ℕ → ℕ
all_pages bs = number_at 8 bs 424

-- word j after the info page, and the place of its first byte: the words are the frame numbers, and what follows them
abbrev pub place : ℕ → ℕ
place j = 4096 + 8 * j

abbrev pub number : List ℕ → ℕ → ℕ
number bs j = number_at 8 bs (place j)

-- how many of the words after the info page are whole
abbrev pub words : List ℕ → ℕ
words bs = (length bs - 4096) / 8

abbrev pub fault : Kind → ℕ → StreamFault
fault kind at = record { kind = kind; at = at }

-- The counts of a Plain image: one page or more is saved, at most one for each frame number, each with a data page.
abbrev pub are_counts : ℕ → ℕ → Bool
are_counts n pages = nat_lt 0 n && nat_le n 65536 && pages == n + meta_of n + 1

abbrev pub counts_fault : ℕ → ℕ → Option StreamFault
counts_fault n pages = if are_counts n pages then None else Some (fault Counts 416)

-- the least number that number j may be: it lies above the one before
abbrev pub least_number : List ℕ → ℕ → ℕ
least_number bs zero = 0
least_number bs (suc j) = number bs j + 1

-- what is wrong with a frame number, and with the word after the last one if that doesn't fill its page
abbrev pub kind_of_number : ℕ → ℕ → Option Kind
kind_of_number least v = if nat_le 65536 v then Some Pfn else if nat_lt v least then Some Order else None

abbrev pub kind_of_end : ℕ → ℕ → Option Kind
kind_of_end n v = if n % WORDS_PER_PAGE == 0 || v == end_value then None else Some End

-- what is wrong with word j of n numbers
abbrev pub kind_of_word : ℕ → ℕ → ℕ → ℕ → Option Kind
kind_of_word n j least v = if nat_lt j n then kind_of_number least v else kind_of_end n v

abbrev pub fault_at : ℕ → Option Kind → Option StreamFault
fault_at at None = None
fault_at at (Some kind) = Some (fault kind at)

abbrev pub word_fault : List ℕ → ℕ → Option StreamFault
word_fault bs j = fault_at (place j) (kind_of_word (image_pages bs) j (least_number bs j) (number bs j))

-- a byte after the last page
abbrev pub extra_fault : List ℕ → Option StreamFault
extra_fault bs = if nat_lt (4096 * all_pages bs) (length bs) then Some (fault Extra (4096 * all_pages bs)) else None

-- the first of two faults, and the first fault of the first n
abbrev pub or_else : {A : Type 0} → Option A → Option A → Option A
or_else None b = b
or_else (Some x) b = Some x

abbrev pub first_below : {A : Type 0} → (ℕ → Option A) → ℕ → Option A
first_below f zero = None
first_below f (suc n) = or_else (first_below f n) (f n)

-- The first fault of the bytes so far: the counts are tested as soon as the info page is whole, a word as soon as its
-- eight bytes have come.
unfoldable pub first_fault : List ℕ → Option StreamFault
first_fault bs =
    if nat_lt (length bs) 4096 then None
    else or_else (counts_fault (image_pages bs) (all_pages bs))
    (or_else (first_below (word_fault bs) (min (image_pages bs + 1) (words bs))) (extra_fault bs))

-- whether the bytes are a whole stream, and what is wrong with a stream that ends here
abbrev pub is_whole : List ℕ → Bool
is_whole bs = nat_le 4096 (length bs) && nat_le (4096 * all_pages bs) (length bs)

abbrev pub short_fault : List ℕ → Option StreamFault
short_fault bs = if is_whole bs then None else Some (fault Short (length bs))

-- the most bytes that a stream may have: the pages of 65,536 frames, 128 pages of their numbers, and the info page
abbrev pub most_bytes : ℕ
most_bytes = 4096 * 65665
