-- The numbers of a number page, and what is wrong with them (unpack_orig_pfns, kernel/power/snapshot.c).
use Rattle.std.specs.Prelude.{ℕ, ◌+◌, ◌-◌, ◌==◌, ◌&&◌, zero, suc, Bool, false, not, nat_lt, nat_le, List, map, filter}
use Rattle.std.specs.Prelude.{min, Option, Some, None, if◌then◌else◌}
use Rattle.std.specs.List.{list_any, range_with_len}
use Rattle.page_core.specs.declared.format.Format.{Format}
use Rattle.page_core.specs.declared.format.Format.TheVariants.{Plain, SkipZeros}
use Rattle.definitions.specs.Bytes.{word}
use Rattle.definitions.specs.Zones.{numbers}
use Rattle.definitions.specs.NumberPages.{number_of_word, zero_bit, end_value}
use Rattle.frame_sets.specs.Unpacked.{Unpacked}
use Rattle.frame_sets.specs.declared.packing.unpack.PfnFault.{PfnFault}
use Rattle.frame_sets.specs.declared.packing.unpack.PfnFault.TheVariants.{BadPfn, PfnOrder, PfnEnd}
use Rattle.definitions.specs.declared.counts.TheConstants.{WORDS_PER_PAGE}

-- the number of a word, and whether its page has no data page
abbrev pub number_by : Format → ℕ → ℕ
number_by Plain w = w
number_by SkipZeros w = number_of_word w

abbrev pub is_marked_by : Format → ℕ → Bool
is_marked_by Plain w = false
is_marked_by SkipZeros w = nat_le zero_bit w

-- the first of two faults, and the first fault of the first n
abbrev pub or_else : {A : Type 0} → Option A → Option A → Option A
or_else None b = b
or_else (Some x) b = Some x

abbrev pub first_below : {A : Type 0} → (ℕ → Option A) → ℕ → Option A
first_below f zero = None
first_below f (suc n) = or_else (first_below f n) (f n)

-- the number isn't a valid page frame, or isn't above the number before
abbrev pub order_fault : Option ℕ → ℕ → Option PfnFault
order_fault None p = None
order_fault (Some before) p = if nat_le p before then Some (PfnOrder before p) else None

abbrev pub number_fault : List (ℕ × ℕ) → Option ℕ → ℕ → Option PfnFault
number_fault zones before p =
    if list_any (λ q. q == p) (numbers zones) then order_fault before p else Some (BadPfn p)

-- How many numbers the next page has, its number j, from 0, and the number before that.
abbrev pub wanted : Unpacked → ℕ
wanted u = min (u.n - u.read) WORDS_PER_PAGE

abbrev pub number_in : Unpacked → List ℕ → ℕ → ℕ
number_in u page j = number_by u.format (word page j)

abbrev pub before_in : Unpacked → List ℕ → ℕ → Option ℕ
before_in u page zero = u.last
before_in u page (suc j) = Some (number_in u page j)

-- the fault of the word after the last number, if that number doesn't fill its page
abbrev pub end_fault : Unpacked → List ℕ → Option PfnFault
end_fault u page =
    if nat_lt (u.n - u.read) WORDS_PER_PAGE && not (word page (u.n - u.read) == end_value)
    then Some (PfnEnd (word page (u.n - u.read))) else None

-- the fault of number j of the next page, and the first fault of the page
abbrev pub fault_in : List (ℕ × ℕ) → Unpacked → List ℕ → ℕ → Option PfnFault
fault_in zones u page j = number_fault zones (before_in u page j) (number_in u page j)

unfoldable pub page_fault : List (ℕ × ℕ) → Unpacked → List ℕ → Option PfnFault
page_fault zones u page = or_else (first_below (fault_in zones u page) (wanted u)) (end_fault u page)

-- the first j numbers of the page, and those of them whose pages have no data page
unfoldable pub numbers_in : Unpacked → List ℕ → ℕ → List ℕ
numbers_in u page j = map (number_in u page) (range_with_len 0 j)

unfoldable pub marked_in : Unpacked → List ℕ → ℕ → List ℕ
marked_in u page j = map (number_in u page) (filter (λ i. is_marked_by u.format (word page i)) (range_with_len 0 j))

-- the state after the page is read
abbrev pub after_page : Unpacked → List ℕ → Unpacked
after_page u page = record u { read = u.read + wanted u; last = before_in u page (wanted u) }
