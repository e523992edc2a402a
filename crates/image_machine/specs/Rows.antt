-- Rows of page frames in which a machine's tables can lie without taking a page frame that an image saved.
use Rattle.std.specs.Prelude.{ℕ, ◌+◌, ◌&&◌, ◌||◌, Bool, not, nat_le, List, Option}
use Rattle.std.specs.List.{find, list_all, range_with_len}
use Rattle.definitions.specs.Zones.{numbers, top}
use Rattle.plain_machine.specs.Loader.{has}

-- page frame p is valid, and wasn't saved
abbrev pub is_unsaved : List (ℕ × ℕ) → List ℕ → ℕ → Bool
is_unsaved zones saved p = has (numbers zones) p && not (has saved p)

-- each page frame of a row is valid, and wasn't saved
abbrev pub is_clear : List (ℕ × ℕ) → List ℕ → ℕ → ℕ → Bool
is_clear zones saved len first = list_all (is_unsaved zones saved) (range_with_len first len)

-- two rows (first page frame, count), one of which lies below the other
abbrev pub lie_apart : ℕ × ℕ → ℕ × ℕ → Bool
lie_apart a b = nat_le (a.0 + a.1) b.0 || nat_le (b.0 + b.1) a.0

-- the first page frame of the lowest such row of this length that lies apart from the row `other`
abbrev pub lowest_row : List (ℕ × ℕ) → List ℕ → ℕ → ℕ × ℕ → Option ℕ
lowest_row zones saved len other =
    find (λ first. lie_apart (first, len) other && is_clear zones saved len first) (range_with_len 0 (top zones))
