-- What the listing of a number page returns.
use Rattle.std.specs.Prelude.{◌≡◌, ℕ, ◌+◌, ◌*◌, map, Option, Some, None, Result, Ok, Err}
use Rattle.std.specs.List.{range_with_len}
use Rattle.definitions.specs.Disk.{DiskImage}
use Rattle.plain_machine.specs.Chain.{first_some}
use Rattle.boot_resume.specs.OnDisk.{data_before, number_before, number_cause}
use Rattle.boot_resume.specs.declared.cause.Cause.{Cause}
use Rattle.boot_resume.specs.declared.machine.Machine.{Machine}
use Rattle.boot_resume.specs.declared.numbers.Tally.{Tally}
use Rattle.definitions.specs.declared.counts.TheConstants.{WORDS_PER_PAGE}

-- the first cause among the given number of numbers from number j on
abbrev pub first_cause : Machine → DiskImage → ℕ → ℕ → Option Cause
first_cause m v j count = first_some (map (number_cause m v) (range_with_len j count))

-- either nothing is wrong with the first numbers of page q and this is the tally with them, or this is their first
-- cause
abbrev pub Lists : Machine → DiskImage → ℕ → ℕ → Result Tally Cause → Type 0
Lists m v q count (Ok tally) =
    (first_cause m v (WORDS_PER_PAGE * q) count ≡ None)
    × ((tally.last ≡ number_before m v (WORDS_PER_PAGE * q + count))
    × (tally.with_data ≡ data_before m v (WORDS_PER_PAGE * q + count)))
Lists m v q count (Err cause) = first_cause m v (WORDS_PER_PAGE * q) count ≡ Some cause
