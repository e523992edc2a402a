use Rattle.std.proofs.Common.{◌≡◌, ℕ, ◌+◌, ◌*◌, ◌≤◌, Ok}
use Rattle.definitions.specs.Disk.{DiskImage}
use Rattle.boot_resume.specs.Listed.{Lists}
use Rattle.boot_resume.specs.OnDisk.{data_before, format_by, mark_in, number_before, stream_page}
use Rattle.boot_resume.proofs.numbers.list_numbers.Given as goal

abbrev pub invariant-loop-i : goal.invariant-loop-i
invariant-loop-i l =
    (l.tally.with_data ≤ l.fn.before.with_data + l.i)
    × ((v : DiskImage) (q : ℕ) → l.format ≡ format_by (mark_in l.machine v).flags →
    l.page ≡ stream_page l.machine v (1 + q) → l.fn.before.last ≡ number_before l.machine v (512 * q) →
    l.fn.before.with_data ≡ data_before l.machine v (512 * q) → Lists l.machine v q l.i (Ok l.tally))
