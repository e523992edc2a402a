-- [calls]: the calls of a resume over a disk that reads as v, in order, up to its end or the first cause. In Linux:
-- swsusp_check, swsusp_unmark and swsusp_read, kernel/power/swap.c.
use Rattle.std.specs.Prelude.{ℕ, zero, suc, ◌+◌, ◌/◌, ◌%◌, ◌-◌, ◌==◌, List, [], ◌∷◌, Option, Some, None}
use Rattle.std.specs.Prelude.{if◌then◌else◌}
use Rattle.definitions.specs.Disk as disk
use Rattle.definitions.specs.SwapHeader.{taken_back}
use Rattle.boot_resume.specs.OnDisk.{header_in, mark_in, map_at, page_at, saved_in, meta_in, number_in, has_no_data}
use Rattle.boot_resume.specs.OnDisk.{data_place, saved_page, header_cause, hardware_cause, map_cause, page_cause}
use Rattle.boot_resume.specs.OnDisk.{content_cause, number_cause}
use Rattle.boot_resume.specs.declared.machine.Machine.{Machine}
use Rattle.boot_resume.specs.declared.cause.Cause.{Cause}
use Rattle.boot_resume.specs.declared.cause.Cause.TheVariants.{NoImage}
use Rattle.boot_resume.specs.declared.call.Call.{Call}
use Rattle.boot_resume.specs.declared.call.Call.TheVariants.{Sync, Read, Write, Page, Done, Refused}
use Rattle.definitions.specs.declared.counts.TheConstants.{MAP_PAGE_ENTRIES, WORDS_PER_PAGE}

-- a call, and the page that the buffer must hold when it is made, if that matters
pub record Turn : Type 0 where
  pub call : Call
  pub page : Option (List ℕ)

abbrev pub asks : Call → Turn
asks call = record { call = call; page = None }

abbrev pub asks_with : Call → List ℕ → Turn
asks_with call page = record { call = call; page = Some page }

-- only the refusal if there is a cause, else these calls
abbrev pub unless : Option Cause → List Turn → List Turn
unless None rest = rest
unless (Some why) rest = asks (Refused why) ∷ []

-- the read of a map or of a page of the stream, and then these calls
abbrev pub map_then : Machine → disk.DiskImage → ℕ → List Turn → List Turn
map_then m v j rest = unless (map_cause m v j) (asks (Read (map_at m v j)) ∷ rest)

abbrev pub entry_then : Machine → disk.DiskImage → ℕ → List Turn → List Turn
entry_then m v k rest = unless (page_cause m v k) (asks (Read (page_at m v k)) ∷ rest)

-- page k of the stream; the first of each 511 pages is preceded by their map
abbrev pub page_then : Machine → disk.DiskImage → ℕ → List Turn → List Turn
page_then m v k rest =
    if k % MAP_PAGE_ENTRIES == 0 then map_then m v (k / MAP_PAGE_ENTRIES) (entry_then m v k rest)
    else entry_then m v k rest

-- Before the first of each 512 numbers, their page is read again through its map: a state of fixed size can't keep them
-- all.
abbrev pub again_then : Machine → disk.DiskImage → ℕ → List Turn → List Turn
again_then m v i rest =
    if i % WORDS_PER_PAGE == 0
    then map_then m v ((1 + i / WORDS_PER_PAGE) / MAP_PAGE_ENTRIES) (entry_then m v (1 + i / WORDS_PER_PAGE) rest)
    else rest

-- the data page of number i, if it has one
abbrev pub data_then : Machine → disk.DiskImage → ℕ → List Turn → List Turn
data_then m v i rest = if has_no_data m v i then rest else page_then m v (data_place m v i) rest

-- the page of number i is handed out
abbrev pub places : Machine → disk.DiskImage → ℕ → Turn
places m v i = asks_with (Page (number_in m v i)) (saved_page m v i)

-- the pages of the given number of numbers from number i on
unfoldable pub handing : Machine → disk.DiskImage → ℕ → ℕ → List Turn
handing m v i zero = asks (Done (saved_in m v)) ∷ []
handing m v i (suc more) =
    again_then m v i (unless (number_cause m v i) (data_then m v i (places m v i ∷ handing m v (i + 1) more)))

abbrev pub handed_from : Machine → disk.DiskImage → ℕ → List Turn
handed_from m v i = handing m v i (saved_in m v - i)

-- the given number of pages of the stream from page k on, up to the last number page, and then the pages of all numbers
unfoldable pub listing : Machine → disk.DiskImage → ℕ → ℕ → List Turn
listing m v k zero = handed_from m v 0
listing m v k (suc more) = page_then m v k (unless (content_cause m v k) (listing m v (k + 1) more))

abbrev pub listed_from : Machine → disk.DiskImage → ℕ → List Turn
listed_from m v k = listing m v k (meta_in m v + 1 - k)

-- the calls after the write of the block taken back
abbrev pub settled_then : Machine → disk.DiskImage → List Turn
settled_then m v = asks Sync ∷ unless (hardware_cause m (mark_in m v)) (listed_from m v 0)

abbrev pub marked_then : Machine → disk.DiskImage → List Turn
marked_then m v =
    unless (header_cause (header_in m v)) (asks_with (Write m.header) (taken_back (header_in m v)) ∷ settled_then m v)

abbrev pub calls : Machine → disk.DiskImage → List Turn
calls m v = asks Sync ∷ asks (Read m.header) ∷ marked_then m v

-- over an area without an image
abbrev pub unmarked_calls : Machine → List Turn
unmarked_calls m = asks Sync ∷ asks (Read m.header) ∷ asks (Refused NoImage) ∷ []
