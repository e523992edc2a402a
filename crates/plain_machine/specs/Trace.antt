-- [trace]: the replies of a resume without device faults, over any disk. The trace reads the whole disk place by place.
-- In Linux: swsusp_check and swsusp_read, kernel/power/swap.c; load_header, check_header, unpack_orig_pfns and
-- snapshot_write_next, kernel/power/snapshot.c.
use Rattle.std.specs.Prelude.{ℕ, ◌+◌, ◌*◌, ◌/◌, ◌%◌, ◌-◌, ◌==◌, ◌&&◌, ◌||◌, List, [], ◌∷◌, Bool, false, not, nat_lt}
use Rattle.std.specs.Prelude.{nat_le, length, map, filter, min, max, Option, Some, None, if◌then◌else◌, bit_and}
use Rattle.std.specs.Prelude.{unwrap_or, is_none, nat_eq, zero, suc}
use Rattle.std.specs.List.{range_with_len}
use Rattle.std.specs.Cmp.Lexicographic.{pointwise}
use Rattle.page_core.specs.declared.format.Format.{Format}
use Rattle.page_core.specs.declared.format.Format.TheVariants.{Plain, SkipZeros}
use Rattle.definitions.specs.Bytes.{zero_page, word}
use Rattle.definitions.specs.Disk as disk
use Rattle.definitions.specs.SwapHeader.{image_of, flags_of, hw_sig_of, sig_of, image_signature}
use Rattle.definitions.specs.InfoPage.{info_of, mismatch}
use Rattle.definitions.specs.NumberPages.{meta_of, number_of_word, zero_bit, end_value}
use Rattle.definitions.specs.declared.info.Field.{Field}
use Rattle.definitions.specs.declared.info.Info.{Info}
use Rattle.plain_machine.specs.Machine.{Hardware, Memory, block_of_slot, is_valid, valid_count, tables_fault}
use Rattle.plain_machine.specs.Machine.{slot_entry}
use Rattle.plain_machine.specs.Image.{Image, SlotPages, maps_read}
use Rattle.plain_machine.specs.Chain.{header_of, map_fault, entry_fault, entry_block, or_else, first_some}
use Rattle.plain_machine.specs.Loader.{left_free, need, restored}
use Rattle.plain_machine.specs.UsableArea.{dump_area_fault}
use Rattle.plain_machine.specs.declared.event.Loader.{Loader}
use Rattle.plain_machine.specs.declared.event.Loader.TheVariants as loaders
use Rattle.plain_machine.specs.declared.event.IdentCheck.{IdentCheck}
use Rattle.plain_machine.specs.declared.event.IdentCheck.TheVariants.{Compare, Skip}
use Rattle.plain_machine.specs.declared.reply.Reply.{Reply}
use Rattle.plain_machine.specs.declared.reply.Reply.TheVariants as reply
use Rattle.definitions.specs.declared.counts.TheConstants.{BLOCKS_PER_MAP, WORDS_PER_PAGE}

-- whether a bit of the flags is set
abbrev pub is_set : ℕ → ℕ → Bool
is_set flags bit = not (bit_and flags bit == 0)

-- What the disk v says of its image, untested.

abbrev pub first_map : Hardware → disk.DiskImage → ℕ
first_map h v = image_of (header_of h v)

-- page k of the stream, from 0
abbrev pub stream_page : Hardware → disk.DiskImage → ℕ → List ℕ
stream_page h v k = disk.block v (entry_block v (first_map h v) k)

abbrev pub info_in : Hardware → disk.DiskImage → Info
info_in h v = info_of (stream_page h v 0)

abbrev pub format_in : Hardware → disk.DiskImage → Format
format_in h v = if is_set (flags_of (header_of h v)) 256 then SkipZeros else Plain

abbrev pub meta_in : Hardware → disk.DiskImage → ℕ
meta_in h v = meta_of (info_in h v).image_pages

-- word j of the number pages
abbrev pub number_word : Hardware → disk.DiskImage → ℕ → ℕ
number_word h v j = word (stream_page h v (1 + j / WORDS_PER_PAGE)) (j % WORDS_PER_PAGE)

-- the page frame number of word j, and whether the page has no data page, by the format
abbrev pub number_by : Format → ℕ → ℕ
number_by Plain w = w
number_by SkipZeros w = number_of_word w

abbrev pub is_marked_by : Format → ℕ → Bool
is_marked_by Plain w = false
is_marked_by SkipZeros w = nat_le zero_bit w

abbrev pub number_in : Hardware → disk.DiskImage → ℕ → ℕ
number_in h v j = number_by (format_in h v) (number_word h v j)

abbrev pub words_in : Hardware → disk.DiskImage → List ℕ
words_in h v = map (number_word h v) (range_with_len 0 (info_in h v).image_pages)

-- how many pages have data
abbrev pub d_in : Hardware → disk.DiskImage → ℕ
d_in h v = length (filter (λ w. not (is_marked_by (format_in h v) w)) (words_in h v))

-- the page frames that have data pages, in the order of the stream
unfoldable pub data_frames : Hardware → disk.DiskImage → List ℕ
data_frames h v =
    map (number_in h v) (filter (λ j. not (is_marked_by (format_in h v) (number_word h v j)))
    (range_with_len 0 (info_in h v).image_pages))

-- data page m of the stream, from 0
abbrev pub data_page : Hardware → disk.DiskImage → ℕ → List ℕ
data_page h v m = stream_page h v (1 + meta_in h v + m)

-- the first m data pages
abbrev pub data_pages : Hardware → disk.DiskImage → ℕ → List (List ℕ)
data_pages h v m = map (data_page h v) (range_with_len 0 m)

-- the saved pages: page frame numbers with their pages, those with data taken from the stream in order
abbrev pub saved_from : Hardware → disk.DiskImage → ℕ → List ℕ → List (ℕ × List ℕ)
saved_from h v k [] = []
saved_from h v k (w ∷ words) =
    if is_marked_by (format_in h v) w then (number_by (format_in h v) w, zero_page) ∷ saved_from h v k words
    else (number_by (format_in h v) w, stream_page h v k) ∷ saved_from h v (k + 1) words

-- the image that the disk decodes to; its tasks' slots are those of the restored memory (`slots_in`)
abbrev pub image_in : Hardware → disk.DiskImage → SlotPages → Image
image_in h v slots = record {
  frames = saved_from h v (1 + meta_in h v) (words_in h v);
  slots = slots;
  ident = (info_in h v).ident;
  physpages = (info_in h v).physpages;
  format = format_in h v;
}

-- The causes.

abbrev pub identity_cause : Hardware → disk.DiskImage → IdentCheck → Option Reply
identity_cause h v Compare = mismatch_reply (mismatch (info_in h v).ident h.ident) where
  mismatch_reply : Option Field → Option Reply
  mismatch_reply None = None
  mismatch_reply (Some field) = Some (reply.Mismatch field)
identity_cause h v Skip = None

abbrev pub memory_cause : Hardware → disk.DiskImage → Option Reply
memory_cause h v =
    if (info_in h v).physpages == valid_count h then None
    else Some (reply.MemorySize (info_in h v).physpages (valid_count h))

abbrev pub are_bad_counts : Format → ℕ → ℕ → ℕ → Bool
are_bad_counts Plain valid n pages = (n == 0) || nat_lt valid n || not (pages == n + meta_of n + 1)
are_bad_counts SkipZeros valid n pages =
    (n == 0) || nat_lt valid n || nat_lt pages (meta_of n + 1) || nat_lt (n + meta_of n + 1) pages

abbrev pub counts_cause : Hardware → disk.DiskImage → Option Reply
counts_cause h v =
    if are_bad_counts (format_in h v) (valid_count h) (info_in h v).image_pages (info_in h v).pages
    then Some (reply.BadCounts (info_in h v).image_pages (info_in h v).pages) else None

abbrev pub info_cause : Hardware → disk.DiskImage → IdentCheck → Option Reply
info_cause h v check = or_else (identity_cause h v check) (or_else (memory_cause h v) (counts_cause h v))

-- number j isn't a valid page frame, or isn't above the one before
abbrev pub number_cause : Hardware → disk.DiskImage → ℕ → Option Reply
number_cause h v j =
    if not (is_valid h (number_in h v j)) then Some (reply.BadPfn (number_in h v j))
    else (if nat_lt 0 j && nat_le (number_in h v j) (number_in h v (j - 1))
    then Some (reply.PfnOrder (number_in h v (j - 1)) (number_in h v j))
    else None)

-- if the last number page isn't full, the word after the last number isn't the end value
abbrev pub end_cause : Hardware → disk.DiskImage → ℕ → Option Reply
end_cause h v n =
    if (n % WORDS_PER_PAGE == 0) || (number_word h v n == end_value) then None
    else Some (reply.PfnEnd (number_word h v n))

-- After the last number page: the info page's count of pages doesn't agree with the number of data pages. (In a Plain
-- image the test of the info page rules this out.)
abbrev pub listed_cause : Hardware → disk.DiskImage → Option Reply
listed_cause h v =
    if (info_in h v).pages == d_in h v + meta_in h v + 1 then None
    else Some (reply.BadCounts (info_in h v).image_pages (info_in h v).pages)

-- or the loader has no room for them
abbrev pub room_cause : Hardware → Memory → disk.DiskImage → Loader → Option Reply
room_cause h dump v loader =
    if nat_lt (length (left_free h dump loader)) (need (d_in h v))
    then Some (reply.TooFewLoaderFrames (length (left_free h dump loader)) (need (d_in h v)))
    else None

-- what is wrong with number page q, from 0
abbrev pub numbers_cause : Hardware → disk.DiskImage → ℕ → Option Reply
numbers_cause h v q =
    let n = (info_in h v).image_pages in
    let own = first_some (map (number_cause h v)
    (range_with_len (WORDS_PER_PAGE * q) (min WORDS_PER_PAGE (n - WORDS_PER_PAGE * q)))) in
    if q + 1 == meta_of n then or_else own (or_else (end_cause h v n) (listed_cause h v)) else own

-- What is read, in order: before every 511 pages of the stream their map, and the pages.
pub data Place : Type 0 where
  map_at : ℕ → Place
  page_at : ℕ → Place

-- place number t, from 0: every 512th one, beginning with the first, is a map
abbrev pub place : ℕ → Place
place t = if t % BLOCKS_PER_MAP == 0 then map_at (t / BLOCKS_PER_MAP) else page_at (t - t / BLOCKS_PER_MAP - 1)

-- the number of places of a stream of `pages` pages; the info page is read before its counts are known
abbrev pub place_count : ℕ → ℕ
place_count pages = maps_read (max pages 1) + max pages 1

abbrev pub places : ℕ → List Place
places pages = map place (range_with_len 0 (place_count pages))

-- what is wrong with the block of a place when it is to be read
abbrev pub place_cause : Hardware → disk.DiskImage → Place → Option Reply
place_cause h v (map_at j) = map_fault h v (first_map h v) j
place_cause h v (page_at k) = entry_fault h v (first_map h v) k

-- what is wrong with what was read at a place, except for the loader's room
abbrev pub read_cause : Hardware → disk.DiskImage → IdentCheck → Place → Option Reply
read_cause h v check (map_at j) = None
read_cause h v check (page_at zero) = info_cause h v check
read_cause h v check (page_at (suc q)) = if nat_lt q (meta_in h v) then numbers_cause h v q else None

-- what is wrong with the loader's room, which is tested at the last number page
abbrev pub want_cause : Hardware → Memory → disk.DiskImage → Loader → Place → Option Reply
want_cause h dump v loader (map_at j) = None
want_cause h dump v loader (page_at k) = if k == meta_in h v then room_cause h dump v loader else None

-- what is wrong with the block of the place after t, which is tested at the end of the step that reads place t
abbrev pub next_cause : Hardware → disk.DiskImage → ℕ → Option Reply
next_cause h v t = if nat_lt (t + 1) (place_count (info_in h v).pages) then place_cause h v (place (t + 1)) else None

-- The fault at the end of the step that reads place t: that of the page just read; else the loader's lack of room,
-- which a mere reader of blocks doesn't know; else that of the block to be read next.
abbrev pub cause_with : Hardware → disk.DiskImage → IdentCheck → Option Reply → ℕ → Option Reply
cause_with h v check room t = or_else (read_cause h v check (place t)) (or_else room (next_cause h v t))

abbrev pub cause_at : Hardware → Memory → disk.DiskImage → Loader → IdentCheck → ℕ → Option Reply
cause_at h dump v loader check t = cause_with h v check (want_cause h dump v loader (place t)) t

-- The slots of the tasks in the restored memory, with their pages as the disk reads.
abbrev pub slots_in : Hardware → disk.DiskImage → Memory → SlotPages
slots_in h v m =
    λ s. if nat_lt s h.slots && nat_lt 0 (slot_entry h m s) && nat_le (slot_entry h m s) 64
    then Some (disk.block v (block_of_slot h s)) else None

-- At the last step: the restored tables don't fit, or don't fit the area. This isn't tested after a dump's loader.
abbrev pub tables_cause : Hardware → disk.DiskImage → Memory → Option Reply
tables_cause h v m =
    frame_reply (or_else (tables_fault h m) (if is_none (dump_area_fault h v m) then None else Some h.slot_table)) where
      frame_reply : Option ℕ → Option Reply
      frame_reply None = None
      frame_reply (Some f) = Some (reply.BadTables f)

abbrev pub restored_in : Hardware → Memory → disk.DiskImage → Loader → Memory
restored_in h dump v loader = restored h dump loader (image_in h v (λ s. None))

abbrev pub last_reply : Hardware → Memory → disk.DiskImage → Loader → Reply
last_reply h dump v (loaders.Ranges ranges) =
    unwrap_or (tables_cause h v (restored_in h dump v (loaders.Ranges ranges)))
    (reply.Resumed (info_in h v).image_pages)
last_reply h dump v loaders.Table = reply.Resumed (info_in h v).image_pages

-- what is wrong at the end of step 4, once the mark is taken back
abbrev pub taken_back_cause : Hardware → disk.DiskImage → Option Reply
taken_back_cause h v =
    if is_set (flags_of (header_of h v)) 8 && not (hw_sig_of (header_of h v) == h.hw_sig)
    then Some (reply.HwMismatch (hw_sig_of (header_of h v)) h.hw_sig)
    else map_fault h v (first_map h v) 0

-- what is wrong at the end of step 2
abbrev pub header_cause : Hardware → disk.DiskImage → Option Reply
header_cause h v =
    if not (pointwise nat_eq (sig_of (header_of h v)) image_signature) then Some reply.NoImage
    else (if not (is_set (flags_of (header_of h v)) 2) then Some (reply.Compressed (flags_of (header_of h v)))
    else None)

-- what is wrong at the end of step k + 1: the first syncs, the third writes the block taken back, and the fifth and
-- later ones read a place each
abbrev pub step_cause : Hardware → Memory → disk.DiskImage → Loader → IdentCheck → ℕ → Option Reply
step_cause h dump v loader check zero = None
step_cause h dump v loader check (suc zero) = header_cause h v
step_cause h dump v loader check (suc (suc zero)) = None
step_cause h dump v loader check (suc (suc (suc zero))) = taken_back_cause h v
step_cause h dump v loader check (suc (suc (suc (suc t)))) = cause_at h dump v loader check t

-- the number of steps if nothing is wrong
abbrev pub step_count : Hardware → disk.DiskImage → ℕ
step_count h v = 4 + place_count (info_in h v).pages

-- what is wrong at the end of each step, in order
abbrev pub causes : Hardware → Memory → disk.DiskImage → Loader → IdentCheck → List (Option Reply)
causes h dump v loader check = map (step_cause h dump v loader check) (range_with_len 0 (step_count h v))

-- the replies of step k and of those after it, by their causes: Loading up to the first cause, or else up to the last
-- reply
abbrev pub replies_to : Reply → ℕ → List (Option Reply) → List Reply
replies_to last k [] = []
replies_to last k (Some cause ∷ rest) = cause ∷ []
replies_to last k (None ∷ []) = last ∷ []
replies_to last k (None ∷ next ∷ rest) = reply.Loading k ∷ replies_to last (k + 1) (next ∷ rest)

-- Loading{1}, Loading{2} and so on, up to Resumed{n} or the first cause
unfoldable pub trace : Hardware → Memory → disk.DiskImage → Loader → IdentCheck → List Reply
trace h dump v loader check = replies_to (last_reply h dump v loader) 1 (causes h dump v loader check)
