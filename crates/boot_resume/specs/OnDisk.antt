-- What a disk says of its image, place by place, and what is wrong with that. In Linux: swsusp_check and swsusp_read,
-- kernel/power/swap.c; load_header, check_header and unpack_orig_pfns, kernel/power/snapshot.c.
use Rattle.std.specs.Prelude.{ℕ, zero, suc, ◌+◌, ◌*◌, ◌/◌, ◌%◌, ◌-◌, ◌==◌, ◌&&◌, ◌||◌, List, Bool, not}
use Rattle.std.specs.Prelude.{nat_le, nat_eq, min, map, Option, Some, None, if◌then◌else◌}
use Rattle.std.specs.List.{range_with_len}
use Rattle.std.specs.Cmp.Lexicographic.{pointwise}
use Rattle.page_core.specs.declared.format.Format.{Format}
use Rattle.page_core.specs.declared.format.Format.TheVariants.{Plain, SkipZeros}
use Rattle.image_format.specs.declared.signature.area.Mark.{Mark}
use Rattle.image_format.specs.AreaKind.{mark_of}
use Rattle.definitions.specs.Bytes.{bytes_at, word, zero_page}
use Rattle.definitions.specs.Disk as disk
use Rattle.definitions.specs.SwapHeader.{image_signature, sig_of}
use Rattle.definitions.specs.InfoPage.{info_of, mismatch}
use Rattle.definitions.specs.NumberPages.{meta_of, end_value}
use Rattle.definitions.specs.declared.info.Field.{Field}
use Rattle.definitions.specs.declared.info.Info.{Info}
use Rattle.plain_machine.specs.Chain.{map_block, entry_block, or_else, first_some}
use Rattle.plain_machine.specs.Trace.{is_set, number_by, is_marked_by, are_bad_counts}
use Rattle.boot_resume.specs.Facts.{Compared, any_kernel, same_kernel, same_bytes}
use Rattle.boot_resume.specs.Memory.{block_fault, is_memory}
use Rattle.boot_resume.specs.declared.machine.Machine.{Machine}
use Rattle.boot_resume.specs.declared.cause.Cause.{Cause}
use Rattle.boot_resume.specs.declared.cause.Cause.TheVariants as cause
use Rattle.definitions.specs.declared.counts.TheConstants.{WORDS_PER_PAGE}

-- What the image says, untested.

abbrev pub header_in : Machine → disk.DiskImage → List ℕ
header_in m v = disk.block v m.header

abbrev pub mark_in : Machine → disk.DiskImage → Mark
mark_in m v = mark_of (header_in m v)

abbrev pub format_by : ℕ → Format
format_by flags = if is_set flags 256 then SkipZeros else Plain

-- the block of map j of the chain, and that of page k of the stream
abbrev pub map_at : Machine → disk.DiskImage → ℕ → ℕ
map_at m v j = map_block v (mark_in m v).first j

abbrev pub page_at : Machine → disk.DiskImage → ℕ → ℕ
page_at m v k = entry_block v (mark_in m v).first k

abbrev pub stream_page : Machine → disk.DiskImage → ℕ → List ℕ
stream_page m v k = disk.block v (page_at m v k)

abbrev pub info_in : Machine → disk.DiskImage → Info
info_in m v = info_of (stream_page m v 0)

-- how many page frames were saved, and how many pages their numbers take
abbrev pub saved_in : Machine → disk.DiskImage → ℕ
saved_in m v = (info_in m v).image_pages

abbrev pub meta_in : Machine → disk.DiskImage → ℕ
meta_in m v = meta_of (saved_in m v)

-- number j: its word, the page frame, and whether its page is zeros and has no data page
abbrev pub word_in : Machine → disk.DiskImage → ℕ → ℕ
word_in m v j = word (stream_page m v (1 + j / WORDS_PER_PAGE)) (j % WORDS_PER_PAGE)

abbrev pub number_in : Machine → disk.DiskImage → ℕ → ℕ
number_in m v j = number_by (format_by (mark_in m v).flags) (word_in m v j)

abbrev pub has_no_data : Machine → disk.DiskImage → ℕ → Bool
has_no_data m v j = is_marked_by (format_by (mark_in m v).flags) (word_in m v j)

-- how many of the first j numbers have a data page
abbrev pub data_before : Machine → disk.DiskImage → ℕ → ℕ
data_before m v zero = 0
data_before m v (suc j) = if has_no_data m v j then data_before m v j else suc (data_before m v j)

-- the place of number i's page: the data pages stand in the order of their numbers, after the number pages
abbrev pub data_place : Machine → disk.DiskImage → ℕ → ℕ
data_place m v i = 1 + meta_in m v + data_before m v i

abbrev pub saved_page : Machine → disk.DiskImage → ℕ → List ℕ
saved_page m v i = if has_no_data m v i then zero_page else stream_page m v (data_place m v i)

-- What is wrong with the image.

abbrev pub mode_cause : Mark → Option Cause
mode_cause mark = if not (is_set mark.flags 2) then Some (cause.Compressed mark.flags) else None

abbrev pub header_cause : List ℕ → Option Cause
header_cause page =
    if not (pointwise nat_eq (sig_of page) image_signature) then Some cause.NoImage else mode_cause (mark_of page)

abbrev pub hardware_cause : Machine → Mark → Option Cause
hardware_cause m mark =
    if is_set mark.flags 8 && not (mark.hw_sig == m.hardware_signature)
    then Some (cause.HwMismatch mark.hw_sig m.hardware_signature) else None

-- map j, which is wanted, named by block number x
abbrev pub map_fault : Machine → ℕ → ℕ → ℕ → Option Cause
map_fault m last j x =
    if x == 0 then Some (if j == 0 then cause.NoChain else cause.ChainEnds j) else block_fault m last x

abbrev pub map_cause : Machine → disk.DiskImage → ℕ → Option Cause
map_cause m v j = map_fault m (mark_in m v).last j (map_at m v j)

abbrev pub page_cause : Machine → disk.DiskImage → ℕ → Option Cause
page_cause m v k = block_fault m (mark_in m v).last (page_at m v k)

abbrev pub field_cause : Option Field → Option Cause
field_cause None = None
field_cause (Some field) = Some (cause.Mismatch field)

-- the bytes of an architecture's header are compared as a whole
abbrev pub identity_cause : Compared → List ℕ → Option Cause
identity_cause any_kernel page = None
identity_cause (same_kernel ident) page = field_cause (mismatch (info_of page).ident ident)
identity_cause (same_bytes bytes) page =
    if pointwise nat_eq (bytes_at 390 page 0) bytes then None else Some cause.Architecture

abbrev pub memory_cause : Machine → Info → Option Cause
memory_cause m info =
    if info.physpages == m.present then None else Some (cause.MemorySize info.physpages m.present)

abbrev pub counts_cause : Machine → Format → Info → Option Cause
counts_cause m format info =
    if are_bad_counts format m.present info.image_pages info.pages
    then Some (cause.BadCounts info.image_pages info.pages) else None

abbrev pub info_cause : Machine → Format → List ℕ → Option Cause
info_cause m format page =
    or_else (identity_cause m.identity page)
    (or_else (memory_cause m (info_of page)) (counts_cause m format (info_of page)))

-- page frame p isn't above the number before it
abbrev pub order_fault : Option ℕ → ℕ → Option Cause
order_fault None p = None
order_fault (Some last) p = if nat_le p last then Some (cause.PfnOrder last p) else None

abbrev pub number_fault : Machine → Option ℕ → ℕ → Option Cause
number_fault m last p = if not (is_memory m.memory p) then Some (cause.BadPfn p) else order_fault last p

abbrev pub number_before : Machine → disk.DiskImage → ℕ → Option ℕ
number_before m v zero = None
number_before m v (suc j) = Some (number_in m v j)

abbrev pub number_cause : Machine → disk.DiskImage → ℕ → Option Cause
number_cause m v j = number_fault m (number_before m v j) (number_in m v j)

-- the word after the last of n numbers, if their last page isn't full
abbrev pub end_fault : List ℕ → ℕ → Option Cause
end_fault page n =
    if (n % WORDS_PER_PAGE == 0) || (word page (n % WORDS_PER_PAGE) == end_value) then None
    else Some (cause.PfnEnd (word page (n % WORDS_PER_PAGE)))

abbrev pub end_cause : Machine → disk.DiskImage → Option Cause
end_cause m v = end_fault (stream_page m v (meta_in m v)) (saved_in m v)

-- whether the number of data pages is the one that the info page implies
abbrev pub listed_fault : ℕ → ℕ → ℕ → Option Cause
listed_fault n pages with_data =
    if pages == with_data + meta_of n + 1 then None else Some (cause.BadCounts n pages)

abbrev pub listed_cause : Machine → disk.DiskImage → Option Cause
listed_cause m v = listed_fault (saved_in m v) (info_in m v).pages (data_before m v (saved_in m v))

-- number page q, from 0
abbrev pub numbers_cause : Machine → disk.DiskImage → ℕ → Option Cause
numbers_cause m v q =
    or_else (first_some (map (number_cause m v)
    (range_with_len (WORDS_PER_PAGE * q) (min WORDS_PER_PAGE (saved_in m v - WORDS_PER_PAGE * q)))))
    (if q + 1 == meta_in m v then or_else (end_cause m v) (listed_cause m v) else None)

-- page k of the stream, up to the last number page
abbrev pub content_cause : Machine → disk.DiskImage → ℕ → Option Cause
content_cause m v zero = info_cause m (format_by (mark_in m v).flags) (stream_page m v 0)
content_cause m v (suc q) = numbers_cause m v q
