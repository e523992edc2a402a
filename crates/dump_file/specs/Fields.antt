-- Where a dump has its fields. All numbers have 4 bytes, little-endian.
use Rattle.std.specs.Prelude.{ℕ, ◌+◌, ◌*◌, ◌==◌, Bool, List, [], ◌∷◌, nat_eq, drop, map, Option, Some, None}
use Rattle.std.specs.Prelude.{if◌then◌else◌}
use Rattle.std.specs.List.{starts_with, range_with_len, find}
use Rattle.definitions.specs.Bytes.{bytes_at, number_at, zero_page}
use Rattle.definitions.specs.InfoPage.{names_of}
use Rattle.definitions.specs.Zones.{top}
use Rattle.definitions.specs.declared.info.Ident.{Ident}
use Rattle.plain_machine.specs.Machine.{Hardware, Memory}
use Rattle.dump_file.specs.Written.{first_mark, second_mark}

-- the number at offset k
abbrev pub number : List ℕ → ℕ → ℕ
number bytes k = number_at 4 bytes k

-- whether it begins with the mark of version 1, of version 2
abbrev pub is_first : List ℕ → Bool
is_first bytes = starts_with nat_eq bytes first_mark

abbrev pub is_second : List ℕ → Bool
is_second bytes = starts_with nat_eq bytes second_mark

-- From offset 8: version code, slots, frame table, slot table, hardware signature, number of zones, the six names.
abbrev pub slots : List ℕ → ℕ
slots bytes = number bytes 12

abbrev pub zone_count : List ℕ → ℕ
zone_count bytes = number bytes 28

abbrev pub ident : List ℕ → Ident
ident bytes = record { version_code = number bytes 8; names = names_of (drop 32 bytes) }

-- From offset 424 the zones, 8 bytes each: first number and count.
abbrev pub zone_byte : ℕ → ℕ
zone_byte j = 424 + 8 * j

abbrev pub zone : List ℕ → ℕ → ℕ × ℕ
zone bytes j = (number bytes (zone_byte j), number bytes (zone_byte j + 4))

abbrev pub zones : List ℕ → List (ℕ × ℕ)
zones bytes = map (zone bytes) (range_with_len 0 (zone_count bytes))

-- After the zones, only in version 2: the resume offset, the number of extents, and the extents, 12 bytes each: start
-- page, length, start block.
abbrev pub map_byte : List ℕ → ℕ
map_byte bytes = zone_byte (zone_count bytes)

abbrev pub extent_count : List ℕ → ℕ
extent_count bytes = number bytes (map_byte bytes + 4)

abbrev pub first_extent : List ℕ → ℕ
first_extent bytes = map_byte bytes + 8

abbrev pub extent_byte : List ℕ → ℕ → ℕ
extent_byte bytes i = first_extent bytes + 12 * i

-- extent i of those that begin at byte `first`
abbrev pub extent_at : List ℕ → ℕ → ℕ → ℕ × ℕ × ℕ
extent_at bytes first i =
    (number bytes (first + 12 * i), number bytes (first + 12 * i + 4), number bytes (first + 12 * i + 8))

-- version 1 is read as if it had one extent, which lays each slot on the block of its number
abbrev pub extents : List ℕ → List (ℕ × ℕ × ℕ)
extents bytes =
    if is_second bytes then map (extent_at bytes (first_extent bytes)) (range_with_len 0 (extent_count bytes))
    else ((0, slots bytes, 0) ∷ [])

-- a dump has no regions
unfoldable pub hardware : List ℕ → Hardware
hardware bytes = record {
  zones = zones bytes;
  slots = slots bytes;
  frame_table = number bytes 16;
  slot_table = number bytes 20;
  regions = [];
  ident = ident bytes;
  hw_sig = number bytes 24;
  extents = extents bytes;
}

-- After the zones, or the extents, the number of records.
abbrev pub count_byte : List ℕ → ℕ
count_byte bytes = if is_second bytes then extent_byte bytes (extent_count bytes) else map_byte bytes

abbrev pub record_count : List ℕ → ℕ
record_count bytes = number bytes (count_byte bytes)

-- After that number the records, 4100 bytes each: a page frame's number and its content. They begin at `first`.
abbrev pub first_record : List ℕ → ℕ
first_record bytes = count_byte bytes + 4

abbrev pub record_byte : ℕ → ℕ → ℕ
record_byte first j = first + 4100 * j

abbrev pub record_frame : List ℕ → ℕ → ℕ → ℕ
record_frame bytes first j = number bytes (record_byte first j)

abbrev pub record_page : List ℕ → ℕ → ℕ → List ℕ
record_page bytes first j = bytes_at 4096 bytes (record_byte first j + 4)

-- the content of a page frame: its record's, or zeros if it has no record
abbrev pub page_of : List ℕ → ℕ → Option ℕ → List ℕ
page_of bytes first None = zero_page
page_of bytes first (Some j) = record_page bytes first j

abbrev pub content : List ℕ → ℕ → ℕ → ℕ → List ℕ
content bytes first count p = page_of bytes first (find (λ j. record_frame bytes first j == p) (range_with_len 0 count))

-- the content of the first `frames` page frames, by the first `count` records
unfoldable pub contents : List ℕ → ℕ → ℕ → ℕ → Memory
contents bytes first count frames = map (content bytes first count) (range_with_len 0 frames)

abbrev pub memory : List ℕ → Memory
memory bytes = contents bytes (first_record bytes) (record_count bytes) (top (zones bytes))
