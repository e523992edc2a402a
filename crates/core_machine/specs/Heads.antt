-- What precedes the segments' bytes in a core file (System V gABI, "Object Files"; elf.h): the file header, and the
-- program headers at the place that it names.
use Rattle.std.specs.Prelude.{ℕ, ◌+◌, ◌*◌, ◌^◌, ◌==◌, ◌&&◌, ◌||◌, not, nat_lt, nat_le, nat_eq, Bool}
use Rattle.std.specs.Prelude.{List, [], ◌∷◌, filter, length, map, Option, Some, None, slice_index}
use Rattle.std.specs.List.{range_with_len, starts_with}
use Rattle.definitions.specs.Bytes.{bytes_at, number_at}
use Rattle.plain_machine.specs.Chain.{first_some, or_else}
use Rattle.core_machine.specs.Faults.{unless, wanted}
use Rattle.core_machine.specs.Segments.{kept, none_fault, segments_fault}
use Rattle.core_machine.specs.declared.segments.fault.Fault.{Fault}
use Rattle.core_machine.specs.declared.segments.fault.Fault.TheVariants as fault
use Rattle.core_machine.specs.declared.segments.segment.Segment.{Segment}
use Rattle.core_machine.specs.declared.segments.table.ProgramHeader.{ProgramHeader}

-- Elf64_Ehdr: e_type, e_machine, e_version, e_phoff, e_phentsize and e_phnum
abbrev pub type_of : List ℕ → ℕ
type_of header = number_at 2 header 16

abbrev pub machine_of : List ℕ → ℕ
machine_of header = number_at 2 header 18

abbrev pub version_of : List ℕ → ℕ
version_of header = number_at 4 header 20

abbrev pub table_place : List ℕ → ℕ
table_place header = number_at 8 header 32

abbrev pub entry_size : List ℕ → ℕ
entry_size header = number_at 2 header 54

abbrev pub entry_count : List ℕ → ℕ
entry_count header = number_at 2 header 56

-- the end of the program headers, each of 56 bytes
abbrev pub table_end : List ℕ → ℕ
table_end header = table_place header + 56 * entry_count header

-- ELFMAG
abbrev pub has_magic : List ℕ → Bool
has_magic header = starts_with nat_eq header (127 ∷ 69 ∷ 76 ∷ 70 ∷ [])

-- ELFCLASS64, ELFDATA2LSB, EV_CURRENT, ET_CORE, EV_CURRENT; program headers of the right size after the file header, at
-- least one of them, and fewer than PN_XNUM
unfoldable pub header_fault : List ℕ → Option Fault
header_fault header = first_some (
    unless (has_magic header) fault.Magic
    ∷ unless (slice_index header 4 == 2) (fault.Class (slice_index header 4))
    ∷ unless (slice_index header 5 == 1) (fault.Order (slice_index header 5))
    ∷ unless (slice_index header 6 == 1) (fault.Version (slice_index header 6))
    ∷ unless (type_of header == 4) (fault.Type (type_of header))
    ∷ unless (version_of header == 1) (fault.Version (version_of header))
    ∷ unless (entry_size header == 56) (fault.EntrySize (entry_size header))
    ∷ unless (nat_le 1 (entry_count header) && nat_lt (entry_count header) 65535) (fault.Entries (entry_count header))
    ∷ unless (nat_le 64 (table_place header) && nat_le (table_place header) (2 ^ 48)) (fault.Table (table_place header))
    ∷ [])

-- Elf64_Phdr: p_type, p_offset, p_paddr, p_filesz, p_memsz
unfoldable pub entry_of : List ℕ → ProgramHeader
entry_of bytes = record {
  kind = number_at 4 bytes 0;
  segment = record {
    offset = number_at 8 bytes 8;
    address = number_at 8 bytes 24;
    file_size = number_at 8 bytes 32;
    memory_size = number_at 8 bytes 40;
  };
}

-- entry i of the table that begins at a place
abbrev pub entry_at : List ℕ → ℕ → ℕ → ProgramHeader
entry_at bytes place i = entry_of (bytes_at 56 bytes (place + 56 * i))

abbrev pub entries : List ℕ → ℕ → ℕ → List ProgramHeader
entries bytes place count = map (entry_at bytes place) (range_with_len 0 count)

-- PT_LOAD, and not empty
abbrev pub is_load : ProgramHeader → Bool
is_load entry = entry.kind == 1 && (not (entry.segment.file_size == 0) || not (entry.segment.memory_size == 0))

abbrev pub segment_in : ProgramHeader → Segment
segment_in entry = entry.segment

abbrev pub loads_of : List ProgramHeader → List Segment
loads_of table = map segment_in (filter is_load table)

-- the file header, the table of a file, and the segments that are kept
abbrev pub header_in : List ℕ → List ℕ
header_in bytes = bytes_at 64 bytes 0

abbrev pub table_in : List ℕ → List ProgramHeader
table_in bytes = entries bytes (table_place (header_in bytes)) (entry_count (header_in bytes))

unfoldable pub segments_in : List ℕ → List Segment
segments_in bytes = kept (loads_of (table_in bytes))

-- what is wrong with segments whose bytes lie after a place
abbrev pub kept_fault : ℕ → List Segment → Option Fault
kept_fault place segments = or_else (none_fault segments) (segments_fault 0 place segments)

-- the first fault of what precedes the segments' bytes
unfoldable pub table_fault : List ℕ → Option Fault
table_fault bytes =
    or_else (wanted bytes 64) (or_else (header_fault (header_in bytes))
    (or_else (wanted bytes (table_end (header_in bytes)))
    (kept_fault (table_end (header_in bytes)) (segments_in bytes))))
