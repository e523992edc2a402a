-- The segments of a core file that have memory.
use Rattle.std.specs.Prelude.{ℕ, ◌+◌, ◌-◌, ◌*◌, ◌/◌, ◌^◌, ◌==◌, ◌&&◌, ◌||◌, not, nat_lt, nat_le, Bool}
use Rattle.std.specs.Prelude.{List, [], ◌∷◌, filter, length, map, Option, Some, None, if◌then◌else◌, slice_index_or}
use Rattle.std.specs.List.{list_any, range_with_len}
use Rattle.plain_machine.specs.Chain.{first_some, or_else}
use Rattle.core_machine.specs.Faults.{unless}
use Rattle.core_machine.specs.declared.segments.fault.Fault.{Fault}
use Rattle.core_machine.specs.declared.segments.fault.Fault.TheVariants as fault
use Rattle.core_machine.specs.declared.segments.segment.Segment.{Segment}

-- the end of the addresses, and that of the bytes in the file
abbrev pub address_end : Segment → ℕ
address_end s = s.address + s.memory_size

abbrev pub bytes_end : Segment → ℕ
bytes_end s = s.offset + s.file_size

abbrev pub nothing : Segment
nothing = record { offset = 0; address = 0; file_size = 0; memory_size = 0 }

abbrev pub segment_at : List Segment → ℕ → Segment
segment_at loads i = slice_index_or loads i nothing

-- the addresses of `a` lie among those of `b`
abbrev pub lies_within : Segment → Segment → Bool
lies_within a b = nat_le b.address a.address && nat_le (address_end a) (address_end b)

-- Segment j has each address of segment i, and has more or comes before it.
abbrev pub is_covered_by : List Segment → ℕ → ℕ → Bool
is_covered_by loads i j =
    lies_within (segment_at loads i) (segment_at loads j)
    && (not (lies_within (segment_at loads j) (segment_at loads i)) || nat_lt j i)

-- another segment has all its addresses, as a segment of /proc/vmcore has those of the kernel's text
abbrev pub is_passed_over : List Segment → ℕ → Bool
is_passed_over loads i = list_any (is_covered_by loads i) (range_with_len 0 (length loads))

abbrev pub is_kept : List Segment → ℕ → Bool
is_kept loads i = not (is_passed_over loads i)

-- the other segments, in their order
unfoldable pub kept : List Segment → List Segment
kept loads = map (segment_at loads) (filter (is_kept loads) (range_with_len 0 (length loads)))

-- The page frames that the segment has an address of: from the first one up to the end, exclusive.
abbrev pub first_frame : Segment → ℕ
first_frame s = s.address / 4096

abbrev pub frame_end : Segment → ℕ
frame_end s = (address_end s + 4095) / 4096

abbrev pub frames_of : Segment → List ℕ
frames_of s = range_with_len (first_frame s) (frame_end s - first_frame s)

-- The size in the file isn't above the one in memory, and the addresses are those of a machine with at most 65,536 page
-- frames.
unfoldable pub size_fault : Segment → Option Fault
size_fault s = first_some (
    unless (nat_le s.file_size s.memory_size) (fault.Sizes s.address)
    ∷ unless (nat_le (address_end s) (2 ^ 64)) (fault.Wraps s.address)
    ∷ unless (nat_le (address_end s) (2 ^ 28)) (fault.Limit (address_end s - 1)) ∷ [])

-- The bytes lie at or after a place up to which the file was read, and within the first 2^48.
unfoldable pub place_fault : ℕ → Segment → Option Fault
place_fault place s =
    if s.file_size == 0 then None else first_some (
    unless (nat_le place s.offset) (fault.Place s.address)
    ∷ unless (nat_le s.offset (2 ^ 48)) (fault.Far s.offset) ∷ [])

-- the end of the bytes that were read
abbrev pub place_after : ℕ → Segment → ℕ
place_after place s = if s.file_size == 0 then place else bytes_end s

-- A segment begins with a page frame that is still free.
abbrev pub segment_fault : ℕ → ℕ → Segment → Option Fault
segment_fault free place s =
    or_else (size_fault s)
    (or_else (unless (nat_le free (first_frame s)) (fault.Overlap s.address)) (place_fault place s))

-- The first fault of segments that follow one another from a page frame and a place on: they ascend without sharing a
-- page frame, and so do their bytes.
unfoldable pub segments_fault : ℕ → ℕ → List Segment → Option Fault
segments_fault free place [] = None
segments_fault free place (s ∷ segments) =
    or_else (segment_fault free place s) (segments_fault (frame_end s) (place_after place s) segments)

-- at least one segment exists
abbrev pub none_fault : List Segment → Option Fault
none_fault [] = Some fault.NoSegment
none_fault (s ∷ segments) = None

-- the place of the first bytes, at most 2^48
unfoldable pub first_place : List Segment → ℕ
first_place [] = 2 ^ 48
first_place (s ∷ segments) = if s.file_size == 0 then first_place segments else s.offset
