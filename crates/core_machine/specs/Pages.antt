-- The page frames of a core file, with their pages.
use Rattle.std.specs.Prelude.{ℕ, ◌+◌, ◌-◌, ◌*◌, ◌&&◌, nat_le, nat_lt, Bool, List, [], ◌∷◌, map, min, max, slice_index}
use Rattle.std.specs.Prelude.{Option, None, if◌then◌else◌}
use Rattle.std.specs.List.{flat_map, range_with_len}
use Rattle.plain_machine.specs.Chain.{or_else}
use Rattle.core_machine.specs.Faults.{wanted}
use Rattle.core_machine.specs.Heads.{segments_in}
use Rattle.core_machine.specs.Notes.{head_end, head_fault}
use Rattle.core_machine.specs.Segments.{frames_of, place_after}
use Rattle.core_machine.specs.declared.segments.fault.Fault.{Fault}
use Rattle.core_machine.specs.declared.segments.segment.Segment.{Segment}

-- The byte at an address: that of the file if the address lies within p_filesz, else 0.
abbrev pub byte_at : List ℕ → Segment → ℕ → ℕ
byte_at bytes s address =
    if nat_le s.address address && nat_lt address (s.address + s.file_size)
    then slice_index bytes (s.offset + (address - s.address)) else 0

-- the page of a page frame of a segment
unfoldable pub page_of : List ℕ → Segment → ℕ → List ℕ
page_of bytes s p = map (λ k. byte_at bytes s (4096 * p + k)) (range_with_len 0 4096)

-- all page frames of segments, each with its page
abbrev pub pages_in : List ℕ → Segment → List (ℕ × List ℕ)
pages_in bytes s = map (λ p. (p, page_of bytes s p)) (frames_of s)

unfoldable pub pages_of : List ℕ → List Segment → List (ℕ × List ℕ)
pages_of bytes segments = flat_map (pages_in bytes) segments

-- The addresses of a page frame that the file has bytes for: from the first one up to the second, exclusive.
abbrev pub from_address : Segment → ℕ → ℕ
from_address s p = max s.address (4096 * p)

abbrev pub to_address : Segment → ℕ → ℕ
to_address s p = min (s.address + s.file_size) (4096 * p + 4096)

abbrev pub has_bytes : Segment → ℕ → Bool
has_bytes s p = nat_lt (from_address s p) (to_address s p)

-- the place of these bytes, and their end
abbrev pub page_place : Segment → ℕ → ℕ
page_place s p = s.offset + (from_address s p - s.address)

abbrev pub page_end : Segment → ℕ → ℕ
page_end s p = s.offset + (to_address s p - s.address)

-- how far the file is read after a page frame was read, if it was read up to a place before
abbrev pub reached : ℕ → Segment → ℕ → ℕ
reached place s p = if has_bytes s p then page_end s p else place

-- the fault of a file that ends before the bytes of the page frame
abbrev pub page_fault : List ℕ → Segment → ℕ → Option Fault
page_fault bytes s p = if has_bytes s p then wanted bytes (page_end s p) else None

-- the end of the bytes of segments from a place on
unfoldable pub places_end : ℕ → List Segment → ℕ
places_end place [] = place
places_end place (s ∷ segments) = places_end (place_after place s) segments

-- the first fault of a file: in what precedes the bytes of its segments, or because those are missing
unfoldable pub core_fault : List ℕ → Option Fault
core_fault bytes = or_else (head_fault bytes) (wanted bytes (places_end (head_end bytes) (segments_in bytes)))
