-- Which bytes are a dump, and the first fault of bytes that aren't. Faults are found in the order of reading: each
-- field is tested once it has been read, a record's page frame number before its content.
use Rattle.std.specs.Prelude.{◌≡◌, ℕ, ◌+◌, ◌-◌, ◌==◌, ◌&&◌, ◌||◌, nat_lt, nat_le, Bool, true, zero, suc, List}
use Rattle.std.specs.Prelude.{[], ◌∷◌, drop, length, map, Option, Some, None, Result, Ok, Err, if◌then◌else◌}
use Rattle.std.specs.List.{range_with_len}
use Rattle.definitions.specs.Slots.{extent_at, slots_of}
use Rattle.definitions.specs.Zones.{numbers, top}
use Rattle.plain_machine.specs.Chain.{first_some, or_else}
use Rattle.plain_machine.specs.Machine.{Hardware, Memory, tables_fault}
use Rattle.plain_machine.specs.Loader.{has}
use Rattle.machine.specs.HardFault.{is_zone, is_extent, has_tables}
use Rattle.dump_file.specs.declared.dump.DumpFault.{DumpFault}
use Rattle.dump_file.specs.declared.dump.DumpKind.{DumpKind}
use Rattle.dump_file.specs.declared.dump.DumpKind.TheVariants.{Short, Magic, Header, Zone, Extent, Frame, Order, Extra}
use Rattle.dump_file.specs.declared.dump.DumpKind.TheVariants.{Tables}
use Rattle.dump_file.specs.Fields as at

-- what a dump says: the hardware, and the content of its page frames
pub record DumpValue : Type 0 where
  pub hw : Hardware
  pub memory : Memory

-- the fault in a result, if it is an error
abbrev pub fault_in : {A : Type 0} → Result A DumpFault → Option DumpFault
fault_in (Ok x) = None
fault_in (Err fault) = Some fault

-- a fault of this kind at this place, unless the test holds
abbrev pub unless : Bool → DumpKind → ℕ → Option DumpFault
unless test kind place = if test then None else Some (record { kind = kind; at = place })

-- The first n bytes are wanted. If there are fewer, the input is too short, and all of it is read.
abbrev pub wanted : List ℕ → ℕ → Option DumpFault
wanted bytes n = unless (nat_le n (length bytes)) Short (length bytes)

-- the mark; 2 to 131,072 slots; 1 to 16 zones
unfoldable pub front_fault : List ℕ → Option DumpFault
front_fault bytes = first_some (
    wanted bytes 8 ∷ unless (at.is_first bytes || at.is_second bytes) Magic 0
    ∷ wanted bytes 16 ∷ unless (nat_le 2 (at.slots bytes) && nat_le (at.slots bytes) 131072) Header 12
    ∷ wanted bytes 32 ∷ unless (nat_le 1 (at.zone_count bytes) && nat_le (at.zone_count bytes) 16) Zone 28
    ∷ wanted bytes 424 ∷ [])

-- the fault of zone j: it isn't a valid zone, or doesn't lie above the one before
abbrev pub zone_fault : List ℕ → ℕ → Option DumpFault
zone_fault bytes j =
    or_else (wanted bytes (at.zone_byte (j + 1))) (unless (is_zone (at.zones bytes) j) Zone (at.zone_byte j))

unfoldable pub zones_fault : List ℕ → Option DumpFault
zones_fault bytes = first_some (map (zone_fault bytes) (range_with_len 0 (at.zone_count bytes)))

-- The file map of version 2: 1 to 64 extents. At fault is the first extent that isn't in order, or the last one if
-- together they don't cover exactly the slots. The resume offset is the first extent's start block.
abbrev pub extent_fault : List ℕ → ℕ → Option DumpFault
extent_fault bytes i =
    or_else (wanted bytes (at.extent_byte bytes (i + 1)))
    (unless (is_extent (at.extents bytes) i) Extent (at.extent_byte bytes i))

abbrev pub extent_count_fault : List ℕ → Option DumpFault
extent_count_fault bytes =
    unless (nat_le 1 (at.extent_count bytes) && nat_le (at.extent_count bytes) 64) Extent (at.map_byte bytes + 4)

abbrev pub extents_fault : List ℕ → Option DumpFault
extents_fault bytes = first_some (map (extent_fault bytes) (range_with_len 0 (at.extent_count bytes)))

abbrev pub cover_fault : List ℕ → Option DumpFault
cover_fault bytes =
    unless (slots_of (at.extents bytes) == at.slots bytes) Extent (at.extent_byte bytes (at.extent_count bytes - 1))

abbrev pub offset_fault : List ℕ → Option DumpFault
offset_fault bytes =
    unless (at.number bytes (at.map_byte bytes) == (extent_at (at.extents bytes) 0).2) Extent (at.map_byte bytes)

unfoldable pub map_fault : List ℕ → Option DumpFault
map_fault bytes =
    or_else (wanted bytes (at.map_byte bytes + 8)) (or_else (extent_count_fault bytes)
    (or_else (or_else (extents_fault bytes) (cover_fault bytes)) (offset_fault bytes)))

-- version 1 has no file map
abbrev pub layout_fault : List ℕ → Option DumpFault
layout_fault bytes = if at.is_second bytes then map_fault bytes else None

-- the tables lie on valid page frames and share none; there are at most as many records as valid page frames
unfoldable pub count_fault : List ℕ → Option DumpFault
count_fault bytes = first_some (
    unless (has_tables (at.hardware bytes)) Header 16
    ∷ wanted bytes (at.count_byte bytes + 4)
    ∷ unless (nat_le (at.record_count bytes) (length (numbers (at.zones bytes)))) Frame (at.count_byte bytes) ∷ [])

-- everything before the records
unfoldable pub head_fault : List ℕ → Option DumpFault
head_fault bytes =
    or_else (front_fault bytes) (or_else (zones_fault bytes) (or_else (layout_fault bytes) (count_fault bytes)))

-- whether a page frame's number is above that of the record before
abbrev pub is_above : Option ℕ → ℕ → Bool
is_above None p = true
is_above (Some before) p = nat_lt before p

-- the page frame of the record before record j
abbrev pub frame_before : List ℕ → ℕ → ℕ → Option ℕ
frame_before bytes first zero = None
frame_before bytes first (suc j) = Some (at.record_frame bytes first j)

-- The fault of the record at byte k, which comes after one of page frame `before`: its page frame must be valid and lie
-- above that one.
unfoldable pub fault_of_record : List (ℕ × ℕ) → List ℕ → Option ℕ → ℕ → Option DumpFault
fault_of_record zones bytes before k =
    or_else (wanted bytes (k + 4)) (or_else (unless (has (numbers zones) (at.number bytes k)) Frame k)
    (or_else (unless (is_above before (at.number bytes k)) Order k) (wanted bytes (k + 4100))))

-- the first fault of `count` records, the first of which begins at byte `first`
abbrev pub record_fault : List (ℕ × ℕ) → List ℕ → ℕ → ℕ → Option DumpFault
record_fault zones bytes first j = fault_of_record zones bytes (frame_before bytes first j) (at.record_byte first j)

unfoldable pub records_fault : List (ℕ × ℕ) → List ℕ → ℕ → ℕ → Option DumpFault
records_fault zones bytes first count = first_some (map (record_fault zones bytes first) (range_with_len 0 count))

-- nothing follows the records, which end before byte k
abbrev pub end_fault : List ℕ → ℕ → Option DumpFault
end_fault bytes k = unless (nat_le (length bytes) k) Extra k

-- the first table frame at fault
abbrev pub table_fault : Option ℕ → Option DumpFault
table_fault None = None
table_fault (Some f) = Some (record { kind = Tables; at = f })

-- everything after the head
unfoldable pub body_fault : Hardware → List ℕ → ℕ → ℕ → Option DumpFault
body_fault h bytes first count =
    or_else (records_fault h.zones bytes first count) (or_else (end_fault bytes (at.record_byte first count))
    (table_fault (tables_fault h (at.contents bytes first count (top h.zones)))))

-- the first fault
unfoldable pub dump_fault : List ℕ → Option DumpFault
dump_fault bytes =
    or_else (head_fault bytes) (body_fault (at.hardware bytes) bytes (at.first_record bytes) (at.record_count bytes))

abbrev pub dump_unless : Option DumpFault → List ℕ → Result DumpValue DumpFault
dump_unless None bytes = Ok (record { hw = at.hardware bytes; memory = at.memory bytes })
dump_unless (Some fault) bytes = Err fault

-- the grammar of dumps
unfoldable pub dump_of : List ℕ → Result DumpValue DumpFault
dump_of bytes = dump_unless (dump_fault bytes) bytes

-- How many bytes show a fault: those up to the end of the field that it names, since each field is looked at as soon as
-- it is read. The tables' places (Header, 16) and the resume offset are looked at once the zones and extents are read,
-- and the content of the tables once everything is.
abbrev pub told_by : List ℕ → DumpKind → ℕ → ℕ
told_by bytes Short k = k
told_by bytes Magic k = 8
told_by bytes Header k = if k == 12 then 16 else at.count_byte bytes
told_by bytes Zone k = if k == 28 then 32 else k + 8
told_by bytes Extent k =
    if k == at.map_byte bytes then at.count_byte bytes else (if k == at.map_byte bytes + 4 then k + 4 else k + 12)
told_by bytes Frame k = k + 4
told_by bytes Order k = k + 4
told_by bytes Extra k = k + 1
told_by bytes Tables k = length bytes

-- bytes that are refused for this fault are read exactly as far as shows it
abbrev pub IsReadToFault : List ℕ → DumpFault → Option (List ℕ) → Type 0
IsReadToFault bytes f left = left ≡ Some (drop (told_by bytes f.kind f.at) bytes)
