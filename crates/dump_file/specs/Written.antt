-- The dump that is written of a machine without regions. Numbers have 4 bytes, little-endian.
use Rattle.std.specs.Prelude.{ℕ, Bool, false, not, ◌==◌, ◌&&◌, List, [], ◌∷◌, ◌++◌, length, filter, codes}
use Rattle.std.specs.Prelude.{if◌then◌else◌}
use Rattle.std.specs.List.{concat, flat_map}
use Rattle.byteorder.specs.Endian.{little_bytes}
use Rattle.definitions.specs.Slots.{extent_at}
use Rattle.definitions.specs.Tables.{frame}
use Rattle.definitions.specs.Zones.{numbers}
use Rattle.plain_machine.specs.Image.{is_zeros}
use Rattle.plain_machine.specs.Machine.{Hardware, Memory}

-- a number's bytes
unfoldable pub number_bytes : ℕ → List ℕ
number_bytes n = little_bytes 4 n

-- The file map is the one extent that lays each slot on the block of its number. The dump of such a machine is of
-- version 1.
abbrev pub is_plain_map : List (ℕ × ℕ × ℕ) → ℕ → Bool
is_plain_map [] slots = false
is_plain_map (e ∷ []) slots = (e.0 == 0) && (e.1 == slots) && (e.2 == 0)
is_plain_map (e ∷ f ∷ extents) slots = false

abbrev pub is_plain : Hardware → Bool
is_plain h = is_plain_map h.extents h.slots

-- the mark of version 1, and of version 2
abbrev pub first_mark : List ℕ
first_mark = codes "SWSUDMP1"

abbrev pub second_mark : List ℕ
second_mark = codes "SWSUDMP2"

-- a zone: its first number and its count
abbrev pub zone_bytes : ℕ × ℕ → List ℕ
zone_bytes zone = number_bytes zone.0 ++ number_bytes zone.1

-- an extent: start page, length, start block
abbrev pub extent_bytes : ℕ × ℕ × ℕ → List ℕ
extent_bytes e = number_bytes e.0 ++ number_bytes e.1 ++ number_bytes e.2

-- a file map, as version 2 has it after the zones: the resume offset, which is the first extent's start block, and the
-- extents
abbrev pub map_bytes : List (ℕ × ℕ × ℕ) → List ℕ
map_bytes extents =
    number_bytes (extent_at extents 0).2 ++ number_bytes (length extents) ++ flat_map extent_bytes extents

-- the mark, seven numbers, the six names, two zero bytes
unfoldable pub front_bytes : Hardware → List ℕ
front_bytes h =
    (if is_plain h then first_mark else second_mark)
    ++ number_bytes h.ident.version_code ++ number_bytes h.slots ++ number_bytes h.frame_table
    ++ number_bytes h.slot_table
    ++ number_bytes h.hw_sig ++ number_bytes (length h.zones) ++ concat h.ident.names ++ (0 ∷ 0 ∷ [])

-- the zones, and in version 2 the file map
unfoldable pub layout_bytes : Hardware → List ℕ
layout_bytes h = flat_map zone_bytes h.zones ++ (if is_plain h then [] else map_bytes h.extents)

-- Those of these page frames that aren't all zero. Each has a record, if it is valid.
abbrev pub nonzero : Memory → List ℕ → List ℕ
nonzero m ps = filter (λ p. not (is_zeros (frame m p))) ps

-- a record: a page frame's number and its content
abbrev pub record_bytes : Memory → ℕ → List ℕ
record_bytes m p = number_bytes p ++ frame m p

-- the records of these page frames, for those that have one
abbrev pub records_bytes : Memory → List ℕ → List ℕ
records_bytes m ps = flat_map (record_bytes m) (nonzero m ps)

-- everything before the records
unfoldable pub head_bytes : Hardware → Memory → List ℕ
head_bytes h m = front_bytes h ++ layout_bytes h ++ number_bytes (length (nonzero m (numbers h.zones)))

-- the dump of a machine: records for exactly the valid page frames that aren't all zero, ascending
unfoldable pub dump_bytes : Hardware → Memory → List ℕ
dump_bytes h m = head_bytes h m ++ records_bytes m (numbers h.zones)
