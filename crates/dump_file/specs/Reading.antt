-- How far a source has been read, and what was found.
use Rattle.std.specs.Prelude.{◌≡◌, ℕ, ◌+◌, ◌≤◌, nat_le, ◌&&◌, ◌||◌, true, List, [], length, drop, Option, Some}
use Rattle.std.specs.Prelude.{None, Result, Err, IsOk}
use Rattle.definitions.specs.Streams.{HandsOut}
use Rattle.definitions.specs.Zones.{numbers}
use Rattle.plain_machine.specs.Chain.{or_else}
use Rattle.plain_machine.specs.Machine.{Hardware}
use Rattle.dump_file.specs.Dump.{IsReadToFault, head_fault, unless, wanted}
use Rattle.dump_file.specs.Fields as at_fields
use Rattle.dump_file.specs.declared.dump.DumpFault.{DumpFault}
use Rattle.dump_file.specs.declared.dump.DumpKind.TheVariants.{Frame, Magic, Header, Zone}
use Rattle.dump_file.specs.declared.dump.DumpStop.{DumpStop}
use Rattle.dump_file.specs.declared.dump.DumpStop.TheVariants.{Fault}
use Rattle.dump_file.specs.declared.front.Front.{Front}

-- a source has handed out a whole text
abbrev pub HandsOutAll : List ℕ → Option (List ℕ) → Option (List ℕ) → Type 0
HandsOutAll text old new = HandsOut (length text) text old new

-- the first k of these bytes are read, and the rest is left
pub record IsReadTo (bytes : List ℕ) (k : ℕ) (left : Option (List ℕ)) : Type 0 where
  pub within : k ≤ length bytes
  pub rest : left ≡ Some (drop k bytes)

-- A part of these bytes was read, each field looked at as soon as it was read. The part's first fault, if it has one,
-- is reported at once; otherwise the part ends at byte `end`, and the rest is left.
pub record IsRead {A : Type 0} (bytes : List ℕ) (wrong : Option DumpFault) (end : ℕ) (result : Result A DumpStop)
    (left : Option (List ℕ)) : Type 0 where
  pub refused : (f : DumpFault) → result ≡ Err (Fault f) → (wrong ≡ Some f) × IsReadToFault bytes f left
  pub right : IsOk result → (wrong ≡ None) × IsReadTo bytes end left

-- what is wrong with the mark, the number of slots, the number of zones
abbrev pub mark_fault : List ℕ → Option DumpFault
mark_fault bytes = or_else (wanted bytes 8) (unless (at_fields.is_first bytes || at_fields.is_second bytes) Magic 0)

abbrev pub slots_fault : List ℕ → Option DumpFault
slots_fault bytes =
    or_else (wanted bytes 16)
    (unless (nat_le 2 (at_fields.slots bytes) && nat_le (at_fields.slots bytes) 131072) Header 12)

abbrev pub zone_count_fault : List ℕ → Option DumpFault
zone_count_fault bytes =
    or_else (wanted bytes 32)
    (unless (nat_le 1 (at_fields.zone_count bytes) && nat_le (at_fields.zone_count bytes) 16) Zone 28)

-- what is wrong with the number of records
abbrev pub record_count_fault : List ℕ → Option DumpFault
record_count_fault bytes =
    or_else (wanted bytes (at_fields.count_byte bytes + 4))
    (unless (nat_le (at_fields.record_count bytes) (length (numbers (at_fields.zones bytes)))) Frame
    (at_fields.count_byte bytes))

-- what these bytes say before their zones
unfoldable pub front_of : List ℕ → Front
front_of bytes = record {
  is_second = at_fields.is_second bytes;
  ident = at_fields.ident bytes;
  slots = at_fields.slots bytes;
  frame_table = at_fields.number bytes 16;
  slot_table = at_fields.number bytes 20;
  hw_sig = at_fields.number bytes 24;
  zone_count = at_fields.zone_count bytes;
}

-- the hardware that a front, zones and extents make
abbrev pub hardware_by : Front → List (ℕ × ℕ) → List (ℕ × ℕ × ℕ) → Hardware
hardware_by front zones extents = record {
  zones = zones;
  slots = front.slots;
  frame_table = front.frame_table;
  slot_table = front.slot_table;
  regions = [];
  ident = front.ident;
  hw_sig = front.hw_sig;
  extents = extents;
}

-- these bytes are of version 2, and have `len` extents, the first at byte `first`
pub record HasExtents (bytes : List ℕ) (first len : ℕ) : Type 0 where
  pub second : at_fields.is_second bytes ≡ true
  pub first_is : first ≡ at_fields.first_extent bytes
  pub len_is : len ≡ at_fields.extent_count bytes

-- these bytes are of version 2, have `slots` slots, and their file map begins at byte `map_at`
pub record HasMap (bytes : List ℕ) (map_at slots : ℕ) : Type 0 where
  pub second : at_fields.is_second bytes ≡ true
  pub map_is : map_at ≡ at_fields.map_byte bytes
  pub slots_are : slots ≡ at_fields.slots bytes

-- these bytes describe this machine, and have the number of records at byte `end`
pub record IsMade (bytes : List ℕ) (hw : Hardware) (end : ℕ) : Type 0 where
  pub hw_is : hw ≡ at_fields.hardware bytes
  pub end_is : end ≡ at_fields.count_byte bytes

-- these bytes have no fault before their records, and say what the machine is, where the records begin, and how many
-- there are
pub record IsHeader (bytes : List ℕ) (hw : Hardware) (first count : ℕ) : Type 0 where
  pub no_fault : head_fault bytes ≡ None
  pub hw_is : hw ≡ at_fields.hardware bytes
  pub first_is : first ≡ at_fields.first_record bytes
  pub count_is : count ≡ at_fields.record_count bytes
