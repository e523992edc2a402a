-- What the settings of a script describe.
use Rattle.std.specs.Prelude.{ℕ, ◌+◌, ◌||◌, Bool, is_some, List, [], ◌∷◌, Option, length, nat_lt, unwrap_or, ◌-◌, ◌++◌}
use Rattle.std.specs.Prelude.{replicate, codes}
use Rattle.std.specs.List.{list_any}
use Rattle.definitions.specs.Zones.{numbers, first_from, top}
use Rattle.plain_machine.specs.Machine.{Hardware, table_len}
use Rattle.machine.specs.HardFault.{hard_fault}
use Rattle.definitions.specs.declared.info.Ident.{Ident}

-- The identity of scripted machines.

-- a name of 65 bytes
abbrev pub filled_name : List ℕ → List ℕ
filled_name text = text ++ replicate (65 - length text) 0

-- Linux 6.1.0
unfoldable pub scripted_ident : Ident
scripted_ident = record {
  version_code = 393472;
  names = filled_name (codes "Linux") ∷ filled_name (codes "machine") ∷ filled_name (codes "6.1.0")
      ∷ filled_name (codes "#1")
      ∷ filled_name (codes "plain") ∷ filled_name (codes "(none)") ∷ [];
}

-- What the lines with settings say. Each line names one zone, bad slot, region or extent; there may be none.
pub record SettingsValue : Type 0 where
  pub zones : List (ℕ × ℕ)
  pub last : ℕ
  pub bad : List ℕ
  pub regions : List (ℕ × ℕ × ℕ)
  pub tables : Option (ℕ × ℕ)
  pub hw_sig : ℕ
  pub extents : List (ℕ × ℕ × ℕ)

-- what is given, or else the default
abbrev pub or_default : {A : Type 0} → List A → List A → List A
or_default [] default = default
or_default (x ∷ xs) default = x ∷ xs

-- the zones, or else page frames 0 to 4095
abbrev pub zones_by : SettingsValue → List (ℕ × ℕ)
zones_by s = or_default s.zones ((0, 4096) ∷ [])

abbrev pub lowest_frame : List (ℕ × ℕ) → ℕ
lowest_frame zones = unwrap_or (first_from (numbers zones) 0) 0

-- by default the frame table begins at the lowest page frame, and the slot table after it
abbrev pub tables_in : List (ℕ × ℕ) → ℕ × ℕ
tables_in zones = (lowest_frame zones, lowest_frame zones + table_len (top zones))

abbrev pub tables_by : SettingsValue → ℕ × ℕ
tables_by s = unwrap_or s.tables (tables_in (zones_by s))

-- The hardware that settings describe. Without an extent each slot lies on the block of its number.
abbrev pub hardware_by : SettingsValue → Hardware
hardware_by s = record {
  zones = zones_by s;
  slots = s.last + 1;
  frame_table = (tables_by s).0;
  slot_table = (tables_by s).1;
  regions = s.regions;
  ident = scripted_ident;
  hw_sig = s.hw_sig;
  extents = or_default s.extents ((0, s.last + 1, 0) ∷ []);
}

-- Settings describe no machine: the header block of an area names up to 630 bad slots (MAX_SWAP_BADPAGES), none above
-- the last, and the parts of the hardware must fit together.
unfoldable pub is_faulty : SettingsValue → Bool
is_faulty s = nat_lt 630 (length s.bad) || list_any (nat_lt s.last) s.bad || is_some (hard_fault (hardware_by s))

-- What fits.
