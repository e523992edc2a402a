-- How a machine's hardware is kept.
use Rattle.std.specs.Prelude.{◌≡◌, refl}
use Rattle.plain_machine.specs.Machine.{Hardware, IsHardware}
use Rattle.machine.specs.declared.hardware.Hardware.TheInside.{Inside}

abbrev pub kept_hardware : Inside → Hardware
kept_hardware a = record {
  zones = a.zones;
  slots = a.slots;
  frame_table = a.frame_table;
  slot_table = a.slot_table;
  regions = a.regions;
  ident = a.ident;
  hw_sig = a.hw_sig;
  extents = a.extents;
}

-- its parts fit together
pub record IsKept (a : Inside) : Type 0 where
  pub hardware : IsHardware (kept_hardware a)

abbrev pub kept_as : Hardware → Inside
kept_as h = record {
  zones = h.zones;
  slots = h.slots;
  frame_table = h.frame_table;
  slot_table = h.slot_table;
  regions = h.regions;
  ident = h.ident;
  hw_sig = h.hw_sig;
  extents = h.extents;
}

pub kept_as-kept_hardware : (a : Inside) → IsKept a → kept_as (kept_hardware a) ≡ a
kept_as-kept_hardware a h = refl
