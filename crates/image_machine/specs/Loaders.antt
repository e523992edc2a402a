-- The loader of an image: a machine that has just booted, into which the image can be resumed.
use Rattle.std.specs.Prelude.{◌≡◌, ◌≤◌, ℕ, List, [], length, Some, Contains, Ok}
use Rattle.definitions.specs.Slots.{extent_at}
use Rattle.definitions.specs.Zones.{numbers}
use Rattle.machine.specs.FreshSlots.{slot_of_area}
use Rattle.plain_machine.specs.FreshMemory.{fresh_memory}
use Rattle.plain_machine.specs.Loader.{need}
use Rattle.plain_machine.specs.Machine.{Fits, Hardware, IsHardware, IsTableFrame, Memory, unused}
use Rattle.image_machine.specs.Layouts.{extents_of, frame_row, slot_row, slots_of, zones_of}
use Rattle.image_machine.specs.declared.heading.Heading.{Heading}
use Rattle.image_machine.specs.declared.heading.Layout.{Layout}

-- the hardware with tables that begin at these page frames
abbrev pub hardware_with : Heading → Layout → ℕ → ℕ → Hardware
hardware_with heading layout frame_table slot_table = record {
  zones = zones_of heading layout;
  slots = slots_of heading;
  frame_table = frame_table;
  slot_table = slot_table;
  regions = [];
  ident = heading.ident;
  hw_sig = heading.hw_sig;
  extents = extents_of heading layout;
}

-- The machine is as the image says, its tables lie in page frames that the image doesn't save, its memory is that of a
-- boot, and it has as many free page frames as a resume needs. What a resume compares is the same: the number of page
-- frames, and the block of slot 0.
pub record IsLoaderFor (heading : Heading) (layout : Layout) (saved : List ℕ) (h : Hardware) (m : Memory) : Type 0 where
  pub is : h ≡ hardware_with heading layout h.frame_table h.slot_table
  pub frame_table : frame_row h.zones saved ≡ Some h.frame_table
  pub slot_table : slot_row h.zones saved h.slots h.frame_table ≡ Some h.slot_table
  pub hardware : IsHardware h
  pub memory : m ≡ fresh_memory h (slot_of_area (Ok heading.area))
  pub fits : Fits h m
  pub pages : length (numbers h.zones) ≡ heading.physpages
  pub header : (extent_at h.extents 0).2 ≡ layout.offset
  pub inside : (p : ℕ) → Contains saved p → Contains (numbers h.zones) p
  pub unsaved : (p : ℕ) → IsTableFrame h p → Contains saved p → ⊥
  pub room : need (length saved) ≤ length (unused h m)
