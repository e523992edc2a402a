-- Which part of a machine is the first at fault.
use Rattle.std.proofs.Common.{◌≡◌, ◌^◌, ◌<◌, ◌≤◌, ◌↔◌, Bool, true, false, not, cond, Option, Some, None, refl, sym, ap, ◌∙◌, inl, inr, arith}
use Rattle.std.proofs.lemmas.Bool.{cases_Bool, false≢true}
use Rattle.std.proofs.lemmas.Option.{none-some}
use Rattle.definitions.specs.FileMaps.{IsFileMap}
use Rattle.definitions.specs.ZoneFacts.{AreZones}
use Rattle.plain_machine.specs.Machine.{Hardware, IsHardware, IsIdent}
use Rattle.machine.specs.HardFault.{hard_fault, has_extents, has_regions, has_slots, has_tables, is_zones}
use Rattle.machine.specs.declared.hardware.HardFault.{HardFault}
use Rattle.machine.specs.declared.hardware.HardFault.TheVariants as fault
use Rattle.machine.proofs.PartTests.{HasRegions, HasTables, decides_extents, decides_regions, decides_slots, decides_tables, decides_zones, some_frames}

-- the first of five tests that fails
in_order : Bool → Bool → Bool → Bool → Bool → Option HardFault
in_order zones slots tables regions extents =
    cond (not zones) (Some fault.Zones)
    (cond (not slots) (Some fault.Slots)
    (cond (not tables) (Some fault.Tables) (cond (not regions) (Some fault.Regions) (cond (not extents) (Some fault.Extents) None))))

fault_is : (h : Hardware) (z s t r e : Bool) → is_zones h ≡ z → has_slots h ≡ s → has_tables h ≡ t → has_regions h ≡ r → has_extents h ≡ e → hard_fault h ≡ in_order z s t r e
unfolding hard_fault in_order
fault_is h z s t r e zones slots tables regions extents =
    ap (λ (b : Bool). in_order b (has_slots h) (has_tables h) (has_regions h) (has_extents h)) zones
    ∙ ap (λ (b : Bool). in_order z b (has_tables h) (has_regions h) (has_extents h)) slots
    ∙ ap (λ (b : Bool). in_order z s b (has_regions h) (has_extents h)) tables
    ∙ ap (λ (b : Bool). in_order z s t b (has_extents h)) regions
    ∙ ap (in_order z s t r) extents

pub fault_zones : (h : Hardware) → is_zones h ≡ false → hard_fault h ≡ Some fault.Zones
unfolding in_order
fault_zones h z = fault_is h false (has_slots h) (has_tables h) (has_regions h) (has_extents h) z refl refl refl refl

pub fault_slots : (h : Hardware) → is_zones h ≡ true → has_slots h ≡ false → hard_fault h ≡ Some fault.Slots
unfolding in_order
fault_slots h z s = fault_is h true false (has_tables h) (has_regions h) (has_extents h) z s refl refl refl

pub fault_tables : (h : Hardware) → is_zones h ≡ true → has_slots h ≡ true → has_tables h ≡ false → hard_fault h ≡ Some fault.Tables
unfolding in_order
fault_tables h z s t = fault_is h true true false (has_regions h) (has_extents h) z s t refl refl

pub fault_regions : (h : Hardware) → is_zones h ≡ true → has_slots h ≡ true → has_tables h ≡ true → has_regions h ≡ false → hard_fault h ≡ Some fault.Regions
unfolding in_order
fault_regions h z s t r = fault_is h true true true false (has_extents h) z s t r refl

pub fault_extents : (h : Hardware) → is_zones h ≡ true → has_slots h ≡ true → has_tables h ≡ true → has_regions h ≡ true → has_extents h ≡ false → hard_fault h ≡ Some fault.Extents
unfolding in_order
fault_extents h z s t r e = fault_is h true true true true false z s t r e

pub no_fault : (h : Hardware) → is_zones h ≡ true → has_slots h ≡ true → has_tables h ≡ true → has_regions h ≡ true → has_extents h ≡ true → hard_fault h ≡ None
unfolding in_order
no_fault h z s t r e = fault_is h true true true true true z s t r e

-- a machine with a fault is refused
pub refuses : (h : Hardware) (f : HardFault) → hard_fault h ≡ Some f → (false ≡ true) ↔ (hard_fault h ≡ None)
refuses h f e = (λ never. absurd (false≢true never), λ none. absurd (none-some f (sym none ∙ e)))

-- there is no fault if and only if all five tests pass
passes : (h : Hardware) (b : Bool) (f : HardFault) → hard_fault h ≡ None → (b ≡ false → hard_fault h ≡ Some f) → b ≡ true
passes h b f none fails = elim (cases_Bool b) [ inl e ↦ e | inr e ↦ absurd (none-some f (sym none ∙ fails e)) ]

-- Tests that pass make a hardware.

hardware_by : (h : Hardware) → AreZones h.zones → (2 ≤ h.slots) × (h.slots ≤ 131072) → HasTables h → HasRegions h → IsFileMap h.extents h.slots → IsIdent h.ident → h.hw_sig < 2 ^ 32 → IsHardware h
hardware_by h zones slots tables regions map ident signature = record {
  zones = zones;
  some_slots = slots.0;
  few_slots = slots.1;
  frame_table = tables.frame_table;
  slot_table = tables.slot_table;
  apart = tables.apart;
  few_regions = regions.few;
  regions = regions.each;
  regions_apart = regions.apart;
  map = map;
  ident = ident;
  signature = signature;
}

-- no part at fault, an identity of its type and a signature of 32 bits make a hardware
pub hardware-no_fault : (h : Hardware) → hard_fault h ≡ None → IsIdent h.ident → h.hw_sig < 2 ^ 32 → IsHardware h
hardware-no_fault h none ident signature =
    let z = passes h (is_zones h) fault.Zones none (fault_zones h) in
    let s = passes h (has_slots h) fault.Slots none (fault_slots h z) in
    let t = passes h (has_tables h) fault.Tables none (fault_tables h z s) in
    let r = passes h (has_regions h) fault.Regions none (fault_regions h z s t) in
    let e = passes h (has_extents h) fault.Extents none (fault_extents h z s t r) in
    let zones = (decides_zones h).0 z in
    let slots = (decides_slots h).0 s in
    let some = slots.0 in
    hardware_by h zones slots ((decides_tables h (some_frames h zones) (omega arith)).0 t) ((decides_regions h).0 r) ((decides_extents h).0 e) ident signature

-- a hardware has no part at fault
pub no_fault-hardware : (h : Hardware) → IsHardware h → hard_fault h ≡ None
no_fault-hardware h hw =
    let some = hw.some_slots in
    no_fault h ((decides_zones h).1 hw.zones) ((decides_slots h).1 (hw.some_slots, hw.few_slots))
    ((decides_tables h (some_frames h hw.zones) (omega arith)).1 (record { frame_table = hw.frame_table; slot_table = hw.slot_table; apart = hw.apart }))
    ((decides_regions h).1 (record { few = hw.few_regions; each = hw.regions; apart = hw.regions_apart }))
    ((decides_extents h).1 hw.map)
