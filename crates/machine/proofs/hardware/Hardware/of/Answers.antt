use Rattle.std.proofs.Common.{refl, sym, ◌∙◌, subst, arith}
use Rattle.std.proofs.lemmas.Bool.{false_from_ne_true, false≢true}
use Rattle.plain_machine.specs.Machine.{IsHardware}
use Rattle.machine.specs.HardFault.{hardware_of, is_zones, has_extents}
use Rattle.machine.specs.declared.hardware.HardFault.TheVariants as fault
use Rattle.machine.proofs.HardFaults.{fault_extents, fault_regions, fault_slots, fault_tables, fault_zones, hardware-no_fault, no_fault, refuses}
use Rattle.machine.proofs.KeptParts.{same_parts}
use Rattle.machine.proofs.PartTests.{decides_extents, decides_zones}
use Rattle.machine.proofs.hardware.Hardware.of.Goals as goal

-- Zones that `of` refuses are none, and likewise extents.

pub returns-in_default-clause-refused : goal.returns-in_default-clause-refused
returns-in_default-clause-refused c =
    let h = hardware_of c.args.parts.now in
    fault_zones h (false_from_ne_true (is_zones h) (λ e. false≢true (c.in_default.ensures.ok.1 ((decides_zones h).0 e))))

pub returns-in_default-clause-ok : goal.returns-in_default-clause-ok
returns-in_default-clause-ok c =
    let h = hardware_of c.args.parts.now in
    refuses h fault.Zones (fault_zones h (false_from_ne_true (is_zones h) (λ e. false≢true (c.in_default.ensures.ok.1 ((decides_zones h).0 e)))))

pub returns-then-not-has_slots-clause-refused : goal.returns-then-not-has_slots-clause-refused
returns-then-not-has_slots-clause-refused c =
    let h = hardware_of c.args.parts.now in
    fault_slots h ((decides_zones h).1 (c.in-Ok.ensures.ok.0 refl)) (sym c.has_slots.ensures ∙ c.if-not-has_slots.true)

pub returns-then-not-has_slots-clause-ok : goal.returns-then-not-has_slots-clause-ok
returns-then-not-has_slots-clause-ok c =
    let h = hardware_of c.args.parts.now in
    refuses h fault.Slots (fault_slots h ((decides_zones h).1 (c.in-Ok.ensures.ok.0 refl)) (sym c.has_slots.ensures ∙ c.if-not-has_slots.true))

pub returns-then-not-has_tables-clause-refused : goal.returns-then-not-has_tables-clause-refused
returns-then-not-has_tables-clause-refused c =
    let h = hardware_of c.args.parts.now in
    fault_tables h ((decides_zones h).1 (c.in-Ok.ensures.ok.0 refl)) (sym c.has_slots.ensures ∙ c.if-not-has_slots.false) (sym c.has_tables.ensures ∙ c.if-not-has_tables.true)

pub returns-then-not-has_tables-clause-ok : goal.returns-then-not-has_tables-clause-ok
returns-then-not-has_tables-clause-ok c =
    let h = hardware_of c.args.parts.now in
    refuses h fault.Tables
    (fault_tables h ((decides_zones h).1 (c.in-Ok.ensures.ok.0 refl)) (sym c.has_slots.ensures ∙ c.if-not-has_slots.false) (sym c.has_tables.ensures ∙ c.if-not-has_tables.true))

pub returns-then-not-has_regions-clause-refused : goal.returns-then-not-has_regions-clause-refused
returns-then-not-has_regions-clause-refused c =
    let h = hardware_of c.args.parts.now in
    fault_regions h ((decides_zones h).1 (c.in-Ok.ensures.ok.0 refl)) (sym c.has_slots.ensures ∙ c.if-not-has_slots.false)
    (sym c.has_tables.ensures ∙ c.if-not-has_tables.false) (sym c.has_regions.ensures ∙ c.if-not-has_regions.true)

pub returns-then-not-has_regions-clause-ok : goal.returns-then-not-has_regions-clause-ok
returns-then-not-has_regions-clause-ok c =
    let h = hardware_of c.args.parts.now in
    refuses h fault.Regions
    (fault_regions h ((decides_zones h).1 (c.in-Ok.ensures.ok.0 refl)) (sym c.has_slots.ensures ∙ c.if-not-has_slots.false)
    (sym c.has_tables.ensures ∙ c.if-not-has_tables.false) (sym c.has_regions.ensures ∙ c.if-not-has_regions.true))

pub returns-in_default-of-clause-refused : goal.returns-in_default-of-clause-refused
returns-in_default-of-clause-refused c =
    let h = hardware_of c.args.parts.now in
    fault_extents h ((decides_zones h).1 (c.in-Ok.ensures.ok.0 refl)) (sym c.has_slots.ensures ∙ c.if-not-has_slots.false)
    (sym c.has_tables.ensures ∙ c.if-not-has_tables.false) (sym c.has_regions.ensures ∙ c.if-not-has_regions.false)
    (false_from_ne_true (has_extents h) (λ e. false≢true (c.in_default-of.ensures.ok.1 ((decides_extents h).0 e))))

pub returns-in_default-of-clause-ok : goal.returns-in_default-of-clause-ok
returns-in_default-of-clause-ok c =
    let h = hardware_of c.args.parts.now in
    refuses h fault.Extents
    (fault_extents h ((decides_zones h).1 (c.in-Ok.ensures.ok.0 refl)) (sym c.has_slots.ensures ∙ c.if-not-has_slots.false)
    (sym c.has_tables.ensures ∙ c.if-not-has_tables.false) (sym c.has_regions.ensures ∙ c.if-not-has_regions.false)
    (false_from_ne_true (has_extents h) (λ e. false≢true (c.in_default-of.ensures.ok.1 ((decides_extents h).0 e)))))

-- All five are in order.

pub returns-clause-ok : goal.returns-clause-ok
returns-clause-ok c =
    let h = hardware_of c.args.parts.now in (
      λ ok. no_fault h ((decides_zones h).1 (c.in-Ok.ensures.ok.0 refl)) (sym c.has_slots.ensures ∙ c.if-not-has_slots.false)
          (sym c.has_tables.ensures ∙ c.if-not-has_tables.false) (sym c.has_regions.ensures ∙ c.if-not-has_regions.false) ((decides_extents h).1 (c.in-Ok-of.ensures.ok.0 refl)),
      λ none. refl,
    )

pub returns-clause-is : goal.returns-clause-is
returns-clause-is c = λ ok.
    let h = hardware_of c.args.parts.now in
    let none =
    no_fault h ((decides_zones h).1 (c.in-Ok.ensures.ok.0 refl)) (sym c.has_slots.ensures ∙ c.if-not-has_slots.false) (sym c.has_tables.ensures ∙ c.if-not-has_tables.false)
    (sym c.has_regions.ensures ∙ c.if-not-has_regions.false) ((decides_extents h).1 (c.in-Ok-of.ensures.ok.0 refl)) in
    hardware-no_fault h none c.of_its_type.ensures.ident (omega arith)

pub invariant_of-result : goal.invariant_of-result
invariant_of-result c =
    let h = hardware_of c.args.parts.now in
    let same = same_parts h c.in-Ok.zones c.of-3.result c.of_its_type.result.now c.in-Ok-of.extents c.in-Ok.ensures.zones c.of-3.ensures c.of_its_type.ensures.same c.in-Ok-of.ensures.map in
    let none =
    no_fault h ((decides_zones h).1 (c.in-Ok.ensures.ok.0 refl)) (sym c.has_slots.ensures ∙ c.if-not-has_slots.false) (sym c.has_tables.ensures ∙ c.if-not-has_tables.false)
    (sym c.has_regions.ensures ∙ c.if-not-has_regions.false) ((decides_extents h).1 (c.in-Ok-of.ensures.ok.0 refl)) in
    record { hardware = subst IsHardware (sym same) (hardware-no_fault h none c.of_its_type.ensures.ident (omega arith)) }
