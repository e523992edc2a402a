-- The slots of an area's fresh memory.
use Rattle.std.proofs.Common.{◌≡◌, ℕ, subst, sym, ◌^◌, ◌<◌, ◌&&◌, Bool, true, false, not, cond, refl, ap, ◌∙◌, eqb, arith}
use Rattle.std.proofs.lemmas.Bool.{eqb-true, false≢true}
use Rattle.std.specs.Prelude.{Ok}
use Rattle.image_format.specs.declared.signature.area.Area.{Area}
use Rattle.plain_machine.specs.Loader.{has}
use Rattle.plain_machine.specs.Machine.{Hardware, Memory, Fits, IsHardware, is_slot_entry}
use Rattle.plain_machine.specs.FreshMemory.{fresh_memory}
use Rattle.plain_machine.specs.UsableArea.{bad_slots_of}
use Rattle.plain_machine.proofs.Fresh.{fits-fresh_memory}
use Rattle.machine.specs.FreshSlots.{slot_of_area}

small_by : (b : Bool) → cond b 131072 0 < 2 ^ 32
small_by true = omega arith
small_by false = omega arith

pub slots_small : (area : Area) (s : ℕ) → slot_of_area (Ok area) s < 2 ^ 32
slots_small area s = small_by (has (bad_slots_of area) s)

-- slot 0 is bad, and each other one is bad or free
well_by : (area : Area) (s : ℕ) (first bad : Bool) → eqb s 0 ≡ first → has (bad_slots_of area) s ≡ bad →
    is_slot_entry s (cond bad 131072 0) ≡ true
well_by area s first true is e = refl
well_by area s false false is e = ap (λ (t : Bool). not t && true) is
well_by area s true false is e =
    absurd (false≢true (sym e ∙ ap (λ (k : ℕ). has (bad_slots_of area) k) (eqb-true s 0 is)))

pub slots_well : (area : Area) (s : ℕ) → is_slot_entry s (slot_of_area (Ok area) s) ≡ true
slots_well area s = well_by area s (eqb s 0) (has (bad_slots_of area) s) refl refl

pub fits_fresh : (h : Hardware) (area : Area) (m : Memory) → IsHardware h → m ≡ fresh_memory h (slot_of_area (Ok area)) → Fits h m
fits_fresh h area m hw is =
    subst (Fits h) (sym is) (fits-fresh_memory h (slot_of_area (Ok area)) hw (slots_small area) (slots_well area))
