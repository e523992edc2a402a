-- Laws of the slots that are kept.
use Rattle.std.proofs.Common.{◌≡◌, ◌||◌, ◌&&◌, ℕ, ◌^◌, ◌<◌, Bool, true, false, cond, not, refl, sym, ap, subst, arith, eqb}
use Rattle.plain_machine.specs.Machine.{Hardware, Memory, IsHardware, Fits, is_slot_entry, raw_slot_entry}
use Rattle.plain_machine.specs.FreshMemory.{fresh_memory}
use Rattle.plain_machine.proofs.Fresh.{fits-fresh_memory}
use Rattle.dump_tools.specs.KeptSlots.{kept_entry, kept_slot}

-- such an entry is small, and one that a slot may have
small_by : (b : Bool) → cond b 131072 0 < 2 ^ 32
small_by true = omega arith
small_by false = omega arith

small : (s before : ℕ) → kept_entry s before < 2 ^ 32
small s before = small_by (eqb s 0 || eqb before 131072)

well_by : (s : ℕ) (first b : Bool) → eqb s 0 ≡ first → is_slot_entry s (cond (first || b) 131072 0) ≡ true
well_by s true b e = refl
well_by s false true e = refl
well_by s false false e = ap (λ (t : Bool). not t && true) e

well : (s before : ℕ) → is_slot_entry s (kept_entry s before) ≡ true
well s before = well_by s (eqb s 0) (eqb before 131072) refl

pub fits_kept : (h : Hardware) (before m : Memory) → IsHardware h → m ≡ fresh_memory h (kept_slot h before) → Fits h m
fits_kept h before m hw is =
    subst (Fits h) (sym is)
    (fits-fresh_memory h (kept_slot h before) hw (λ s. small s (raw_slot_entry h before s)) (λ s. well s (raw_slot_entry h before s)))
