-- What the crates below say of page frames.
use Rattle.std.proofs.Common.{◌≡◌, ℕ, Bool, List, length, IsTrue, sym, ap, ap₂, ◌∙◌, subst, arith}
use Rattle.std.proofs.lemmas.Bool.Decides.{same_from_decides}
use Rattle.std.specs.List.{Contains}
use Rattle.definitions.specs.Tables.{saveable_frames, free_frames}
use Rattle.definitions.specs.Tables.{HasTable}
use Rattle.definitions.specs.Zones.{numbers, top}
use Rattle.definitions.proofs.ZoneLists.{Contains-saveable_frames, Contains-from_saveable_frames}
use Rattle.plain_machine.specs.Machine.{Hardware, Memory, IsHardware}
use Rattle.machine.proofs.Rows.{frame_table_fits}
use Rattle.frame_table.specs.Tests.{saveable_by_entry}

-- the frame table lies in memory
pub table_told : (h : Hardware) (m : Memory) (told : List (ℕ × ℕ)) (table : ℕ) → IsHardware h → length m ≡ top h.zones → told ≡ h.zones → table ≡ h.frame_table → HasTable m table (top told)
table_told h m told table hw size zones first =
    let fits = frame_table_fits h (top h.zones) hw (omega arith) in
    let same = ap top zones in
    omega (arith, fits, same, size, first)

-- what is told of a valid page frame is what its entry says
pub saveable_told : (zones told : List (ℕ × ℕ)) (table first : ℕ) (m : Memory) (p : ℕ) (r : Bool) → told ≡ zones → first ≡ table → Contains (numbers zones) p → ((IsTrue r → Contains (saveable_frames told first m) p) × (Contains (saveable_frames told first m) p → IsTrue r)) → r ≡ saveable_by_entry table m p
saveable_told zones told table first m p r e f in' tells =
    let valid = subst (λ (zs : List (ℕ × ℕ)). Contains (numbers zs) p) (sym e) in' in
    same_from_decides {P = Contains (saveable_frames told first m) p} r (saveable_by_entry first m p) tells
    (λ t. Contains-saveable_frames told first m p valid t, λ h. (Contains-from_saveable_frames told first m p h).1)
    ∙ ap (λ (k : ℕ). saveable_by_entry k m p) f

pub free_told : (zones told : List (ℕ × ℕ)) (table first : ℕ) (m : Memory) (n : ℕ) → told ≡ zones → first ≡ table → n ≡ length (free_frames told first m) → n ≡ length (free_frames zones table m)
free_told zones told table first m n e f is = is ∙ ap₂ (λ (zs : List (ℕ × ℕ)) (k : ℕ). length (free_frames zs k m)) e f
