-- How far a source has been read, and why a reading stops.
use Rattle.std.specs.Prelude.{◌≡◌, ◌≤◌, ℕ, ⊤, List, length, drop, Option, Some}
use Rattle.core_machine.specs.declared.segments.fault.Fault.{Fault}
use Rattle.core_machine.specs.declared.segments.fault.Stop.{Stop}
use Rattle.core_machine.specs.declared.segments.fault.Stop.TheVariants as stop

-- of these bytes the first k were read, and the rest is left
pub record IsReadTo (bytes : List ℕ) (k : ℕ) (left : Option (List ℕ)) : Type 0 where
  pub within : k ≤ length bytes
  pub rest : left ≡ Some (drop k bytes)

-- A reported fault is the first one of the bytes. A failed source or refused memory says nothing about the bytes.
abbrev pub Stops : Option Fault → Stop → Type 0
Stops first (stop.Fault fault) = first ≡ Some fault
Stops first stop.Source = ⊤
Stops first stop.Memory = ⊤
