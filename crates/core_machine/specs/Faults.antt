-- The first fault of several.
use Rattle.std.specs.Prelude.{ℕ, nat_le, Bool, List, length, Option, Some, None, Result, Ok, Err, if◌then◌else◌}
use Rattle.core_machine.specs.declared.segments.fault.Fault.{Fault}
use Rattle.core_machine.specs.declared.segments.fault.Fault.TheVariants.{Short}

-- the fault that a result names
abbrev pub fault_in : {A : Type 0} → Result A Fault → Option Fault
fault_in (Ok x) = None
fault_in (Err fault) = Some fault

-- a fault, unless the test passes
abbrev pub unless : Bool → Fault → Option Fault
unless test fault = if test then None else Some fault

-- The first n bytes are wanted: if there are fewer, the file ends too early.
abbrev pub wanted : List ℕ → ℕ → Option Fault
wanted bytes n = unless (nat_le n (length bytes)) (Short (length bytes))
