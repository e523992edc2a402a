-- Why there is no dump, by what stopped its parts.
use Rattle.std.specs.Prelude.{◌≡◌, ⊤, Option, Some}
use Rattle.core_machine.specs.declared.segments.fault.Fault.{Fault}
use Rattle.core_machine.specs.declared.segments.fault.Stop.{Stop as CoreStop}
use Rattle.core_machine.specs.declared.segments.fault.Stop.TheVariants as core
use Rattle.image_machine.specs.declared.limit.Stop.{Stop as MachineStop}
use Rattle.image_machine.specs.declared.limit.Stop.TheVariants as machine
use Rattle.core_machine.specs.declared.stop.Stop.{Stop}
use Rattle.core_machine.specs.declared.stop.Stop.TheVariants as stop

abbrev pub core_stop : CoreStop → Stop
core_stop (core.Fault fault) = stop.Core fault
core_stop core.Source = stop.Source
core_stop core.Memory = stop.Memory

abbrev pub machine_stop : MachineStop → Stop
machine_stop (machine.Limit limit) = stop.Limit limit
machine_stop machine.Memory = stop.Memory

-- A fault is the first one of the bytes, and no limit is violated.
abbrev pub StopsIn : Option Fault → Stop → Type 0
StopsIn first (stop.Core fault) = first ≡ Some fault
StopsIn first (stop.Limit limit) = ⊥
StopsIn first stop.Source = ⊤
StopsIn first stop.Memory = ⊤
