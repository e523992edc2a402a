-- The names of faults, as a note prints them.
use Rattle.std.specs.Prelude.{ℕ, List, codes}
use Rattle.script.specs.declared.fault.FaultKind.{FaultKind}
use Rattle.script.specs.declared.fault.FaultKind.TheVariants.{TooLong, Byte, Word, Late, Count, Number, Range, Events}
use Rattle.script.specs.declared.fault.FaultKind.TheVariants.{Hardware}

abbrev pub kind_name : FaultKind → List ℕ
kind_name TooLong = codes "TooLong"
kind_name Byte = codes "Byte"
kind_name Word = codes "Word"
kind_name Late = codes "Late"
kind_name Count = codes "Count"
kind_name Number = codes "Number"
kind_name Range = codes "Range"
kind_name Events = codes "Events"
kind_name Hardware = codes "Hardware"
