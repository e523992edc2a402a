-- The calls of a source or a sink in memory.
use Rattle.std.specs.Prelude.{Contains}
use Rattle.byte_streams.specs.declared.calls.Calls.{Calls}

-- the next call is one that must fail
abbrev pub IsDue : Calls → Type 0
IsDue calls = Contains calls.failing.items calls.made
