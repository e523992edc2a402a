-- From why one of two dumps wasn't read to what is printed about it.
use Rattle.std.proofs.Common.{◌⊎◌, inl, inr, ℕ, List, Option, refl}
use Rattle.dump_file.specs.Dump.{DumpValue}
use Rattle.swsusp_cli.proofs.Causes.{stop_cause}
use Rattle.swsusp_cli.specs.Stops.{IsStopTold, LacksDump}
use Rattle.command_kit.proofs.Causes.{cause_since}
use Rattle.command_kit.specs.Causes.{HasCause}
use Rattle.command_kit.specs.View.{SinkView}
use Rattle.command_kit.specs.declared.status.Status.{Status}
use Rattle.swsusp_cli.specs.declared.stop.Stop.{Stop}
use Rattle.swsusp_cli.specs.declared.stop.Stop.TheVariants.{Source, Memory, Script, Dump}
use Rattle.machine_cli.specs.Compared.{Compares, IsOf, no_first, no_second, out_of_memory, unread}

pub lacks_first : (first first' second : Option (List ℕ)) (status : Status) (out out' note note' : SinkView) (stop : Stop) → LacksDump first first' stop → IsStopTold stop status out out' note note' →
    Compares first first' second second status out out' note note'
lacks_first first first' second status out out' note note' Source lacks told = unread told.0 told.1 told.2
lacks_first first first' second status out out' note note' Memory lacks told = out_of_memory told
lacks_first first first' second status out out' note note' (Script fault) lacks told = absurd lacks
lacks_first first first' second status out out' note note' (Dump fault) lacks told = no_first fault lacks refl told

pub lacks_second : (first first' second second' : Option (List ℕ)) (a : DumpValue) (status : Status) (out out' note note' : SinkView) (stop : Stop) → IsOf first first' a → LacksDump second second' stop →
    IsStopTold stop status out out' note note' → Compares first first' second second' status out out' note note'
lacks_second first first' second second' a status out out' note note' Source is lacks told = unread told.0 told.1 told.2
lacks_second first first' second second' a status out out' note note' Memory is lacks told = out_of_memory told
lacks_second first first' second second' a status out out' note note' (Script fault) is lacks told = absurd lacks
lacks_second first first' second second' a status out out' note note' (Dump fault) is lacks told = no_second a fault is lacks told

-- whose failure the status says: that of the first input, or of the second
first_or : {first second outputs : Type 0} → first ⊎ outputs → first ⊎ second ⊎ outputs
first_or (inl first) = inl first
first_or (inr outputs) = inr (inr outputs)

pub first_cause : {source first second outputs : Type 0} (status : Status) → HasCause (source ⊎ outputs) ⊥ status → (source → first) → HasCause (first ⊎ second ⊎ outputs) ⊥ status
first_cause {first = first} {outputs = outputs} status cause failed =
    let one : HasCause (first ⊎ outputs) ⊥ status = stop_cause status cause failed in
    cause_since status first_or (λ none. none) one

pub second_cause : {source first second outputs : Type 0} (status : Status) → HasCause (source ⊎ outputs) ⊥ status → (source → second) → HasCause (first ⊎ second ⊎ outputs) ⊥ status
second_cause {second = second} {outputs = outputs} status cause failed =
    let other : HasCause (second ⊎ outputs) ⊥ status = stop_cause status cause failed in
    cause_since status (λ streams. inr streams) (λ none. none) other
