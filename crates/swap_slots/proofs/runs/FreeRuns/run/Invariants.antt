use Rattle.std.proofs.Common.{◌≡◌, ◌+◌, ◌∷◌, ◌≤◌, drop}
use Rattle.definitions.specs.Zones.{numbers}
use Rattle.definitions.specs.FreeRuns.{runs_of}
use Rattle.swap_slots.specs.Runs.{from_slot}
use Rattle.swap_slots.proofs.runs.FreeRuns.run.Given as goal

-- `run` is the run with the counter's number, and the others are those of the slots after it
abbrev pub invariant-loop : goal.invariant-loop
invariant-loop l = record {
  within : l.run.0 + l.run.1 ≤ l.self.room;
  here : drop l.counter l.self.runs ≡ l.run ∷ runs_of (from_slot (l.run.0 + l.run.1) (numbers l.self.runs));
}
