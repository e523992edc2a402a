use Rattle.std.proofs.Common.{◌≡◌, ℕ, ◌<◌, ◌≤◌, take, drop, length, None}
use Rattle.script.specs.Grammar.{events_in, settings_in, fault_at, lines_in, lines_of}
use Rattle.script.specs.Reading.{IsOfLines}
use Rattle.script.proofs.reading.parse.Given as goal

abbrev pub invariant-loop-left : goal.invariant-loop-left
invariant-loop-left l = record {
  left : lines_in l.left ≡ drop l.number (lines_of l.bytes);
  few : l.number ≤ length (lines_of l.bytes);
  settings : l.reader.settings ≡ settings_in (take l.number (lines_of l.bytes));
  events : l.reader.events ≡ events_in (take l.number (lines_of l.bytes));
  reading : IsOfLines l.reader;
  no_fault : (j : ℕ) → j < l.number → fault_at (lines_of l.bytes) j ≡ None;
}

abbrev pub decreases-loop-left : goal.decreases-loop-left
decreases-loop-left l = length (lines_in l.left)
