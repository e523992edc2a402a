use Rattle.std.proofs.Common.{◌≡◌, ◌^◌, ◌<◌, take}
use Rattle.std.specs.Str.Parse.{digits_value, AllDigits}
use Rattle.script.proofs.words.number_of.Given as goal

-- what is read so far are digits, and the number that they are
abbrev pub invariant-loop-b : goal.invariant-loop-b
invariant-loop-b l = AllDigits 10 (take l.b-index l.word) × (l.number ≡ digits_value 10 (take l.b-index l.word)) × (l.number < 2 ^ 64)
