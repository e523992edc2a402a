use Rattle.std.proofs.Common.{◌≡◌, drop}
use Rattle.std.specs.List.{find}
use Rattle.std.specs.Str.{bytes_eq}
use Rattle.script.proofs.first_words.beside.Given as goal

abbrev pub invariant-loop-name : goal.invariant-loop-name
invariant-loop-name g l = find (λ row. bytes_eq row.0.now l.word) (drop l.name-index l.table) ≡ find (λ row. bytes_eq row.0.now l.word) l.table
