use Rattle.std.proofs.Common.{◌≡◌, ℕ, List, Option, length}
use Rattle.definitions.specs.Disk.{Content}
use Rattle.image_check.specs.declared.finding.Finding.{Finding}
use Rattle.image_walk.specs.Walking.{unread_left}
use Rattle.boot_check.specs.Named.{HasNamed}
use Rattle.boot_check.proofs.Named.{Goes}
use Rattle.boot_check.proofs.names.Names.go_on.Given as goal

abbrev pub invariant-loop-named : goal.invariant-loop-named
invariant-loop-named g l = record {
  so_far : (content : Option Content) (faults first : ℕ) (asked : List ℕ) (found : List Finding) → HasNamed content faults first l.initial.self l.initial.words asked found → Goes content faults first l.self l.words asked found (g.R.Report.told l.initial.report) (g.R.Report.told l.report);
  limits : l.self.limits ≡ l.initial.self.limits;
  format : l.self.format ≡ l.initial.self.format;
  room : length l.words ≡ length l.initial.words;
}

abbrev pub decreases-loop-named : goal.decreases-loop-named
decreases-loop-named g l = unread_left l.self.walk
