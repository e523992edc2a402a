use Rattle.std.proofs.Common.{ℕ, ◌-◌, length, option_copied}
use Rattle.image_write.specs.Copies.{IsPassed}
use Rattle.frame_sets.specs.Places.{members_in}
use Rattle.image_write.proofs.copies.Cursor.next.Given as goal

abbrev pub invariant-pairs : goal.invariant-pairs
invariant-pairs l =
    (found : ℕ) → IsPassed l.origs.members l.copies.members (members_in (option_copied l.zeros)) l.initial.self.orig l.initial.self.copy l.initial.self.passed found
    → IsPassed l.origs.members l.copies.members (members_in (option_copied l.zeros)) l.self.orig l.self.copy l.self.passed found

abbrev pub decreases-pairs : goal.decreases-pairs
decreases-pairs l = length l.origs.members - l.self.passed
