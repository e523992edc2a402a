use Rattle.std.proofs.Common.{◌*◌}
use Rattle.swap_slots.specs.Bits.{AllClear}
use Rattle.swap_slots.proofs.words.first_bit.Given as goal

abbrev pub invariant-loop-w : goal.invariant-loop-w
invariant-loop-w l = AllClear l.words (64 * l.from) (64 * l.w)
