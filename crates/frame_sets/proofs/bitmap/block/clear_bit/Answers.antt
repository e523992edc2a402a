use Rattle.std.proofs.Common.{get_or, length, ◌<◌, ◌/◌, ◌%◌, arith, w64}
use Rattle.std.proofs.lemmas.Nat.Bits.{bit_at_clear_same, bit_at_clear_other}
use Rattle.frame_sets.proofs.Words.{is_set, changes_bit}
use Rattle.frame_sets.proofs.bitmap.block.clear_bit.Goals as goal

pub returns-clause-was : goal.returns-clause-was
returns-clause-was c = is_set (get_or c.args.block.now (c.args.k / 64) 0) (c.args.k % 64) (omega arith)

pub returns-clause-after : goal.returns-clause-after
returns-clause-after c =
    let words = c.args.block.now in
    let k = c.args.k in
    let l : k / 64 < length words = omega arith in
    let within : k % 64 < 64 = omega arith in
    changes_bit words k _ 0 l
    (bit_at_clear_same w64 (get_or words (k / 64) 0) (k % 64) within)
    (λ i lt ne. bit_at_clear_other w64 (get_or words (k / 64) 0) (k % 64) within i lt ne)
