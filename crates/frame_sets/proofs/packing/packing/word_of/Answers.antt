use Rattle.std.proofs.Common.{refl, arith}
use Rattle.frame_sets.proofs.Walk.{is_word}
use Rattle.frame_sets.proofs.packing.packing.word_of.Goals as goal

pub returns : goal.returns
returns c =
    let lt = c.requires.within in
    is_word c.args.set.now c.words.result.now c.args.w _ c.requires.set (omega arith) (omega arith) c.words.ensures refl
