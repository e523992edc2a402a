use Rattle.frame_sets.proofs.PackedWords.{span_of}
use Rattle.frame_sets.proofs.packing.packing.width.Goals as goal

pub overflow_sub-result-2 : goal.overflow_sub-result-2
overflow_sub-result-2 c = (span_of c.args.word c.requires c.ranges.word.fits).0

pub returns : goal.returns
returns c = (_, (span_of c.args.word c.requires c.ranges.word.fits).1)
