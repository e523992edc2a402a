use Rattle.std.proofs.Common.{ap, ◌∙◌, arith}
use Rattle.frame_sets.specs.Places.{count_below}
use Rattle.frame_sets.proofs.Below.{count_below-zero}
use Rattle.plain_machine.specs.Image.{stream_of}
use Rattle.stream_out.specs.Bytes.{plain_image}
use Rattle.stream_out.proofs.Streams.{all_left}
use Rattle.stream_out.proofs.stream.StreamOut.begin.Goals as goal

pub invariant_of-result : goal.invariant_of-result
invariant_of-result c =
    let members = c.args.saveable.now.members in
    let page = c.begin.ensures.page in
    let at = c.begin.ensures.at in
    record {
      frames = c.requires.frames;
      saveable = c.requires.saveable;
      page = omega arith;
      at = omega arith;
      from = ap (count_below members) c.begin.ensures.from ∙ count_below-zero members ∙ omega arith;
      head = λ some. absurd (omega arith);
    }

pub returns-clause-stream : goal.returns-clause-stream
returns-clause-stream c = all_left (stream_of (plain_image c.args.hw.now c.args.frames.now)) c.begin.result c.begin.ensures.page c.begin.ensures.at
