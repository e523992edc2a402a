use Rattle.std.proofs.Common.{ℕ, ◌-◌, List, ◌++◌, length, take, drop, ap, ◌∙◌, arith}
use Rattle.std.proofs.lemmas.List.{drop-drop, length-drop, length-take}
use Rattle.stream_out.proofs.Pieces.{part_put}
use Rattle.stream_out.proofs.stream.StreamOut.next.Goals as goal

pub loop-filled-preserved : goal.loop-filled-preserved
loop-filled-preserved c =
    let before = c.loop-filled.invariant in
    let filled = c.loop-filled.filled in
    let count = c.next_of_page-count.result in
    let stream = c.args.self.now in
    let were = c.next_of_page-count.ensures.were_left in
    let fit = c.next_of_page-count.ensures.fit in
    record {
      fits = let size = c.loop-filled.auto.into in omega (arith, length-take (length c.loop-filled.into - filled) (drop filled c.loop-filled.into), length-drop filled c.loop-filled.into);
      were_left = omega (arith, ap length before.left, length-drop filled stream, before.were_left);
      left = c.next_of_page-count.ensures.left ∙ ap (drop count) before.left ∙ drop-drop count filled stream;
      bytes = part_put stream c.args.into.now c.loop-filled.into c.next_of_page-count.new.into filled count before.were_left before.bytes
          (c.next_of_page-count.ensures.bytes ∙ ap (λ (xs : List ℕ). take count xs ++ drop count (take (length c.loop-filled.into - filled) (drop filled c.loop-filled.into))) before.left);
    }
