use Rattle.std.proofs.Common.{◌≤◌, List, ℕ, arith, length, drop, subst}
use Rattle.std.proofs.lemmas.List.{take_rest, length-drop}
use Rattle.definitions.specs.Streams.{Takes}
use Rattle.definitions.proofs.Pieces.{Takes-more}
use Rattle.byte_streams.proofs.put.put_all.Goals as goal

pub loop-at-preserved : goal.loop-at-preserved
loop-at-preserved g c =
    let text = c.args.text.now in
    let at = c.loop-at.at in
    let before = g.K.Sink.taken c.loop-at.sink in
    let after = g.K.Sink.taken c.write.new.self in
    let count : c.in_ok-count.count ≤ length (drop at text) =
    subst (λ (piece : List ℕ). c.in_ok-count.count ≤ length piece) (take_rest text at) c.in_ok-count.ensures.count in
    record {
      within = omega (arith, length-drop at text);
      so_far = Takes-more at c.in_ok-count.count text _ before after c.loop-at.invariant.so_far
          (subst (λ (piece : List ℕ). Takes c.in_ok-count.count piece before after) (take_rest text at) c.in_ok-count.ensures.bytes);
      counted = omega (arith, c.loop-at.invariant.counted, c.in_ok-count.ensures.counted);
    }
