use Rattle.std.proofs.Common.{◌≡◌, ◌≤◌, ◌-◌, List, ℕ, arith, length, drop, take, ap, ◌∙◌}
use Rattle.std.proofs.lemmas.List.{take_rest, length-drop}
use borrow.Rule.Slice.PartMut.{put_mid}
use Rattle.definitions.proofs.PageBytes.{put_mid-with_bytes, length-with_bytes}
use Rattle.byte_streams.proofs.Handed.{HandsOut-more, take-over_end}
use Rattle.byte_streams.proofs.filling.fill.Goals as goal

-- a write to the end of a piece leaves its length
length-over_end : (at : ℕ) (xs ys : List ℕ) → at ≤ length xs → length ys ≡ length xs - at → length (put_mid at (length xs - at) xs ys) ≡ length xs
length-over_end at xs ys within size =
    ap length (put_mid-with_bytes at (length xs - at) xs ys size) ∙ length-with_bytes xs at ys (omega (arith, within, size))

pub loop-at-preserved : goal.loop-at-preserved
loop-at-preserved g c =
    let piece = c.loop-at.piece in
    let at = c.loop-at.at in
    let k = c.in_ok-count.count in
    let part = c.read.new.into in
    let within = c.loop-at.invariant.within in
    let rest : length (take (length piece - at) (drop at piece)) ≡ length piece - at = ap length (take_rest piece at) ∙ length-drop at piece in
    let size : length part ≡ length piece - at = c.read.auto.into ∙ rest in
    let few : k ≤ length part = omega (arith, size, rest, c.in_ok-count.ensures.count) in
    record {
      within = omega (arith, size, few, within, length-over_end at piece part within size);
      so_far =
          HandsOut-more at k piece part (put_mid at (length piece - at) piece part) (g.S.Source.remaining c.args.source.now) (g.S.Source.remaining c.loop-at.source) (g.S.Source.remaining c.read.new.self)
          (take-over_end at k (length piece - at) piece part within few) c.loop-at.invariant.so_far c.in_ok-count.ensures.bytes;
      counted = omega (arith, c.loop-at.invariant.counted, c.in_ok-count.ensures.counted);
    }
