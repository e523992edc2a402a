use Rattle.std.proofs.Common.{◌≡◌, ◌≤◌, ◌+◌, ℕ, List, ◌++◌, ◌∷◌, [], filter, arith, ap, ◌∙◌}
use Rattle.core_machine.specs.Segments.{first_frame, frame_end}
use Rattle.core_machine.specs.Made.{holds_bytes}
use Rattle.core_machine.proofs.Lying.{front_more, front_of, in_zone, laid_more, lies_above, same_later}
use Rattle.core_machine.proofs.Places.{at_end, at_next, before_page, near, sized}
use Rattle.core_machine.proofs.laying.lay_segment.Goals as goal

pub read_page-requires-clause-sizes : goal.read_page-requires-clause-sizes
read_page-requires-clause-sizes g c = (sized c.args.segment.now c.requires.size).sizes

pub read_page-requires-clause-near : goal.read_page-requires-clause-near
read_page-requires-clause-near g c = λ some. (near c.args.place c.args.segment.now c.requires.lies some).1

pub read_page-requires-clause-before : goal.read_page-requires-clause-before
read_page-requires-clause-before g c = λ has.
    let ge : first_frame c.args.segment.now ≤ c.loop-frame.frame = omega (arith, c.loop-frame.auto.frame, c.first_frame-first.ensures.frame) in
    before_page c.args.segment.now c.args.place c.loop-frame.place c.loop-frame.frame ge c.requires.lies c.loop-frame.invariant.at has

pub lay_page-requires-clause-valid : goal.lay_page-requires-clause-valid
lay_page-requires-clause-valid g c =
    let n = c.requires.zone.0 in
    let le = c.requires.zone.2 in
    in_zone n c.loop-frame.frame c.loop-frame.filled.plan.zones (c.loop-frame.invariant.same.zones ∙ c.requires.zone.1)
    (omega (arith, le, c.loop-frame-test.true, c.frame_end-end.ensures.frame))

pub loop-frame-preserved : goal.loop-frame-preserved
loop-frame-preserved g c =
    let s = c.args.segment.now in
    let frame = c.loop-frame.frame in
    let page = c.read_page.new.page in
    let i = c.loop-frame.invariant in
    let ge : first_frame s ≤ frame = omega (arith, c.loop-frame.auto.frame, c.first_frame-first.ensures.frame) in
    record {
      laid =
          λ saved h.
          let was = i.laid saved h in
          record {
            more = was.more ++ filter holds_bytes ((frame, page) ∷ []);
            lies = laid_more c.lay_page.new.filled saved was.more (filter holds_bytes ((frame, page) ∷ [])) (frame + 1) (c.lay_page.ensures.laid (saved ++ was.more) was.lies);
            are = λ bytes r. front_more bytes s frame page was.more ge (c.in_ok-place.ensures.page bytes (i.left bytes r)) (was.are bytes r);
          };
      at = at_next s c.args.place c.loop-frame.place c.in_ok-place.place frame ge i.at c.in_ok-place.ensures.place;
      left = λ bytes r. c.in_ok-place.ensures.left bytes (i.left bytes r);
      same = same_later i.same c.lay_page.ensures.same;
      counted = omega (arith, i.counted, c.read_page.ensures.counted);
    }

pub returns-clause-laid : goal.returns-clause-laid
returns-clause-laid g c = λ saved h.
    let s = c.args.segment.now in
    let frame = c.loop-frame.frame in
    let was = c.loop-frame.invariant.laid saved h in
    let order : c.first_frame-first.result ≤ c.frame_end-end.result = omega (arith, c.first_frame-first.ensures.frame, c.frame_end-end.ensures.frame) in
    let last = c.loop-frame.auto.frame-end order in
    let end_is : frame ≡ frame_end s = omega (arith, last, c.loop-frame-test.false, c.frame_end-end.ensures.frame) in
    record {
      more = was.more;
      lies = lies_above c.loop-frame.filled (saved ++ was.more) frame (frame_end s) (omega (arith, end_is)) was.lies;
      are = λ bytes r. was.are bytes r ∙ ap (λ (p : ℕ). front_of bytes s p) end_is;
    }

pub returns-clause-place : goal.returns-clause-place
returns-clause-place g c =
    at_end c.args.segment.now c.args.place c.loop-frame.place c.loop-frame.frame (sized c.args.segment.now c.requires.size) c.loop-frame.invariant.at
    (omega (arith, c.loop-frame-test.false, c.frame_end-end.ensures.frame))
