use Rattle.std.proofs.Common.{◌≡◌, ◌≤◌, ◌<◌, ◌+◌, ℕ, List, [], ◌∷◌, ◌++◌, None, length, drop, take, refl, sym, ap, subst, ◌∙◌, arith}
use Rattle.std.proofs.lemmas.List.{drop_all, take_all}
use Rattle.std.proofs.lemmas.List.Elements.{All-nil}
use Rattle.std.proofs.lemmas.Result.{err_from_is_err_and}
use Rattle.core_machine.specs.Pages.{places_end}
use Rattle.core_machine.specs.Segments.{first_frame, frame_end, place_after, segment_at, segments_fault}
use Rattle.core_machine.specs.declared.segments.segment.Segment.{Segment}
use Rattle.core_machine.proofs.Opened.{SegmentRight, first_right}
use Rattle.core_machine.specs.Laid.{IsLaidUpTo, LiesBelow}
use Rattle.core_machine.specs.Made.{end_after, frames_in, saved_of}
use Rattle.core_machine.proofs.Lying.{lies_above, same_later, saved_more, saved_none}
use Rattle.core_machine.proofs.Places.{drop_more, end_above, ends_next, ends_none, places_above, stops_in_later}
use Rattle.core_machine.proofs.laying.lay_all.Goals as goal
use Rattle.image_machine.specs.declared.filled.FilledPlan.{FilledPlan}

-- the next segment, of those that are left
record IsNext (filled : FilledPlan) (saved : List (ℕ × List ℕ)) (free place n : ℕ) (s : Segment) (rest : List Segment) : Type 0 where
  pub right : SegmentRight free place s rest
  pub lies : LiesBelow filled saved (first_frame s)
  pub ends : end_after (frame_end s) rest ≡ n
  pub within : frame_end s ≤ n

next_of : (filled : FilledPlan) (place n : ℕ) (segments : List Segment) (i : ℕ) (Are : List (ℕ × List ℕ) → Type 0) → i < length segments →
    (is : IsLaidUpTo filled place n (drop i segments) Are) → IsNext filled is.saved is.free place n (segment_at segments i) (drop (i + 1) segments)
next_of filled place n segments i Are lt is =
    let s = segment_at segments i in
    let rest = drop (i + 1) segments in
    let more = drop_more segments i lt in
    let right = first_right is.free place s rest (subst (λ (xs : List Segment). segments_fault is.free place xs ≡ None) more is.follows) in
    let apart = right.apart in
    let low : is.free ≤ first_frame s = grind (arith, apart) in
    let ends : end_after (frame_end s) rest ≡ n = sym (ap (end_after is.free) more) ∙ is.ends in
    let above = end_above (frame_end s) (place_after place s) rest right.rest in
    record {
      right = right;
      lies = lies_above filled is.saved is.free (first_frame s) low is.lies;
      ends = ends;
      within = omega (arith, above, ends);
    }

pub loop-segment-init : goal.loop-segment-init
loop-segment-init g c = record {
  laid = record {
    free = 0;
    saved = [];
    lies = record { has = c.requires.filled; below = All-nil (λ (m : ℕ). m < 0) };
    follows = c.requires.follows;
    ends = refl;
    are = λ bytes r. saved_none bytes;
  };
  ends = refl;
  left = λ bytes r. r;
  same = record { heading = refl; layout = refl; zones = refl };
  counted = omega arith;
}

pub lay_segment-requires-clause-size : goal.lay_segment-requires-clause-size
lay_segment-requires-clause-size g c =
    (next_of c.loop-segment.filled c.loop-segment.place (frames_in c.args.segments.now) c.args.segments.now c.loop-segment.segment-index _ c.loop-segment-test.true c.loop-segment.invariant.laid).right.size

pub lay_segment-requires-clause-lies : goal.lay_segment-requires-clause-lies
lay_segment-requires-clause-lies g c =
    (next_of c.loop-segment.filled c.loop-segment.place (frames_in c.args.segments.now) c.args.segments.now c.loop-segment.segment-index _ c.loop-segment-test.true c.loop-segment.invariant.laid).right.lies

pub lay_segment-requires-clause-filled : goal.lay_segment-requires-clause-filled
lay_segment-requires-clause-filled g c = (
  c.loop-segment.invariant.laid.saved,
  (next_of c.loop-segment.filled c.loop-segment.place (frames_in c.args.segments.now) c.args.segments.now c.loop-segment.segment-index _ c.loop-segment-test.true c.loop-segment.invariant.laid).lies,
)

pub lay_segment-requires-clause-zone : goal.lay_segment-requires-clause-zone
lay_segment-requires-clause-zone g c = (
  frames_in c.args.segments.now,
  c.loop-segment.invariant.same.zones ∙ c.requires.zone,
  (next_of c.loop-segment.filled c.loop-segment.place (frames_in c.args.segments.now) c.args.segments.now c.loop-segment.segment-index _ c.loop-segment-test.true c.loop-segment.invariant.laid).within,
)

pub returns-in_err-place-clause-stopped : goal.returns-in_err-place-clause-stopped
returns-in_err-place-clause-stopped g c =
    let p = err_from_is_err_and c.from_residual.result c.from_residual.ensures.1 in
    let segments = c.args.segments.now in
    let i = c.loop-segment.segment-index in
    let place = c.loop-segment.place in
    let s = segment_at segments i in
    let rest = drop (i + 1) segments in
    let next = next_of c.loop-segment.filled place (frames_in segments) segments i _ c.loop-segment-test.true c.loop-segment.invariant.laid in
    let ends : places_end (place_after place s) rest ≡ places_end c.args.place segments =
    sym (ap (places_end place) (drop_more segments i c.loop-segment-test.true) ∙ ends_next place s rest) ∙ c.loop-segment.invariant.ends in
    let above = places_above (frame_end s) (place_after place s) rest next.right.rest in
    rw (p.1, p.2) (λ bytes r.
    stops_in_later bytes (place_after place s) (places_end c.args.place segments) c.in_err-place.field-0.0 (omega (arith, ends, above))
    (c.in_err-place.ensures.stopped bytes (c.loop-segment.invariant.left bytes r)))

pub loop-segment-preserved : goal.loop-segment-preserved
loop-segment-preserved g c =
    let segments = c.args.segments.now in
    let i = c.loop-segment.segment-index in
    let place = c.loop-segment.place in
    let s = segment_at segments i in
    let rest = drop (i + 1) segments in
    let was = c.loop-segment.invariant.laid in
    let next = next_of c.loop-segment.filled place (frames_in segments) segments i _ c.loop-segment-test.true was in
    let now_is = c.in_ok-place.ensures.place in
    let more = c.in_ok-place.ensures.laid was.saved next.lies in
    record {
      laid = record {
        free = frame_end s;
        saved = was.saved ++ more.more;
        lies = more.lies;
        follows = subst (λ (k : ℕ). segments_fault (frame_end s) k rest ≡ None) (sym now_is) next.right.rest;
        ends = next.ends;
        are = λ bytes r. saved_more bytes segments i was.saved more.more c.loop-segment-test.true (was.are bytes r) (more.are bytes (c.loop-segment.invariant.left bytes r));
      };
      ends =
          ap (λ (k : ℕ). places_end k rest) now_is
          ∙ sym (ap (places_end place) (drop_more segments i c.loop-segment-test.true) ∙ ends_next place s rest) ∙ c.loop-segment.invariant.ends;
      left = λ bytes r. c.in_ok-place.ensures.left bytes (c.loop-segment.invariant.left bytes r);
      same = same_later c.loop-segment.invariant.same c.lay_segment.ensures.same;
      counted = omega (arith, c.loop-segment.invariant.counted, c.lay_segment.ensures.counted);
    }

pub returns-clause-laid : goal.returns-clause-laid
returns-clause-laid g c =
    let was = c.loop-segment.invariant.laid in
    record {
      saved = was.saved;
      has = was.lies.has;
      are = λ bytes r. was.are bytes r ∙ ap (saved_of bytes) (take_all c.loop-segment.segment-index c.args.segments.now c.loop-segment-test.false);
    }

pub returns-clause-whole : goal.returns-clause-whole
returns-clause-whole g c = λ bytes r.
    let is = (c.loop-segment.invariant.left bytes r).within in
    let end : places_end c.args.place c.args.segments.now ≡ c.loop-segment.place =
    sym c.loop-segment.invariant.ends ∙ ap (places_end c.loop-segment.place) (drop_all c.loop-segment.segment-index c.args.segments.now c.loop-segment-test.false)
    ∙ ends_none c.loop-segment.place in
    omega (arith, is, end)
