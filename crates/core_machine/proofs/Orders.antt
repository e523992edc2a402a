-- The first fault of segments, from the one on that is looked at.
use Rattle.std.proofs.Common.{◌≡◌, ℕ, ◌+◌, ◌<◌, ◌≤◌, Bool, List, [], ◌∷◌, length, get_or, drop, Option, Some, None, refl, sym, ap, ◌∙◌, arith, drop-cons}
use Rattle.plain_machine.specs.Chain.{or_else}
use Rattle.core_machine.specs.Segments.{first_place, frame_end, nothing, place_after, segment_fault, segments_fault}
use Rattle.core_machine.specs.declared.segments.fault.Fault.{Fault}
use Rattle.core_machine.specs.declared.segments.segment.Segment.{Segment}
use Rattle.core_machine.proofs.Faults.{or_else-none, or_else-some}

-- one segment is without fault
pub segment_right : (free place : ℕ) (s : Segment) (segments : List Segment) → segment_fault free place s ≡ None →
    segments_fault free place (s ∷ segments) ≡ segments_fault (frame_end s) (place_after place s) segments
unfolding segments_fault
segment_right free place s segments e =
    or_else-none (segment_fault free place s) (segments_fault (frame_end s) (place_after place s) segments) e

pub segment_wrong : (free place : ℕ) (s : Segment) (segments : List Segment) (fault : Fault) → segment_fault free place s ≡ Some fault →
    segments_fault free place (s ∷ segments) ≡ Some fault
unfolding segments_fault
segment_wrong free place s segments fault e =
    or_else-some (segment_fault free place s) (segments_fault (frame_end s) (place_after place s) segments) fault e

pub segments_right : (free place : ℕ) → segments_fault free place [] ≡ None
unfolding segments_fault
segments_right free place = refl
