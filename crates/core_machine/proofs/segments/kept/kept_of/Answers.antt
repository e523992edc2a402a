use Rattle.std.proofs.Common.{◌≡◌, ◌+◌, ℕ, List, ◌++◌, ◌∷◌, [], Bool, true, false, filter, map, sym, ap, ◌∙◌}
use Rattle.std.specs.Prelude.{not}
use Rattle.std.specs.List.{range_with_len}
use Rattle.core_machine.specs.Segments.{is_kept, segment_at}
use Rattle.core_machine.specs.declared.segments.segment.Segment.{Segment}
use Rattle.core_machine.proofs.Keeping.{number_kept, number_left}
use Rattle.core_machine.proofs.segments.kept.kept_of.Goals as goal
use Rattle.core_machine.proofs.segments.kept.kept_of.Goals.{then-not-is_passed_over+in_ok-push_segment, else-not-is_passed_over}

pub loop-i-preserved : goal.loop-i-preserved
loop-i-preserved c =
    let loads = c.args.loads.now in
    let i = c.loop-i.i in
    record {
      kept = elim c.if-not-is_passed_over.branch [
        | then-not-is_passed_over+in_ok-push_segment w ↦
            rw w.segments-is
            (w.in_ok-push_segment.ensures
            ∙ ap (λ (xs : List Segment). xs ++ segment_at loads i ∷ []) c.loop-i.invariant.kept
            ∙ sym (number_kept (segment_at loads) (is_kept loads) i (ap not (sym c.is_passed_over.ensures ∙ w.if-not-is_passed_over.true))))
        | else-not-is_passed_over w ↦
            rw w.segments-is
            (c.loop-i.invariant.kept
            ∙ sym (number_left (segment_at loads) (is_kept loads) i (ap not (sym c.is_passed_over.ensures ∙ w.if-not-is_passed_over.false))))
      ];
    }
