use Rattle.std.proofs.Common.{◌≡◌, ℕ, ◌+◌, ◌-◌, List, [], ◌∷◌, length, length-append, refl, sym, ap, ◌∙◌, arith}
use Rattle.std.specs.List.{range_with_len}
use Rattle.definitions.specs.Tables.{with_entry, with_entries}
use Rattle.definitions.proofs.TableEntries.{with_entries-more, with_entries-none}
use Rattle.frame_table.specs.Drop.{may_drop}
use Rattle.frame_table.proofs.DropLaws.{dropped_of, in_front, still_may_drop, dropped_next, dropped_fail, dropped_enough, range_none}
use Rattle.frame_table.proofs.reclaim.drop_in_zone.Goals as goal
use Rattle.frame_table.proofs.reclaim.drop_in_zone.Goals.{then-dropped-most+then-may_drop, else-dropped-most, else-dropped-most-via-then-dropped-most+else-may_drop, else-dropped-most-via-else-dropped-most}

pub loop-p-init : goal.loop-p-init
loop-p-init c =
    let none = range_none c.args.keep.now c.args.table c.args.frames.now c.args.most c.args.zone.0 in
    record {
      pages = c.are_pages.ensures.pages;
      frames = sym (ap (λ (ps : List ℕ). with_entries c.args.frames.now c.args.table ps 1) none ∙ with_entries-none c.args.frames.now c.args.table 1);
      dropped = sym (ap length none);
      len = refl;
    }

pub loop-p-preserved : goal.loop-p-preserved
loop-p-preserved c =
    let old = c.args.frames.now in
    let keep = c.args.keep.now in
    let table = c.args.table in
    let most = c.args.most in
    let start = c.args.zone.0 in
    let p = c.loop-p.p in
    let from = c.loop-p.auto.p in
    let inv = c.loop-p.invariant in
    let before = dropped_of keep table old most (range_with_len start (p - start)) in
    let has = c.requires.table in
    let test_is : may_drop keep table c.loop-p.frames p ≡ may_drop keep table old p =
    ap (λ (frames : List (List ℕ)). may_drop keep table frames p) inv.frames
    ∙ still_may_drop keep table (start + c.args.zone.1) old most (range_with_len start (p - start)) p inv.pages has
    (λ k in'. let front = in_front start p k from in' in let end = c.loop-p.auto.p-end in (omega arith, λ e. absurd (omega arith))) in
    elim c.if-dropped-most.branch [
      | then-dropped-most+then-may_drop w ↦
          let next = dropped_next keep table old most start p from (sym test_is ∙ sym w.may_drop.ensures ∙ w.if-may_drop.true) (omega (arith, inv.dropped, w.if-dropped-most.true)) in
          record {
            pages = inv.pages;
            frames = w.frames-is ∙ w.set_entry.ensures.entry ∙ ap (λ (frames : List (List ℕ)). with_entry frames table p 1) inv.frames ∙ sym (with_entries-more old table before p 1)
                ∙ ap (λ (ps : List ℕ). with_entries old table ps 1) (sym next);
            dropped = let sum = length-append before (p ∷ []) in let all = ap length next in let is = w.dropped-is in let was = inv.dropped in omega arith;
            len = ap length w.frames-is ∙ w.set_entry.ensures.len ∙ inv.len;
          }
      | else-dropped-most w ↦
          let same : dropped_of keep table old most (range_with_len start (p + 1 - start)) ≡ before = elim w.else-dropped-most.branch [
            | else-dropped-most-via-then-dropped-most+else-may_drop w' ↦ dropped_fail keep table old most start p from (sym test_is ∙ sym w'.may_drop.ensures ∙ w'.if-may_drop.false)
            | else-dropped-most-via-else-dropped-most w' ↦ dropped_enough keep table old most start p from (omega (arith, inv.dropped, w'.if-dropped-most.false))
          ] in
          record {
            pages = inv.pages;
            frames = w.frames-is ∙ inv.frames ∙ ap (λ (ps : List ℕ). with_entries old table ps 1) (sym same);
            dropped = w.dropped-is ∙ inv.dropped ∙ sym (ap length same);
            len = ap length w.frames-is ∙ inv.len;
          }
    ]
