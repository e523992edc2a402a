use Rattle.std.proofs.Common.{◌∙◌, ◌+◌, set, sym, ap, ap₂, arith, below_more, add-one}
use Rattle.definitions.specs.Slots.{extent_at, slots_before}
use Rattle.swap_slots.proofs.Ordered.{kept_more}
use Rattle.swap_slots.proofs.file_map.FileMap.of.Goals as goal

pub overflow_add-end : goal.overflow_add-end
overflow_add-end c =
    let h = c.loop-i.invariant in
    let within = c.loop-i-test.true in
    let this = c.is_in_order.ensures.0 c.if-not-is_in_order.false in
    let start = this.start in
    let fits = this.fits in
    let first = c.from.ensures in
    let size = c.from-in-loop-i.ensures in
    let end = h.end in
    let few = h.few in
    let most = c.if-extents-gt-MOST_EXTENTS.false in
    record { fits = omega arith }

pub loop-i-preserved : goal.loop-i-preserved
loop-i-preserved c =
    let extents = c.args.extents.now in
    let i = c.loop-i.i in
    let h = c.loop-i.invariant in
    let within = c.loop-i-test.true in
    let this = c.is_in_order.ensures.0 c.if-not-is_in_order.false in
    let start = this.start in
    let fits = this.fits in
    let first = c.from.ensures in
    let size = c.from-in-loop-i.ensures in
    let few = h.few in
    let most = c.if-extents-gt-MOST_EXTENTS.false in
    record {
      end = ap₂ (λ a b. a + b) first size ∙ ap (slots_before extents) (sym (add-one i));
      few = let end = h.end in omega arith;
      each = below_more _ i h.each this;
      kept = ap (λ kept. set kept i (extent_at extents i)) h.kept ∙ kept_more 64 i extents within (omega arith);
    }
