use Rattle.std.proofs.Common.{◌≡◌, ◌+◌, ◌-◌, ◌++◌, ◌∙◌, ℕ, ap, reverse, arith, [], ◌∷◌}
use Rattle.std.specs.List.{range_with_len}
use Rattle.definitions.specs.Moves.{pass_over}
use Rattle.placement.proofs.Taking.{HasPass-follows}
use Rattle.placement.proofs.Walking.{down-more, pass_over-append, follows_next}
use Rattle.placement.proofs.relocation.order.Order.descend.Goals as goal

pub loop-p-preserved : goal.loop-p-preserved
loop-p-preserved c =
    let top = c.args.self.now.top in
    let p = c.loop-p.p - 1 in
    let n = top - c.loop-p.p in
    let le = c.loop-p.auto.p in
    let count : top - p ≡ n + 1 = omega arith in
    let start : p + 1 ≡ c.loop-p.p = omega arith in
    record {
      pass = HasPass-follows c.loop-p.self c.emit_free.new.self (pass_over (p ∷ [])) c.emit_free.ensures.follows c.loop-p.invariant.pass;
      room = c.emit_free.ensures.room;
      follows =
          follows_next pass_over pass_over-append c.args.self.now c.loop-p.self c.emit_free.new.self (reverse (range_with_len c.loop-p.p n)) (reverse (range_with_len p (top - p))) p
          (ap (λ (k : ℕ). reverse (range_with_len p k)) count ∙ down-more p n ∙ ap (λ (k : ℕ). reverse (range_with_len k n) ++ p ∷ []) start)
          c.loop-p.invariant.follows c.emit_free.ensures.follows;
    }
