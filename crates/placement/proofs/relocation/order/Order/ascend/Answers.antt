use Rattle.std.specs.List.{range_with_len}
use Rattle.definitions.specs.Moves.{pass_over}
use Rattle.placement.proofs.Taking.{HasPass-follows}
use Rattle.placement.proofs.Walking.{up-more, pass_over-append, follows_next}
use Rattle.std.proofs.Common.{◌+◌, [], ◌∷◌}
use Rattle.placement.proofs.relocation.order.Order.ascend.Goals as goal

pub loop-p-preserved : goal.loop-p-preserved
loop-p-preserved c =
    let p = c.loop-p.p in
    record {
      pass = HasPass-follows c.loop-p.self c.emit_free.new.self (pass_over (p ∷ [])) c.emit_free.ensures.follows c.loop-p.invariant.pass;
      room = c.emit_free.ensures.room;
      follows =
          follows_next (pass_over) (pass_over-append) c.args.self.now c.loop-p.self c.emit_free.new.self (range_with_len 0 p) (range_with_len 0 (p + 1)) p
          (up-more p) c.loop-p.invariant.follows c.emit_free.ensures.follows;
    }
