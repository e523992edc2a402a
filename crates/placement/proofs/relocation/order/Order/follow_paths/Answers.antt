use Rattle.std.specs.List.{range_with_len}
use Rattle.definitions.specs.Moves.{paths_over}
use Rattle.placement.proofs.Taking.{HasPass-follows}
use Rattle.placement.proofs.Walking.{up-more, paths_over-append, follows_next}
use Rattle.std.proofs.Common.{◌+◌, [], ◌∷◌}
use Rattle.placement.proofs.relocation.order.Order.follow_paths.Goals as goal

pub loop-p-preserved : goal.loop-p-preserved
loop-p-preserved c =
    let p = c.loop-p.p in
    record {
      pass = HasPass-follows c.loop-p.self c.emit_path.new.self (paths_over (p ∷ [])) c.emit_path.ensures.follows c.loop-p.invariant.pass;
      room = c.emit_path.ensures.room;
      follows =
          follows_next (paths_over) (paths_over-append) c.args.self.now c.loop-p.self c.emit_path.new.self (range_with_len 0 p) (range_with_len 0 (p + 1)) p
          (up-more p) c.loop-p.invariant.follows c.emit_path.ensures.follows;
    }
