use Rattle.std.proofs.Common.{◌++◌, ◌∷◌, [], ◌∙◌, sym, arith}
use Rattle.definitions.specs.Moves.{Pass, cycles_over}
use Rattle.placement.proofs.Taking.{without_move, follows_more, HasPass-follows}
use Rattle.placement.proofs.Walking.{cycle_begins, leads_cycle, cycle_follows, no_cycle}
use Rattle.placement.proofs.relocation.order.Order.emit_cycle.Goals as goal

pub returns-in_default-clause-follows : goal.returns-in_default-clause-follows
returns-in_default-clause-follows c =
    no_cycle c.args.self.now c.take.new.self c.args.bounce c.args.start c.requires.within (sym c.take.ensures.source ∙ c.in_default.is) c.take.ensures.follows

pub emit-requires-2-clause-pass : goal.emit-requires-2-clause-pass
emit-requires-2-clause-pass c =
    let put : Pass → Pass = λ pass. record pass { emitted = pass.emitted ++ (c.args.start, c.args.bounce) ∷ [] } in
    HasPass-follows c.take.new.self c.emit.new.self put c.emit.ensures.follows
    (HasPass-follows c.args.self.now c.take.new.self (without_move c.args.start) c.take.ensures.follows c.requires.pass)

pub loop-source-init : goal.loop-source-init
loop-source-init c =
    let start = c.args.start in
    let from = c.source_in_cycle.result in
    let wait : Pass → Pass = λ pass. record pass { emitted = pass.emitted ++ (start, c.args.bounce) ∷ [] } in
    let put : Pass → Pass = λ pass. record pass { emitted = pass.emitted ++ (from, start) ∷ [] } in
    let one = follows_more c.args.self.now c.take.new.self c.emit.new.self (without_move start) wait c.take.ensures.follows c.emit.ensures.follows in
    let both = follows_more c.args.self.now c.emit.new.self c.emit-2.new.self (λ pass. wait (without_move start pass)) put one c.emit-2.ensures.follows in
    let fewer = c.in-Some.ensures.fewer in
    let below = fewer.0 in
    let one_less = fewer.1 in
    let top = both.top in
    let moves = both.room in
    let len = c.emit.ensures.len in
    let len_before = c.take.ensures.len in
    let len_after = c.emit-2.ensures.len in
    let pending = c.emit.ensures.pending in
    let pending_after = c.emit-2.ensures.pending in
    let room = c.requires.room in
    record {
      pass = HasPass-follows c.args.self.now c.emit-2.new.self (λ pass. put (wait (without_move start pass))) both c.requires.pass;
      within = omega arith;
      room = omega arith;
      leads =
          cycle_begins c.args.self.now c.take.new.self c.emit.new.self c.emit-2.new.self c.args.bounce start c.in-Some.first from c.requires.within
          (sym c.take.ensures.source ∙ c.in-Some.is) (c.source_in_cycle.ensures start) c.take.ensures.follows c.emit.ensures.follows c.emit-2.ensures.follows;
    }

pub loop-source-preserved : goal.loop-source-preserved
loop-source-preserved c =
    let t = c.loop-source.target in
    let s = c.in-Some-take.source in
    let from = c.source_in_cycle-in-Some-take.result in
    let taken = c.take-in-loop-source in
    let emitted = c.emit-in-Some-take in
    let put : Pass → Pass = λ pass. record pass { emitted = pass.emitted ++ (from, t) ∷ [] } in
    let both = follows_more c.loop-source.self taken.new.self emitted.new.self (without_move t) put taken.ensures.follows emitted.ensures.follows in
    let fewer = c.in-Some-take.ensures.fewer in
    let below = fewer.0 in
    let one_less = fewer.1 in
    let top = both.top in
    let moves = both.room in
    let len = emitted.ensures.len in
    let len_before = taken.ensures.len in
    let pending = emitted.ensures.pending in
    let room = c.loop-source.invariant.room in
    record {
      pass = HasPass-follows c.loop-source.self emitted.new.self (λ pass. put (without_move t pass)) both c.loop-source.invariant.pass;
      within = omega arith;
      room = omega arith;
      leads =
          leads_cycle c.args.self.now c.loop-source.self taken.new.self emitted.new.self (cycles_over c.args.bounce (c.args.start ∷ [])) c.args.bounce c.args.start t s from
          c.loop-source.invariant.within (sym taken.ensures.source ∙ c.in-Some-take.is) (c.source_in_cycle-in-Some-take.ensures t)
          c.loop-source.invariant.leads taken.ensures.follows emitted.ensures.follows;
    }

pub returns-clause-follows : goal.returns-clause-follows
returns-clause-follows c =
    cycle_follows c.args.self.now c.loop-source.self c.take-in-loop-source.new.self c.args.bounce c.args.start c.loop-source.target (cycles_over c.args.bounce (c.args.start ∷ []))
    c.loop-source.invariant.within (sym c.take-in-loop-source.ensures.source ∙ c.in_default-take.is) c.loop-source.invariant.leads c.take-in-loop-source.ensures.follows
