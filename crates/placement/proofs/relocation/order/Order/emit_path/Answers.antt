use Rattle.std.proofs.Common.{◌≡◌, ◌<◌, ◌++◌, ◌∷◌, [], ◌∙◌, get_or, length, false, sym, arith}
use Rattle.std.proofs.lemmas.List.{get_or_default}
use Rattle.definitions.specs.Moves.{Pass}
use Rattle.placement.proofs.Taking.{without_move, follows_more, HasPass-follows}
use Rattle.placement.proofs.Walking.{path_on, leads_path, path_follows}
use Rattle.placement.proofs.relocation.order.Order.emit_path.Goals as goal

pub loop-source-preserved : goal.loop-source-preserved
loop-source-preserved c =
    let t = c.loop-source.target in
    let s = c.in-Some.source in
    let put : Pass → Pass = λ pass. record pass { emitted = pass.emitted ++ (s, t) ∷ [] } in
    let told = sym c.take.ensures.source ∙ c.in-Some.is in
    let both = follows_more c.loop-source.self c.take.new.self c.emit.new.self (without_move t) put c.take.ensures.follows c.emit.ensures.follows in
    let fewer = c.in-Some.ensures.fewer in
    let below = fewer.0 in
    let one_less = fewer.1 in
    let top = both.top in
    let moves = both.room in
    let len = c.emit.ensures.len in
    let len_before = c.take.ensures.len in
    let pending = c.emit.ensures.pending in
    let room = c.loop-source.invariant.room in
    record {
      pass = HasPass-follows c.loop-source.self c.emit.new.self (λ pass. put (without_move t pass)) both c.loop-source.invariant.pass;
      within = omega arith;
      room = omega arith;
      leads =
          leads_path c.args.self.now c.loop-source.self c.take.new.self c.emit.new.self (path_on c.args.end) t s c.loop-source.invariant.within told
          c.loop-source.invariant.leads c.take.ensures.follows c.emit.ensures.follows;
    }

pub returns-clause-follows : goal.returns-clause-follows
returns-clause-follows c =
    let items = c.args.self.now.leaves.items in
    let size = c.requires.pass.at.sources_size in
    let within : c.args.end < length items = omega arith in
    let free : get_or items c.args.end false ≡ false = get_or_default items c.args.end false c.index.result.now within ∙ sym c.index.ensures ∙ c.if-index.false in
    path_follows c.args.self.now c.loop-source.self c.take.new.self c.args.end c.loop-source.target c.requires.within c.loop-source.invariant.within free
    (sym c.take.ensures.source ∙ c.in_default.is) c.loop-source.invariant.leads c.take.ensures.follows
