use Rattle.std.proofs.Common.{◌≡◌, ◌<◌, ◌∙◌, get_or, length, true, false, sym, arith}
use Rattle.std.proofs.lemmas.List.{get_or_default}
use Rattle.placement.proofs.Walking.{follows_stays, follows_none, follows_emits}
use Rattle.placement.proofs.relocation.order.Order.emit_free.Goals as goal

pub returns-then-index-clause-follows : goal.returns-then-index-clause-follows
returns-then-index-clause-follows c =
    let items = c.args.self.now.leaves.items in
    let size = c.requires.pass.at.sources_size in
    let within : c.args.target < length items = omega arith in
    let leaves : get_or items c.args.target false ≡ true = get_or_default items c.args.target false c.index.result.now within ∙ sym c.index.ensures ∙ c.if-index.true in
    follows_stays c.args.self.now c.args.target c.requires.within leaves

pub returns-in-Some-clause-follows : goal.returns-in-Some-clause-follows
returns-in-Some-clause-follows c =
    let items = c.args.self.now.leaves.items in
    let size = c.requires.pass.at.sources_size in
    let within : c.args.target < length items = omega arith in
    let free : get_or items c.args.target false ≡ false = get_or_default items c.args.target false c.index.result.now within ∙ sym c.index.ensures ∙ c.if-index.false in
    follows_emits c.args.self.now c.take.new.self c.emit.new.self c.args.target c.in-Some.source c.requires.within free
    (sym c.take.ensures.source ∙ c.in-Some.is) c.take.ensures.follows c.emit.ensures.follows

pub returns-in_default-clause-follows : goal.returns-in_default-clause-follows
returns-in_default-clause-follows c =
    follows_none c.args.self.now c.take.new.self c.args.target c.requires.within (sym c.take.ensures.source ∙ c.in_default.is) c.take.ensures.follows
