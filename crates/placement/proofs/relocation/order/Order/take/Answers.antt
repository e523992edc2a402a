use Rattle.std.proofs.Common.{◌≡◌, ◌∙◌, get_or, Some, None, length, ◌<◌, sym, refl, arith}
use Rattle.std.proofs.lemmas.List.{get_or_default}
use Rattle.placement.proofs.Taking.{at_least_one, taken_none, taken_some}
use Rattle.placement.proofs.relocation.order.Order.take.Goals as goal

pub returns-in_err-source-clause-follows : goal.returns-in_err-source-clause-follows
returns-in_err-source-clause-follows c =
    let items = c.args.self.now.sources.items in
    let size = c.requires.pass.at.targets_size in
    let within : c.args.target < length items = omega arith in
    let none : get_or items c.args.target None ≡ None = get_or_default items c.args.target None c.index.result.now within ∙ sym c.index.ensures ∙ c.in_err-source.was in
    taken_none c.args.self.now c.args.target c.requires.within none

pub overflow_sub-self : goal.overflow_sub-self
overflow_sub-self c =
    let items = c.args.self.now.sources.items in
    let size = c.requires.pass.at.targets_size in
    let within : c.args.target < length items = omega arith in
    let some : get_or items c.args.target None ≡ Some c.in_ok-source.source = get_or_default items c.args.target None c.index.result.now within ∙ sym c.index.ensures ∙ c.in_ok-source.was in
    (at_least_one c.args.self.now c.requires.pass.pass c.args.target c.in_ok-source.source c.requires.pass.at c.requires.within some).1

pub returns-clause-follows : goal.returns-clause-follows
returns-clause-follows c =
    let items = c.args.self.now.sources.items in
    let size = c.requires.pass.at.targets_size in
    let within : c.args.target < length items = omega arith in
    let some : get_or items c.args.target None ≡ Some c.in_ok-source.source = get_or_default items c.args.target None c.index.result.now within ∙ sym c.index.ensures ∙ c.in_ok-source.was in
    let one = (at_least_one c.args.self.now c.requires.pass.pass c.args.target c.in_ok-source.source c.requires.pass.at c.requires.within some).1 in
    taken_some c.args.self.now _ c.args.target c.in_ok-source.source c.requires.within some
    (record { sources = refl; leaves = refl; pending = omega arith; moves = refl; len = refl; top = refl })

pub returns-clause-fewer : goal.returns-clause-fewer
returns-clause-fewer c =
    let items = c.args.self.now.sources.items in
    let size = c.requires.pass.at.targets_size in
    let within : c.args.target < length items = omega arith in
    let some : get_or items c.args.target None ≡ Some c.in_ok-source.source = get_or_default items c.args.target None c.index.result.now within ∙ sym c.index.ensures ∙ c.in_ok-source.was in
    let both = at_least_one c.args.self.now c.requires.pass.pass c.args.target c.in_ok-source.source c.requires.pass.at c.requires.within some in
    (both.0, omega arith)
