use Rattle.std.proofs.Common.{refl, length, nat_lt, not, arith, sym, ap, ◌∙◌}
use Rattle.std.proofs.lemmas.Bool.Decides.{nat_tests}
use Rattle.std.proofs.lemmas.Result.{err_from_is_err_and}
use Rattle.script.specs.declared.fault.FaultKind.TheVariants as kind
use Rattle.script.specs.declared.grammar.LineStop.TheVariants as stop
use Rattle.script.specs.Grammar.{first_line, line_item}
use Rattle.script.proofs.ScriptLaws.{line_item-begun, setting_of-begun, kind_after-item, StopsBy-kind_after}
use Rattle.script.proofs.Shapes.{line_item-byte}
use Rattle.script.proofs.reading.Reader.read.Goals as goal

pub returns-in_err-first-clause-fault : goal.returns-in_err-first-clause-fault
returns-in_err-first-clause-fault c =
    let p = err_from_is_err_and c.from_residual.result c.from_residual.ensures.1 in
    let byte = c.in_err-first.ensures.byte in
    let begun = nat_lt 0 (length c.args.self.now.events) in
    rw (p.1, p.2, byte.0) (StopsBy-kind_after c.args.self.now.settings c.args.self.now.events (first_line c.args.text.now) begun (stop.Fault kind.Byte) refl (line_item-byte begun (first_line c.args.text.now) byte.1))

pub returns-in_err-item-clause-fault : goal.returns-in_err-item-clause-fault
returns-in_err-item-clause-fault c =
    let p = err_from_is_err_and c.from_residual-in_err-item.result c.from_residual-in_err-item.ensures.1 in
    let begun = not c.is_empty.result in
    let says = ap (line_item begun) (sym c.in_ok-first.ensures.line) ∙ sym c.item_of_line.ensures.says ∙ c.in_err-item.was in
    rw (p.1, p.2) (StopsBy-kind_after c.args.self.now.settings c.args.self.now.events (first_line c.args.text.now) begun (stop.Fault c.in_err-item.field-0.0) (grind (arith, nat_tests, c.is_empty.ensures)) says)

pub add-requires-clause-early : goal.add-requires-clause-early
add-requires-clause-early c =
    let begun = not c.is_empty.result in
    let says = ap (line_item begun) (sym c.in_ok-first.ensures.line) ∙ sym c.item_of_line.ensures.says ∙ c.in_ok-item.was in
    λ some. setting_of-begun c.args.self.now.events (first_line c.args.text.now) begun c.in_ok-item.item (grind (arith, nat_tests, c.is_empty.ensures)) says some

pub returns-in_err-add-clause-fault : goal.returns-in_err-add-clause-fault
returns-in_err-add-clause-fault c =
    let p = err_from_is_err_and c.from_residual-in_err-add.result c.from_residual-in_err-add.ensures.1 in
    let begun = not c.is_empty.result in
    let says = ap (line_item begun) (sym c.in_ok-first.ensures.line) ∙ sym c.item_of_line.ensures.says ∙ c.in_ok-item.was in
    let h = kind_after-item c.args.self.now.settings c.args.self.now.events (first_line c.args.text.now) begun c.in_ok-item.item (grind (arith, nat_tests, c.is_empty.ensures)) says in
    rw (p.1, p.2, h) c.in_err-add.ensures.fault

pub returns-clause-settings : goal.returns-clause-settings
returns-clause-settings c =
    let begun = not c.is_empty.result in
    let says = ap (line_item begun) (sym c.in_ok-first.ensures.line) ∙ sym c.item_of_line.ensures.says ∙ c.in_ok-item.was in
    let h = line_item-begun begun (first_line c.args.text.now) c.in_ok-item.item says in
    rw h c.in_ok-add.ensures.settings

pub returns-clause-events : goal.returns-clause-events
returns-clause-events c =
    let begun = not c.is_empty.result in
    let says = ap (line_item begun) (sym c.in_ok-first.ensures.line) ∙ sym c.item_of_line.ensures.says ∙ c.in_ok-item.was in
    let h = line_item-begun begun (first_line c.args.text.now) c.in_ok-item.item says in
    rw h c.in_ok-add.ensures.events

pub returns-clause-none : goal.returns-clause-none
returns-clause-none c =
    let begun = not c.is_empty.result in
    let says = ap (line_item begun) (sym c.in_ok-first.ensures.line) ∙ sym c.item_of_line.ensures.says ∙ c.in_ok-item.was in
    let h = kind_after-item c.args.self.now.settings c.args.self.now.events (first_line c.args.text.now) begun c.in_ok-item.item (grind (arith, nat_tests, c.is_empty.ensures)) says in
    rw h c.in_ok-add.ensures.none
