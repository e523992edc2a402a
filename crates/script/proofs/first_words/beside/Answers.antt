use Rattle.std.proofs.Common.{◌∙◌, sym, ap, arith}
use Rattle.std.specs.Option.{option_map}
use Rattle.std.specs.Str.{bytes_eq}
use Rattle.script.specs.Items.{beside}
use Rattle.script.proofs.BesideLaws.{found_here, passed_over, none_left}
use Rattle.script.proofs.first_words.beside.Goals as goal

pub returns-then-eq : goal.returns-then-eq
unfolding beside
returns-then-eq g c =
    let here = found_here (λ row. bytes_eq row.0.now c.args.word.now) c.args.table.now c.loop-name.name-index c.loop-name-item.result (omega arith) c.loop-name-item.is (sym c.eq.ensures ∙ c.if-eq.true) in
    sym (ap (option_map (λ row. row.1)) (sym c.loop-name.invariant ∙ here))

pub returns : goal.returns
unfolding beside
returns g c =
    let none = none_left (λ row. bytes_eq row.0.now c.args.word.now) c.args.table.now c.loop-name.name-index (omega arith) in
    sym (ap (option_map (λ row. row.1)) (sym c.loop-name.invariant ∙ none))

pub loop-name-preserved : goal.loop-name-preserved
loop-name-preserved g c = passed_over (λ row. bytes_eq row.0.now c.args.word.now) c.args.table.now c.loop-name.name-index c.loop-name-item.result (omega arith) c.loop-name-item.is (sym c.eq.ensures ∙ c.if-eq.false) ∙ c.loop-name.invariant
