use Rattle.std.proofs.Common.{Ok, sym, ap, ◌∙◌}
use Rattle.std.proofs.lemmas.Result.{err_from_is_err_and}
use Rattle.script.specs.Shapes.{texts}
use Rattle.script.proofs.Shapes.{words_item-event, words_item-fault, words_item-setting}
use Rattle.script.proofs.grammar.item_of_words.Goals as goal

pub returns-in_err-count-clause-says : goal.returns-in_err-count-clause-says
returns-in_err-count-clause-says c =
    let p = err_from_is_err_and c.from_residual.result c.from_residual.ensures.1 in
    rw (p.1, p.2) (sym (words_item-fault c.args.begun c.args.first.now (texts c.args.rest.now) _ (sym c.events_of.ensures.says ∙ c.in_err-count.was)))

pub returns-in-Some-clause-says : goal.returns-in-Some-clause-says
returns-in-Some-clause-says c = sym (words_item-event c.args.begun c.args.first.now (texts c.args.rest.now) (c.in-Some.count, c.in-Some.event) (sym c.events_of.ensures.says ∙ c.in_ok-count.was ∙ ap (λ o. Ok o) c.in-Some.is))

pub returns-in-None-clause-says : goal.returns-in-None-clause-says
returns-in-None-clause-says c = c.item_of_setting.ensures.says ∙ sym (words_item-setting c.args.begun c.args.first.now (texts c.args.rest.now) (sym c.events_of.ensures.says ∙ c.in_ok-count.was ∙ ap (λ o. Ok o) c.in-None.is))
