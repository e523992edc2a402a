use Rattle.std.proofs.Common.{Ok, sym, ap, ◌∙◌}
use Rattle.std.proofs.lemmas.Result.{err_from_is_err_and}
use Rattle.script.specs.Shapes.{texts}
use Rattle.script.proofs.Shapes.{event_in-core, event_in-fault, event_in-task}
use Rattle.script.proofs.grammar.events_of.Goals as goal

pub returns-in_err-event-clause-says : goal.returns-in_err-event-clause-says
returns-in_err-event-clause-says c =
    let p = err_from_is_err_and c.from_residual.result c.from_residual.ensures.1 in
    rw (p.1, p.2) (sym (event_in-fault c.args.first.now (texts c.args.rest.now) _ (sym c.task_event_of.ensures.says ∙ c.in_err-event.was)))

pub returns-in-Some-clause-says : goal.returns-in-Some-clause-says
returns-in-Some-clause-says c = sym (event_in-task c.args.first.now (texts c.args.rest.now) c.in-Some.event (sym c.task_event_of.ensures.says ∙ c.in_ok-event.was ∙ ap (λ o. Ok o) c.in-Some.is))

pub returns-in-None-clause-says : goal.returns-in-None-clause-says
returns-in-None-clause-says c = c.core_events_of.ensures.says ∙ sym (event_in-core c.args.first.now (texts c.args.rest.now) (sym c.task_event_of.ensures.says ∙ c.in_ok-event.was ∙ ap (λ o. Ok o) c.in-None.is))
