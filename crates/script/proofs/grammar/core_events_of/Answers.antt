use Rattle.std.proofs.Common.{Ok, sym, ap, ◌∙◌}
use Rattle.std.proofs.lemmas.Result.{err_from_is_err_and}
use Rattle.script.specs.Shapes.{texts}
use Rattle.script.proofs.Shapes.{core_event_in-fault, core_event_in-machine, core_event_in-outside}
use Rattle.script.proofs.grammar.core_events_of.Goals as goal

pub returns-in_err-events-clause-says : goal.returns-in_err-events-clause-says
returns-in_err-events-clause-says c =
    let p = err_from_is_err_and c.from_residual.result c.from_residual.ensures.1 in
    rw (p.1, p.2) (sym (core_event_in-fault c.args.first.now (texts c.args.rest.now) _ (sym c.machine_events_of.ensures.says ∙ c.in_err-events.was)))

pub returns-in-Some-clause-says : goal.returns-in-Some-clause-says
returns-in-Some-clause-says c = sym (core_event_in-machine c.args.first.now (texts c.args.rest.now) c.in-Some.events (sym c.machine_events_of.ensures.says ∙ c.in_ok-events.was ∙ ap (λ o. Ok o) c.in-Some.is))

pub returns-in-None-clause-says : goal.returns-in-None-clause-says
returns-in-None-clause-says c = c.outside_events_of.ensures.says ∙ sym (core_event_in-outside c.args.first.now (texts c.args.rest.now) (sym c.machine_events_of.ensures.says ∙ c.in_ok-events.was ∙ ap (λ o. Ok o) c.in-None.is))
