use Rattle.std.proofs.Common.{◌≤◌, List, length, sym, subst, All}
use Rattle.plain_machine.specs.Fitting.{IsFitting}
use Rattle.script.specs.Shapes.{IsScripted}
use Rattle.plain_machine.specs.declared.event.Event.{Event}
use Rattle.script.proofs.DrillLaws.{all_fit, all_scripted, few_events}
use Rattle.script.proofs.drill.generate.Goals as goal

pub returns-clause-fits : goal.returns-clause-fits
returns-clause-fits c = subst (All IsFitting) (sym c.in-Ok.ensures.events) (all_fit c.args.number c.requires.few)

pub returns-clause-scripted : goal.returns-clause-scripted
returns-clause-scripted c = subst (All IsScripted) (sym c.in-Ok.ensures.events) (all_scripted c.args.number c.requires.few)

pub returns-clause-few_events : goal.returns-clause-few_events
returns-clause-few_events c = subst (λ (es : List Event). length es ≤ 100000) (sym c.in-Ok.ensures.events) (few_events c.args.number c.requires.few)
