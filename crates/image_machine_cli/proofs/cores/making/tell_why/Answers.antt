use Rattle.std.proofs.Common.{inr, ℕ, List, refl, subst, sym}
use Rattle.command_kit.specs.Told.{RunResult}
use Rattle.command_kit.specs.Told.{IsTold}
use Rattle.command_kit.specs.View.{sink_view}
use Rattle.core_machine.specs.declared.stop.Stop.{Stop}
use Rattle.image_machine_cli.specs.Given.{IsWhyTold}
use Rattle.image_machine_cli.specs.Loads.{refused}
use Rattle.command_kit.specs.declared.status.Status.TheVariants.{Refused, Memory}
use Rattle.swsusp_cli.proofs.Causes.{blameless, memory_cause, refused_cause, stop_cause}
use Rattle.image_machine_cli.proofs.cores.making.tell_why.Goals as goal

pub returns-in-Limit-clause-told : goal.returns-in-Limit-clause-told
returns-in-Limit-clause-told g c =
    let out = sink_view g.O.Sink c.args.out.now in
    let printed = sink_view g.O.Sink c.refuse-in-Limit.new.out in
    let note = sink_view g.N.Sink c.args.note.now in
    let noted = sink_view g.N.Sink c.refuse-in-Limit.new.note in
    subst (λ (w : Stop). IsWhyTold w c.refuse-in-Limit.result out printed note noted) (sym c.in-Limit.is)
    (subst (λ (t : List ℕ). IsTold (refused t) c.refuse-in-Limit.result out printed note noted) c.limit_line.ensures c.refuse-in-Limit.ensures.told)

pub returns-in-Memory-clause-told : goal.returns-in-Memory-clause-told
returns-in-Memory-clause-told g c =
    let out = sink_view g.O.Sink c.args.out.now in
    let printed = sink_view g.O.Sink c.tell-in-Memory.new.out in
    let note = sink_view g.N.Sink c.args.note.now in
    let noted = sink_view g.N.Sink c.tell-in-Memory.new.note in
    subst (λ (w : Stop). IsWhyTold w c.tell-in-Memory.result out printed note noted) (sym c.in-Memory.is)
    (subst (λ (r : RunResult). IsTold r c.tell-in-Memory.result out printed note noted) c.no_memory.ensures.told c.tell-in-Memory.ensures.told)

pub returns-in-Core-clause-cause : goal.returns-in-Core-clause-cause
returns-in-Core-clause-cause g c = blameless c.refuse.result Refused Refused refused_cause refl (λ is. inr (c.refuse.ensures.stream is)) c.refuse.ensures.status

pub returns-in-Limit-clause-cause : goal.returns-in-Limit-clause-cause
returns-in-Limit-clause-cause g c = blameless c.refuse-in-Limit.result Refused Refused refused_cause refl (λ is. inr (c.refuse-in-Limit.ensures.stream is)) c.refuse-in-Limit.ensures.status

pub returns-in-Source-clause-cause : goal.returns-in-Source-clause-cause
returns-in-Source-clause-cause g c = stop_cause c.tell.result c.tell.ensures.cause (λ source. c.in-Source.is)

pub returns-in-Memory-clause-cause : goal.returns-in-Memory-clause-cause
returns-in-Memory-clause-cause g c = blameless c.tell-in-Memory.result c.no_memory.result.status Memory memory_cause c.no_memory.ensures.status (λ is. inr (c.tell-in-Memory.ensures.stream is)) c.tell-in-Memory.ensures.status
