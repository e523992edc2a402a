use Rattle.std.proofs.Common.{inr, None, refl, subst, Err, ap}
use Rattle.plain_machine.specs.Machine.{Hardware}
use Rattle.world_core.specs.StandsFor.{IsNewWorld}
use Rattle.swsusp_cli.specs.Outcome.{out_of_memory}
use Rattle.command_kit.specs.View.{disk_view}
use Rattle.command_kit.specs.declared.status.Status.TheVariants.{Memory}
use Rattle.swsusp_cli.proofs.Causes.{blameless, memory_cause, stop_cause, told_cause}
use Rattle.swsusp_cli.proofs.Prints.{told_as}
use Rattle.swsusp_cli.proofs.Replays.{not_set_up, risen_of}
use Rattle.swsusp_cli.proofs.Inputs.{without_script}
use Rattle.swsusp_cli.proofs.beginning.begin.Goals as goal

pub returns-in-Err-clause-outcome : goal.returns-in-Err-clause-outcome
returns-in-Err-clause-outcome g c = without_script _ _ c.tell.result c.in-Err.stop c.in-Err.ensures.ready c.tell.ensures.told refl (λ e. c.in-Err.ensures.stream (ap Err e))

pub returns-in-Err-new_world-clause-outcome : goal.returns-in-Err-new_world-clause-outcome
returns-in-Err-new_world-clause-outcome g c = out_of_memory (record {
  told = told_as c.no_memory.ensures.told c.tell-in-Err-new_world.ensures.told;
  untouched = refl {a = disk_view g.D.Disk c.args.disk.now};
})

pub returns-in-Err-set_up-clause-outcome : goal.returns-in-Err-set_up-clause-outcome
returns-in-Err-set_up-clause-outcome g c =
    not_set_up _ _ c.tell-in-Err-set_up.result c.in-Ok.script c.in-Err-set_up.why (record { says = c.in-Ok.ensures.ready.0; over = c.in-Ok.ensures.ready.1; few = c.in-Ok.ensures.few }) c.in-Err-set_up.ensures.outcome
    (told_as c.answer.ensures.told c.tell-in-Err-set_up.ensures.told)

pub returns-in-Err-clause-cause : goal.returns-in-Err-clause-cause
returns-in-Err-clause-cause g c = stop_cause c.tell.result c.tell.ensures.cause (λ e. c.in-Err.ensures.stream (ap Err e))

pub returns-in-Err-new_world-clause-cause : goal.returns-in-Err-new_world-clause-cause
returns-in-Err-new_world-clause-cause g c = blameless c.tell-in-Err-new_world.result c.no_memory.result.status Memory memory_cause c.no_memory.ensures.status (λ is. inr (c.tell-in-Err-new_world.ensures.stream is)) c.tell-in-Err-new_world.ensures.status

pub returns-in-Err-set_up-clause-cause : goal.returns-in-Err-set_up-clause-cause
returns-in-Err-set_up-clause-cause g c = told_cause c.tell-in-Err-set_up.result c.answer.result.status (λ is. inr (c.tell-in-Err-set_up.ensures.stream is)) c.tell-in-Err-set_up.ensures.status c.answer.ensures.cause (risen_of c.in-Ok.script _ _ c.in-Err-set_up.why c.in-Err-set_up.ensures.outcome)

pub returns-in-Ok-set_up-clause-outcome : goal.returns-in-Ok-set_up-clause-outcome
returns-in-Ok-set_up-clause-outcome g c = record {
  script_is = record { says = c.in-Ok.ensures.ready.0; over = c.in-Ok.ensures.ready.1; few = c.in-Ok.ensures.few };
  fits = c.in-Ok.ensures.fits;
  few_bad = c.in-Ok.ensures.few_bad;
  new = subst (λ (h : Hardware). IsNewWorld h None c.in-Ok-new_world.world.value) c.hardware.ensures c.in-Ok-new_world.ensures;
  set_up = c.in-Ok-set_up.ensures.outcome;
  out = refl;
  note = refl;
}
