use Rattle.std.proofs.Common.{inr, refl}
use Rattle.command_kit.specs.declared.status.Status.TheVariants.{Done}
use Rattle.swsusp_cli.proofs.Causes.{blameless, done_cause, stop_cause}
use Rattle.image_machine_cli.specs.Given.{made, none}
use Rattle.image_machine_cli.proofs.cores.making.from_core.Goals as goal

pub returns-in-Ok-clause-outcome : goal.returns-in-Ok-clause-outcome
returns-in-Ok-clause-outcome g c = made c.in-Ok.dump c.in-Ok.ensures.dump c.tell_dump.ensures.told

pub returns-in-Err-clause-outcome : goal.returns-in-Err-clause-outcome
returns-in-Err-clause-outcome g c = none c.in-Err.why c.in-Err.ensures.lacks c.tell_why.ensures.told

pub returns-in-Ok-clause-cause : goal.returns-in-Ok-clause-cause
returns-in-Ok-clause-cause g c = blameless c.tell_dump.result Done Done done_cause refl (λ is. inr (c.tell_dump.ensures.stream is)) c.tell_dump.ensures.status

pub returns-in-Err-clause-cause : goal.returns-in-Err-clause-cause
returns-in-Err-clause-cause g c = stop_cause c.tell_why.result c.tell_why.ensures.cause c.in-Err.ensures.cause
