use Rattle.std.proofs.Common.{refl}
use Rattle.command_kit.specs.declared.status.Status.TheVariants.{Done}
use Rattle.swsusp_cli.proofs.Causes.{blameless, done_cause}
use Rattle.swsusp_cli.proofs.resuming.tell_end.Goals as goal

pub returns-clause-cause : goal.returns-clause-cause
returns-clause-cause g c = blameless c.tell_dump.result Done Done done_cause refl c.tell_dump.ensures.stream c.tell_dump.ensures.status
