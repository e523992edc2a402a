use Rattle.std.proofs.Common.{inr, refl, Err, ap}
use Rattle.dump_file.specs.Dump.{DumpValue}
use Rattle.command_kit.specs.declared.status.Status.TheVariants.{Done}
use Rattle.swsusp_cli.proofs.Causes.{blameless, done_cause, stop_cause}
use Rattle.swsusp_cli.proofs.Inputs.{without_dump}
use Rattle.machine_cli.specs.Shown.{no_dump, out_of_memory, unread, shown}
use Rattle.machine_cli.proofs.showing.show_facts.Goals as goal

pub returns-in-Err-clause-outcome : goal.returns-in-Err-clause-outcome
returns-in-Err-clause-outcome g c disk = without_dump _ _ _ c.tell.result c.in-Err.stop c.in-Err.ensures.lacks c.tell.ensures.told (refl {a = disk}) (λ e. c.in-Err.ensures.cause (ap Err e)) no_dump out_of_memory unread

pub returns-clause-outcome : goal.returns-clause-outcome
returns-clause-outcome g c disk =
    let dump : DumpValue = record { hw = c.in-Ok.dump.hw; memory = c.in-Ok.dump.frames } in
    shown dump (record { says = λ bytes left. c.in-Ok.ensures.dump bytes left; over = c.in-Ok.ensures.end refl }) c.tell_facts.ensures.told

pub returns-in-Err-clause-cause : goal.returns-in-Err-clause-cause
returns-in-Err-clause-cause g c = stop_cause c.tell.result c.tell.ensures.cause (λ e. c.in-Err.ensures.cause (ap Err e))

pub returns-clause-cause : goal.returns-clause-cause
returns-clause-cause g c = blameless c.tell_facts.result Done Done done_cause refl (λ is. inr (c.tell_facts.ensures.stream is)) c.tell_facts.ensures.status
