use Rattle.plain_machine.specs.declared.event.Event.TheVariants as event
use Rattle.command_core.proofs.Playing.{played_one}
use Rattle.command_core.proofs.Runs.{asked, only_one, ran}
use Rattle.command_core.proofs.hibernation.hibernate.Goals as goal
use Rattle.std.proofs.Common.{inl}

pub returns-in-Err-clause-ran : goal.returns-in-Err-clause-ran
returns-in-Err-clause-ran g c =
    let failed = c.in-Err.ensures.ran in
    let disk = c.args.disk.now in (
      failed.0,
      failed.1,
      inl failed.2,
      ran g.D.Disk c.args.world.now c.start.new.world failed.0 failed.1 disk c.start.new.disk c.requires.new (g.met.D.Disk.well_formed disk)
          (λ v w told tells left. only_one (g.D.Disk.content disk) v w told (g.met.D.Disk.only_now disk w tells left)) failed.3,
    )

pub returns-clause-ran : goal.returns-clause-ran
returns-clause-ran g c =
    let row = c.event-begun.ensures in
    let disk = c.args.disk.now in
    let all = asked g.D.Disk c.args.format c.args.size c.args.world.now c.start.new.world c.event-begun.new.self c.finish.new.world c.event-begun.result c.finish.result
    disk c.start.new.disk c.event-begun.new.disk c.finish.new.disk c.in-Ok.ensures.ran
    (played_one g.D.Disk c.start.new.world c.event-begun.new.self (event.Hibernate c.args.format) c.event-begun.result c.start.new.disk c.event-begun.new.disk (g.met.D.Disk.well_formed c.event-begun.new.disk) tt row.hardware row.row row.restored row.cause row.faults row.calls row.telling row.time)
    c.finish.ensures.ran in (
      all.0,
      all.1,
      all.2,
      ran g.D.Disk c.args.world.now c.finish.new.world all.0 all.1 disk c.finish.new.disk c.requires.new (g.met.D.Disk.well_formed disk)
          (λ v w told tells left. only_one (g.D.Disk.content disk) v w told (g.met.D.Disk.only_now disk w tells left)) all.3,
    )
