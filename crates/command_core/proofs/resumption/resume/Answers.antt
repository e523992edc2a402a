use Rattle.plain_machine.specs.declared.event.Event.TheVariants as event
use Rattle.plain_machine.specs.declared.event.Loader.TheVariants.{Table}
use Rattle.command_core.proofs.Playing.{played_one}
use Rattle.command_core.proofs.Closer.{few_of_resume}
use Rattle.command_core.proofs.Runs.{only_one, ran, resumed}
use Rattle.command_core.proofs.resumption.resume.Goals as goal

pub returns-clause-ran : goal.returns-clause-ran
returns-clause-ran g c =
    let row = c.event-begun.ensures in
    let disk = c.args.disk.now in
    let all = resumed g.D.Disk c.args.check c.args.world.now c.event-begun.new.self c.finish.new.world c.event-begun.result c.finish.result
    disk c.event-begun.new.disk c.finish.new.disk
    (played_one g.D.Disk c.args.world.now c.event-begun.new.self (event.Resume Table c.args.check) c.event-begun.result disk c.event-begun.new.disk (g.met.D.Disk.well_formed c.event-begun.new.disk) tt row.hardware row.row row.restored row.cause row.faults row.calls row.telling row.time)
    c.finish.ensures.ran in (
      all.0,
      all.1,
      all.2,
      ran g.D.Disk c.args.world.now c.finish.new.world all.0 all.1 disk c.finish.new.disk c.requires.new (g.met.D.Disk.well_formed disk)
          (λ v w told tells left. only_one (g.D.Disk.content disk) v w told (g.met.D.Disk.only_now disk w tells left)) all.3,
    )

pub returns-clause-calls : goal.returns-clause-calls
returns-clause-calls g c =
    few_of_resume Table c.args.check c.args.world.now c.event-begun.new.self c.event-begun.result (g.D.Disk.calls c.args.disk.now) (g.D.Disk.calls c.event-begun.new.disk) (g.D.Disk.calls c.finish.new.disk)
    c.event-begun.ensures.calls c.event-begun.ensures.ends c.finish.ensures.calls
