use Rattle.std.proofs.Common.{ℕ, Ok, Option, sym, subst}
use Rattle.command_core.specs.Parts.{Starts}
use Rattle.plain_machine.specs.declared.event.Event.TheVariants as event
use Rattle.command_core.proofs.Playing.{played_one}
use Rattle.command_core.proofs.Runs.{starts_shrunk}
use Rattle.command_core.proofs.hibernation.start.Goals as goal

pub returns-in-Some-clause-ran : goal.returns-in-Some-clause-ran
returns-in-Some-clause-ran g c =
    let row = c.event.ensures in
    subst (λ (size : Option ℕ). Starts g.D.Disk size c.args.world.now c.event.new.self (Ok tt) c.args.disk.now c.event.new.disk) (sym c.in-Some.is)
    (starts_shrunk g.D.Disk c.args.world.now c.boot.new.world c.event.new.self c.in-Some.want c.event.result c.args.disk.now c.boot.new.disk c.event.new.disk c.in-Ok.ensures.ran
    (played_one g.D.Disk c.boot.new.world c.event.new.self (event.Shrink c.in-Some.want) c.event.result c.boot.new.disk c.event.new.disk (g.met.D.Disk.well_formed c.event.new.disk) tt row.hardware row.row row.restored row.cause row.faults row.calls row.telling row.time))

pub returns-in_default-clause-ran : goal.returns-in_default-clause-ran
returns-in_default-clause-ran g c =
    subst (λ (size : Option ℕ). Starts g.D.Disk size c.args.world.now c.boot.new.world (Ok tt) c.args.disk.now c.boot.new.disk) (sym c.in_default.is) c.in-Ok.ensures.ran
