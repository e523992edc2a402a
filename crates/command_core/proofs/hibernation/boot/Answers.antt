use Rattle.std.proofs.Common.{sym, ◌∙◌}
use Rattle.plain_machine.specs.declared.event.Actor.TheVariants as actor
use Rattle.plain_machine.specs.declared.event.BootFrom.TheVariants.{Kept}
use Rattle.plain_machine.specs.declared.event.Event.TheVariants as event
use Rattle.command_core.proofs.Playing.{played_one}
use Rattle.command_core.proofs.Runs.{boots_unsynced, boots_unread, boots_up}
use Rattle.command_core.proofs.hibernation.boot.Goals as goal

pub returns-then-not-goes_on-clause-ran : goal.returns-then-not-goes_on-clause-ran
returns-then-not-goes_on-clause-ran g c =
    let one = c.event-synced.ensures in
    let two = c.event-synced-2.ensures in
    boots_unsynced g.D.Disk c.args.world.now c.event-synced.new.self c.event-synced-2.new.self c.event-synced.result c.event-synced-2.result c.after.result
    c.args.disk.now c.event-synced.new.disk c.event-synced-2.new.disk c.after.ensures.reply c.after.ensures.failed (sym c.goes_on.ensures ∙ c.if-not-goes_on.true)
    (played_one g.D.Disk c.args.world.now c.event-synced.new.self (event.Boot Kept) c.event-synced.result c.args.disk.now c.event-synced.new.disk (g.met.D.Disk.well_formed c.event-synced.new.disk) tt one.hardware one.row one.restored one.cause one.faults one.calls one.telling one.time)
    (played_one g.D.Disk c.event-synced.new.self c.event-synced-2.new.self (event.Step actor.Core) c.event-synced-2.result c.event-synced.new.disk c.event-synced-2.new.disk (g.met.D.Disk.well_formed c.event-synced-2.new.disk) tt two.hardware two.row two.restored two.cause two.faults two.calls two.telling two.time)

pub returns-then-not-is_booted-clause-ran : goal.returns-then-not-is_booted-clause-ran
returns-then-not-is_booted-clause-ran g c =
    let one = c.event-synced.ensures in
    let two = c.event-synced-2.ensures in
    let three = c.event-read.ensures in
    boots_unread g.D.Disk c.args.world.now c.event-synced.new.self c.event-synced-2.new.self c.event-read.new.self c.event-synced.result c.event-synced-2.result c.event-read.result
    c.after-then-not-is_booted.result c.args.disk.now c.event-synced.new.disk c.event-synced-2.new.disk c.event-read.new.disk c.after-then-not-is_booted.ensures.reply c.after-then-not-is_booted.ensures.failed
    (sym c.goes_on.ensures ∙ c.if-not-goes_on.false) (sym c.is_booted.ensures ∙ c.if-not-is_booted.true)
    (played_one g.D.Disk c.args.world.now c.event-synced.new.self (event.Boot Kept) c.event-synced.result c.args.disk.now c.event-synced.new.disk (g.met.D.Disk.well_formed c.event-synced.new.disk) tt one.hardware one.row one.restored one.cause one.faults one.calls one.telling one.time)
    (played_one g.D.Disk c.event-synced.new.self c.event-synced-2.new.self (event.Step actor.Core) c.event-synced-2.result c.event-synced.new.disk c.event-synced-2.new.disk (g.met.D.Disk.well_formed c.event-synced-2.new.disk) tt two.hardware two.row two.restored two.cause two.faults two.calls two.telling two.time)
    (played_one g.D.Disk c.event-synced-2.new.self c.event-read.new.self (event.Step actor.Core) c.event-read.result c.event-synced-2.new.disk c.event-read.new.disk (g.met.D.Disk.well_formed c.event-read.new.disk) tt three.hardware three.row three.restored three.cause three.faults three.calls three.telling three.time)

pub returns-clause-ran : goal.returns-clause-ran
returns-clause-ran g c =
    let one = c.event-synced.ensures in
    let two = c.event-synced-2.ensures in
    let three = c.event-read.ensures in
    boots_up g.D.Disk c.args.world.now c.event-synced.new.self c.event-synced-2.new.self c.event-read.new.self c.event-synced.result c.event-synced-2.result c.event-read.result
    c.args.disk.now c.event-synced.new.disk c.event-synced-2.new.disk c.event-read.new.disk
    (sym c.goes_on.ensures ∙ c.if-not-goes_on.false) (sym c.is_booted.ensures ∙ c.if-not-is_booted.false)
    (played_one g.D.Disk c.args.world.now c.event-synced.new.self (event.Boot Kept) c.event-synced.result c.args.disk.now c.event-synced.new.disk (g.met.D.Disk.well_formed c.event-synced.new.disk) tt one.hardware one.row one.restored one.cause one.faults one.calls one.telling one.time)
    (played_one g.D.Disk c.event-synced.new.self c.event-synced-2.new.self (event.Step actor.Core) c.event-synced-2.result c.event-synced.new.disk c.event-synced-2.new.disk (g.met.D.Disk.well_formed c.event-synced-2.new.disk) tt two.hardware two.row two.restored two.cause two.faults two.calls two.telling two.time)
    (played_one g.D.Disk c.event-synced-2.new.self c.event-read.new.self (event.Step actor.Core) c.event-read.result c.event-synced-2.new.disk c.event-read.new.disk (g.met.D.Disk.well_formed c.event-read.new.disk) tt three.hardware three.row three.restored three.cause three.faults three.calls three.telling three.time)
