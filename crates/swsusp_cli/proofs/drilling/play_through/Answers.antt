use Rattle.std.proofs.Common.{◌++◌, List, [], ◌∷◌, take, get_or, refl, sym, ◌∙◌, subst, arith}
use Rattle.std.proofs.lemmas.List.{length-take}
use Rattle.plain_machine.specs.declared.event.Event.{Event}
use Rattle.plain_machine.specs.declared.event.Event.TheVariants as event
use Rattle.plain_machine.specs.declared.event.BootFrom.TheVariants.{Fresh}
use Rattle.swsusp_cli.specs.Playing.{HasPlayed}
use Rattle.command_kit.specs.View.{DiskView}
use Rattle.swsusp_cli.proofs.Turns.{one_more, played_none, played_more}
use Rattle.swsusp_cli.proofs.drilling.play_through.Goals as goal

pub loop-event-init : goal.loop-event-init
loop-event-init g c = record {
  played = ([], played_none c.args.world.now (record { blocks = g.D.Disk.block_count c.args.disk.now; content = g.D.Disk.content c.args.disk.now; faults = g.D.Disk.faults c.args.disk.now; calls = g.D.Disk.calls c.args.disk.now; orders = g.D.Disk.orders c.args.disk.now }), c.new-tally.ensures);
  blocks = c.requires.blocks;
  hardware = refl;
}

pub loop-event-preserved : goal.loop-event-preserved
loop-event-preserved g c =
    let events = c.args.events.now in
    let i = c.loop-event.event-index in
    let e = get_or events i (event.Boot Fresh) in
    let inv = c.loop-event.invariant in
    let row = c.event-reply.ensures in
    let r = c.event-reply.result in
    let more = one_more events i (let lt = c.loop-event-test.true in omega arith) in
    let before : DiskView = record { blocks = g.D.Disk.block_count c.args.disk.now; content = g.D.Disk.content c.args.disk.now; faults = g.D.Disk.faults c.args.disk.now; calls = g.D.Disk.calls c.args.disk.now; orders = g.D.Disk.orders c.args.disk.now } in
    let between : DiskView = record { blocks = g.D.Disk.block_count c.loop-event.disk; content = g.D.Disk.content c.loop-event.disk; faults = g.D.Disk.faults c.loop-event.disk; calls = g.D.Disk.calls c.loop-event.disk; orders = g.D.Disk.orders c.loop-event.disk } in
    let now : DiskView = record { blocks = g.D.Disk.block_count c.event-reply.new.disk; content = g.D.Disk.content c.event-reply.new.disk; faults = g.D.Disk.faults c.event-reply.new.disk; calls = g.D.Disk.calls c.event-reply.new.disk; orders = g.D.Disk.orders c.event-reply.new.disk } in
    let rs = inv.played.0 in
    record {
      played = (
        rs ++ r ∷ [],
        subst (λ (es : List Event). HasPlayed c.args.world.now c.event-reply.new.self es (rs ++ r ∷ []) before now) (sym more)
            (played_more c.args.world.now c.loop-event.world c.event-reply.new.self (take i events) rs e r before between now
            (g.met.D.Disk.well_formed c.loop-event.disk) inv.played.1 row.row inv.hardware row.cause row.faults row.calls row.orders),
        c.add.ensures rs inv.played.2,
      );
      blocks = row.blocks;
      hardware = row.hardware ∙ inv.hardware;
    }

pub add-requires : goal.add-requires
add-requires g c =
    let inv = c.loop-event.invariant in
    let i = c.loop-event.event-index in
    let few = c.requires.few in
    let lt = c.loop-event-test.true in
    let part = length-take i c.args.events.now in
    let size = inv.played.1.size in
    (inv.played.0, inv.played.2, omega arith)
