use Rattle.std.proofs.Common.{inr, ◌+◌, ◌++◌, ℕ, List, [], ◌∷◌, take, get_or, refl, sym, ◌∙◌, subst, arith}
use Rattle.definitions.specs.Streams.{TakesAll}
use Rattle.definitions.proofs.Pieces.{Takes-none}
use Rattle.plain_machine.specs.Replies.{text_of, line_of}
use Rattle.plain_machine.specs.declared.event.Event.{Event}
use Rattle.plain_machine.specs.declared.event.Event.TheVariants as event
use Rattle.plain_machine.specs.declared.event.BootFrom.TheVariants.{Fresh}
use Rattle.swsusp_cli.specs.Playing.{HasPlayed}
use Rattle.command_kit.specs.View.{DiskView}
use Rattle.swsusp_cli.proofs.Turns.{one_more, played_none, played_more, taken_more, text_more}
use Rattle.swsusp_cli.proofs.playing.play.Goals as goal

pub loop-event-init : goal.loop-event-init
loop-event-init g c = record {
  played = ([], played_none c.args.world.now (record { blocks = g.D.Disk.block_count c.args.disk.now; content = g.D.Disk.content c.args.disk.now; faults = g.D.Disk.faults c.args.disk.now; calls = g.D.Disk.calls c.args.disk.now; orders = g.D.Disk.orders c.args.disk.now }), Takes-none [] (g.O.Sink.taken c.args.out.now));
  blocks = c.requires.blocks;
  hardware = refl;
  stream = omega arith;
}

pub loop-event-preserved : goal.loop-event-preserved
loop-event-preserved g c =
    let events = c.args.events.now in
    let i = c.loop-event.event-index in
    let e = get_or events i (event.Boot Fresh) in
    let inv = c.loop-event.invariant in
    let row = c.event-reply.ensures in
    let r = c.event-reply.result in
    let more = one_more events i (let lt = c.loop-event-test.true in omega arith) in
    let before : DiskView = record { blocks = g.D.Disk.block_count c.args.disk.now; content = g.D.Disk.content c.args.disk.now; faults = g.D.Disk.faults c.args.disk.now; calls = g.D.Disk.calls c.args.disk.now; orders = g.D.Disk.orders c.args.disk.now } in
    let between : DiskView = record { blocks = g.D.Disk.block_count c.loop-event.disk; content = g.D.Disk.content c.loop-event.disk; faults = g.D.Disk.faults c.loop-event.disk; calls = g.D.Disk.calls c.loop-event.disk; orders = g.D.Disk.orders c.loop-event.disk } in
    let now : DiskView = record { blocks = g.D.Disk.block_count c.event-reply.new.disk; content = g.D.Disk.content c.event-reply.new.disk; faults = g.D.Disk.faults c.event-reply.new.disk; calls = g.D.Disk.calls c.event-reply.new.disk; orders = g.D.Disk.orders c.event-reply.new.disk } in
    let old_out = g.O.Sink.taken c.args.out.now in
    let mid_out = g.O.Sink.taken c.loop-event.out in
    let new_out = g.O.Sink.taken c.print_reply.new.out in
    let rs = inv.played.0 in
    let played = subst (λ (es : List Event). HasPlayed c.args.world.now c.event-reply.new.self es (rs ++ r ∷ []) before now) (sym more)
    (played_more c.args.world.now c.loop-event.world c.event-reply.new.self (take i events) rs e r before between now
    (g.met.D.Disk.well_formed c.loop-event.disk) inv.played.1 row.row inv.hardware row.cause row.faults row.calls row.orders) in
    record {
      played = (
        rs ++ r ∷ [],
        played,
        subst (λ (t : List ℕ). TakesAll t old_out new_out) (sym (text_more rs r)) (taken_more (text_of rs) (line_of r) old_out mid_out new_out inv.played.2 c.in-Ok.ensures.whole),
      );
      blocks = row.blocks;
      hardware = row.hardware ∙ inv.hardware;
      stream = let a = inv.stream in let b = c.print_reply.ensures.counted in omega arith;
    }

pub returns-in-Err-clause-played : goal.returns-in-Err-clause-played
returns-in-Err-clause-played g c =
    let events = c.args.events.now in
    let i = c.loop-event.event-index in
    let e = get_or events i (event.Boot Fresh) in
    let inv = c.loop-event.invariant in
    let row = c.event-reply.ensures in
    let r = c.event-reply.result in
    let more = one_more events i (let lt = c.loop-event-test.true in omega arith) in
    let before : DiskView = record { blocks = g.D.Disk.block_count c.args.disk.now; content = g.D.Disk.content c.args.disk.now; faults = g.D.Disk.faults c.args.disk.now; calls = g.D.Disk.calls c.args.disk.now; orders = g.D.Disk.orders c.args.disk.now } in
    let between : DiskView = record { blocks = g.D.Disk.block_count c.loop-event.disk; content = g.D.Disk.content c.loop-event.disk; faults = g.D.Disk.faults c.loop-event.disk; calls = g.D.Disk.calls c.loop-event.disk; orders = g.D.Disk.orders c.loop-event.disk } in
    let now : DiskView = record { blocks = g.D.Disk.block_count c.event-reply.new.disk; content = g.D.Disk.content c.event-reply.new.disk; faults = g.D.Disk.faults c.event-reply.new.disk; calls = g.D.Disk.calls c.event-reply.new.disk; orders = g.D.Disk.orders c.event-reply.new.disk } in
    let old_out = g.O.Sink.taken c.args.out.now in
    let mid_out = g.O.Sink.taken c.loop-event.out in
    let new_out = g.O.Sink.taken c.print_reply.new.out in
    let rs = inv.played.0 in
    let played = subst (λ (es : List Event). HasPlayed c.args.world.now c.event-reply.new.self es (rs ++ r ∷ []) before now) (sym more)
    (played_more c.args.world.now c.loop-event.world c.event-reply.new.self (take i events) rs e r before between now
    (g.met.D.Disk.well_formed c.loop-event.disk) inv.played.1 row.row inv.hardware row.cause row.faults row.calls row.orders) in (
      i + 1,
      rs ++ r ∷ [],
      played,
      inr (rs, r, refl, mid_out, inv.played.2, c.print_reply.ensures.front),
    )
