use Rattle.std.proofs.Common.{◌≡◌, ◌+◌, ◌++◌, ℕ, List, [], ◌∷◌, take, get_or, refl, sym, ap, ◌∙◌, subst, arith}
use Rattle.std.proofs.lemmas.List.{take_all}
use Rattle.definitions.specs.Streams.{TakesAll, TakesFront}
use Rattle.definitions.proofs.Pieces.{Takes-none}
use Rattle.byte_streams.proofs.Taken.{TakesFront-second}
use Rattle.plain_machine.specs.declared.event.Event.{Event}
use Rattle.plain_machine.specs.declared.event.Event.TheVariants as event
use Rattle.plain_machine.specs.declared.event.BootFrom.TheVariants.{Fresh}
use Rattle.run_picture.specs.Lanes.{after, first, lanes_after}
use Rattle.run_picture.specs.Picture.{column, columns}
use Rattle.run_picture.specs.Telling.{told_by}
use Rattle.run_picture.specs.declared.lanes.Lanes.{Lanes}
use Rattle.run_picture.proofs.Columns.{columns_more, columns_none, lanes_more}
use Rattle.swsusp_cli.specs.Playing.{HasPlayed}
use Rattle.command_kit.specs.View.{DiskView}
use Rattle.swsusp_cli.proofs.Turns.{one_more, played_none, played_more, taken_more}
use Rattle.machine_cli.proofs.drawing.draw_events.Goals as goal

pub loop-event-init : goal.loop-event-init
loop-event-init g c = record {
  played = (
    [],
    played_none c.args.world.now (record { blocks = g.D.Disk.block_count c.args.disk.now; content = g.D.Disk.content c.args.disk.now; faults = g.D.Disk.faults c.args.disk.now; calls = g.D.Disk.calls c.args.disk.now; orders = g.D.Disk.orders c.args.disk.now }),
    subst (λ (t : List ℕ). TakesAll t (g.O.Sink.taken c.args.out.now) (g.O.Sink.taken c.args.out.now)) (sym (columns_none first [])) (Takes-none [] (g.O.Sink.taken c.args.out.now)),
    c.new-lanes.ensures,
  );
  column = ap (λ (l : Lanes). l.column) c.new-lanes.ensures;
  blocks = c.requires.blocks;
  hardware = refl;
  stream = omega arith;
}

pub loop-event-preserved : goal.loop-event-preserved
loop-event-preserved g c =
    let events = c.args.events.now in
    let i = c.loop-event.event-index in
    let e = get_or events i (event.Boot Fresh) in
    let inv = c.loop-event.invariant in
    let row = c.event-reply.ensures in
    let r = c.event-reply.result in
    let more = one_more events i (let lt = c.loop-event-test.true in omega arith) in
    let before : DiskView = record { blocks = g.D.Disk.block_count c.args.disk.now; content = g.D.Disk.content c.args.disk.now; faults = g.D.Disk.faults c.args.disk.now; calls = g.D.Disk.calls c.args.disk.now; orders = g.D.Disk.orders c.args.disk.now } in
    let between : DiskView = record { blocks = g.D.Disk.block_count c.loop-event.disk; content = g.D.Disk.content c.loop-event.disk; faults = g.D.Disk.faults c.loop-event.disk; calls = g.D.Disk.calls c.loop-event.disk; orders = g.D.Disk.orders c.loop-event.disk } in
    let now : DiskView = record { blocks = g.D.Disk.block_count c.event-reply.new.disk; content = g.D.Disk.content c.event-reply.new.disk; faults = g.D.Disk.faults c.event-reply.new.disk; calls = g.D.Disk.calls c.event-reply.new.disk; orders = g.D.Disk.orders c.event-reply.new.disk } in
    let old_out = g.O.Sink.taken c.args.out.now in
    let mid_out = g.O.Sink.taken c.loop-event.out in
    let new_out = g.O.Sink.taken c.put_event.new.out in
    let rs = inv.played.0 in
    let es = take i events in
    let size = inv.played.1.size in
    let played = subst (λ (xs : List Event). HasPlayed c.args.world.now c.event-reply.new.self xs (rs ++ r ∷ []) before now) (sym more)
    (played_more c.args.world.now c.loop-event.world c.event-reply.new.self es rs e r before between now
    (g.met.D.Disk.well_formed c.loop-event.disk) inv.played.1 row.row inv.hardware row.cause row.faults row.calls row.orders) in
    let text : columns first (take (i + 1) events) (rs ++ r ∷ []) ≡ columns first es rs ++ column (lanes_after first es rs) e r =
    ap (λ (xs : List Event). columns first xs (rs ++ r ∷ [])) more ∙ columns_more first es rs e r size in
    let one = subst (λ (l : Lanes). TakesAll (column l e r) mid_out new_out) inv.played.3 c.in-Ok.ensures.whole in
    record {
      played = (
        rs ++ r ∷ [],
        played,
        subst (λ (t : List ℕ). TakesAll t old_out new_out) (sym text)
            (taken_more (columns first es rs) (column (lanes_after first es rs) e r) old_out mid_out new_out inv.played.2 one),
        c.put_event.ensures.lanes ∙ ap (λ (l : Lanes). after l e (told_by r)) inv.played.3 ∙ sym (lanes_more first es rs e r size)
            ∙ sym (ap (λ (xs : List Event). lanes_after first xs (rs ++ r ∷ [])) more),
      );
      column = ap (λ (l : Lanes). l.column) c.put_event.ensures.lanes ∙ ap (λ (n : ℕ). n + 1) inv.column;
      blocks = row.blocks;
      hardware = row.hardware ∙ inv.hardware;
      stream = let a = inv.stream in let b = c.put_event.ensures.counted in omega arith;
    }

pub returns-in-Err-clause-drawn : goal.returns-in-Err-clause-drawn
returns-in-Err-clause-drawn g c =
    let events = c.args.events.now in
    let i = c.loop-event.event-index in
    let e = get_or events i (event.Boot Fresh) in
    let inv = c.loop-event.invariant in
    let row = c.event-reply.ensures in
    let r = c.event-reply.result in
    let more = one_more events i (let lt = c.loop-event-test.true in omega arith) in
    let before : DiskView = record { blocks = g.D.Disk.block_count c.args.disk.now; content = g.D.Disk.content c.args.disk.now; faults = g.D.Disk.faults c.args.disk.now; calls = g.D.Disk.calls c.args.disk.now; orders = g.D.Disk.orders c.args.disk.now } in
    let between : DiskView = record { blocks = g.D.Disk.block_count c.loop-event.disk; content = g.D.Disk.content c.loop-event.disk; faults = g.D.Disk.faults c.loop-event.disk; calls = g.D.Disk.calls c.loop-event.disk; orders = g.D.Disk.orders c.loop-event.disk } in
    let now : DiskView = record { blocks = g.D.Disk.block_count c.event-reply.new.disk; content = g.D.Disk.content c.event-reply.new.disk; faults = g.D.Disk.faults c.event-reply.new.disk; calls = g.D.Disk.calls c.event-reply.new.disk; orders = g.D.Disk.orders c.event-reply.new.disk } in
    let old_out = g.O.Sink.taken c.args.out.now in
    let mid_out = g.O.Sink.taken c.loop-event.out in
    let new_out = g.O.Sink.taken c.put_event.new.out in
    let rs = inv.played.0 in
    let es = take i events in
    let played = subst (λ (xs : List Event). HasPlayed c.args.world.now c.event-reply.new.self xs (rs ++ r ∷ []) before now) (sym more)
    (played_more c.args.world.now c.loop-event.world c.event-reply.new.self es rs e r before between now
    (g.met.D.Disk.well_formed c.loop-event.disk) inv.played.1 row.row inv.hardware row.cause row.faults row.calls row.orders) in
    let text : columns first (take (i + 1) events) (rs ++ r ∷ []) ≡ columns first es rs ++ column (lanes_after first es rs) e r =
    ap (λ (xs : List Event). columns first xs (rs ++ r ∷ [])) more ∙ columns_more first es rs e r inv.played.1.size in
    let front = subst (λ (l : Lanes). TakesFront (column l e r) mid_out new_out) inv.played.3 c.put_event.ensures.front in (
      i + 1,
      rs ++ r ∷ [],
      played,
      subst (λ (t : List ℕ). TakesFront t old_out new_out) (sym text)
          (TakesFront-second (columns first es rs) (column (lanes_after first es rs) e r) old_out mid_out new_out inv.played.2 front),
    )

pub returns-clause-drawn : goal.returns-clause-drawn
returns-clause-drawn g c =
    let events = c.args.events.now in
    let i = c.loop-event.event-index in
    let inv = c.loop-event.invariant in
    let before : DiskView = record { blocks = g.D.Disk.block_count c.args.disk.now; content = g.D.Disk.content c.args.disk.now; faults = g.D.Disk.faults c.args.disk.now; calls = g.D.Disk.calls c.args.disk.now; orders = g.D.Disk.orders c.args.disk.now } in
    let now : DiskView = record { blocks = g.D.Disk.block_count c.loop-event.disk; content = g.D.Disk.content c.loop-event.disk; faults = g.D.Disk.faults c.loop-event.disk; calls = g.D.Disk.calls c.loop-event.disk; orders = g.D.Disk.orders c.loop-event.disk } in
    let rs = inv.played.0 in
    let all : take i events ≡ events = take_all i events (let end = c.loop-event-test.false in omega arith) in (
      rs,
      subst (λ (xs : List Event). HasPlayed c.args.world.now c.loop-event.world xs rs before now) all inv.played.1,
      subst (λ (xs : List Event). TakesAll (columns first xs rs) (g.O.Sink.taken c.args.out.now) (g.O.Sink.taken c.loop-event.out)) all inv.played.2,
    )
