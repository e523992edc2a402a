use Rattle.std.proofs.Common.{◌≡◌, ◌++◌, List, [], take, length, sym, subst, arith}
use Rattle.std.proofs.lemmas.List.{take_all}
use Rattle.definitions.specs.Streams.{TakesFront}
use Rattle.plain_machine.specs.declared.event.Event.{Event}
use Rattle.byte_streams.proofs.Taken.{TakesAll-both, TakesFront-first, TakesFront-second}
use Rattle.run_picture.specs.Lanes.{first}
use Rattle.run_picture.specs.Picture.{columns, foot, head, pictured}
use Rattle.swsusp_cli.specs.Playing.{HasPlayed}
use Rattle.command_kit.specs.View.{DiskView}
use Rattle.command_core.proofs.Counted.{risen_earlier}
use Rattle.swsusp_cli.proofs.Turns.{played_none}
use Rattle.machine_cli.proofs.drawing.draw_run.Goals as goal

pub returns-in-Err-clause-drawn : goal.returns-in-Err-clause-drawn
returns-in-Err-clause-drawn g c =
    let n = length c.args.events.now in
    let old = g.O.Sink.taken c.args.out.now in
    let new = g.O.Sink.taken c.put_head.new.out in
    let none = columns first (take 0 c.args.events.now) [] in
    let front = c.put_head.ensures.front in (
      0,
      [],
      played_none c.args.world.now (record { blocks = g.D.Disk.block_count c.args.disk.now; content = g.D.Disk.content c.args.disk.now; faults = g.D.Disk.faults c.args.disk.now; calls = g.D.Disk.calls c.args.disk.now; orders = g.D.Disk.orders c.args.disk.now }),
      TakesFront-first (head n ++ none) foot old new (TakesFront-first (head n) none old new front),
    )

pub returns-in-Err-draw_events-clause-drawn : goal.returns-in-Err-draw_events-clause-drawn
returns-in-Err-draw_events-clause-drawn g c =
    let n = length c.args.events.now in
    let old = g.O.Sink.taken c.args.out.now in
    let mid = g.O.Sink.taken c.put_head.new.out in
    let new = g.O.Sink.taken c.draw_events.new.out in
    let k = c.in-Err-draw_events.ensures.drawn.0 in
    let rs = c.in-Err-draw_events.ensures.drawn.1 in
    let some = columns first (take k c.args.events.now) rs in
    let whole = c.in-Ok.ensures.whole in (
      k,
      rs,
      c.in-Err-draw_events.ensures.drawn.2,
      TakesFront-first (head n ++ some) foot old new (TakesFront-second (head n) some old mid new whole c.in-Err-draw_events.ensures.drawn.3),
    )

pub returns-in-Ok-put_foot-clause-drawn : goal.returns-in-Ok-put_foot-clause-drawn
returns-in-Ok-put_foot-clause-drawn g c =
    let n = length c.args.events.now in
    let old = g.O.Sink.taken c.args.out.now in
    let mid = g.O.Sink.taken c.put_head.new.out in
    let then = g.O.Sink.taken c.draw_events.new.out in
    let new = g.O.Sink.taken c.put_foot.new.out in
    let rs = c.in-Ok-draw_events.ensures.drawn.0 in
    let all = columns first c.args.events.now rs in
    let whole = c.in-Ok.ensures.whole in (
      rs,
      c.in-Ok-draw_events.ensures.drawn.1,
      TakesAll-both (head n ++ all) foot old then new (TakesAll-both (head n) all old mid then whole c.in-Ok-draw_events.ensures.drawn.2) c.in-Ok-put_foot.ensures.whole,
    )

pub returns-in-Err-put_foot-clause-drawn : goal.returns-in-Err-put_foot-clause-drawn
returns-in-Err-put_foot-clause-drawn g c =
    let events = c.args.events.now in
    let n = length events in
    let old = g.O.Sink.taken c.args.out.now in
    let mid = g.O.Sink.taken c.put_head.new.out in
    let then = g.O.Sink.taken c.draw_events.new.out in
    let new = g.O.Sink.taken c.put_foot.new.out in
    let before : DiskView = record { blocks = g.D.Disk.block_count c.args.disk.now; content = g.D.Disk.content c.args.disk.now; faults = g.D.Disk.faults c.args.disk.now; calls = g.D.Disk.calls c.args.disk.now; orders = g.D.Disk.orders c.args.disk.now } in
    let now : DiskView = record { blocks = g.D.Disk.block_count c.draw_events.new.disk; content = g.D.Disk.content c.draw_events.new.disk; faults = g.D.Disk.faults c.draw_events.new.disk; calls = g.D.Disk.calls c.draw_events.new.disk; orders = g.D.Disk.orders c.draw_events.new.disk } in
    let rs = c.in-Ok-draw_events.ensures.drawn.0 in
    let whole = c.in-Ok.ensures.whole in
    let drawn = TakesAll-both (head n) (columns first events rs) old mid then whole c.in-Ok-draw_events.ensures.drawn.2 in
    let all : take n events ≡ events = take_all n events (omega arith) in (
      n,
      rs,
      subst (λ (xs : List Event). HasPlayed c.args.world.now c.draw_events.new.world xs rs before now) (sym all) c.in-Ok-draw_events.ensures.drawn.1,
      subst (λ (xs : List Event). TakesFront (pictured n xs rs) old new) (sym all)
          (TakesFront-second (head n ++ columns first events rs) foot old then new drawn c.put_foot.ensures.front),
    )

pub returns-in-Err-draw_events-clause-stream : goal.returns-in-Err-draw_events-clause-stream
returns-in-Err-draw_events-clause-stream g c = risen_earlier _ _ _ c.put_head.ensures.counted c.in-Err-draw_events.ensures.stream

pub returns-in-Err-put_foot-clause-stream : goal.returns-in-Err-put_foot-clause-stream
returns-in-Err-put_foot-clause-stream g c =
    risen_earlier _ _ _ (let a = c.put_head.ensures.counted in let b = c.draw_events.ensures.stream_faults in omega arith) c.in-Err-put_foot.ensures.cause
