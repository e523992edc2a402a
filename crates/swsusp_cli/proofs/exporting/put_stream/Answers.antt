use Rattle.std.proofs.Common.{ℕ, List, arith, subst, sym}
use Rattle.byte_streams.proofs.Taken.{TakesFront-all}
use Rattle.swsusp_cli.proofs.Streaming.{IsWritten, part_written, part_front, none_left, all_written}
use Rattle.swsusp_cli.proofs.exporting.put_stream.Goals as goal

pub returns-then-count-eq0-clause-whole : goal.returns-then-count-eq0-clause-whole
returns-then-count-eq0-clause-whole g c =
    all_written c.args.stream.now c.pieces.stream (g.S.Sink.taken c.args.sink.now) (g.S.Sink.taken c.pieces.sink) c.pieces.invariant.written
    (none_left c.pieces.stream c.pieces.piece c.next-count.result c.next-count.ensures.count c.if-count-eq0.true c.pieces.invariant.some)

pub returns-then-count-eq0-clause-front : goal.returns-then-count-eq0-clause-front
returns-then-count-eq0-clause-front g c =
    let old = g.S.Sink.taken c.args.sink.now in
    let now = g.S.Sink.taken c.pieces.sink in
    TakesFront-all c.args.stream.now old now
    (all_written c.args.stream.now c.pieces.stream old now c.pieces.invariant.written
    (none_left c.pieces.stream c.pieces.piece c.next-count.result c.next-count.ensures.count c.if-count-eq0.true c.pieces.invariant.some))

pub pieces-preserved : goal.pieces-preserved
pieces-preserved g c =
    let so_far = c.pieces.invariant in
    let count = c.next-count.result in
    let old = g.S.Sink.taken c.args.sink.now in
    let now = g.S.Sink.taken c.pieces.sink in
    let new = g.S.Sink.taken c.put_all.new.sink in
    record {
      some = let size = c.next-count.auto.into in let before = so_far.some in omega arith;
      written =
          subst (λ (left : List ℕ). IsWritten c.args.stream.now left old new) (sym c.next-count.ensures.left)
          (part_written c.args.stream.now c.pieces.stream c.pieces.piece c.next-count.new.into count old now new so_far.written c.next-count.ensures.count c.next-count.ensures.bytes c.in_ok-put_all.ensures.whole);
      counted = omega (arith, so_far.counted, c.put_all.ensures.counted);
    }

pub returns-in_err-put_all-clause-front : goal.returns-in_err-put_all-clause-front
returns-in_err-put_all-clause-front g c =
    part_front c.args.stream.now c.pieces.stream c.pieces.piece c.next-count.new.into c.next-count.result (g.S.Sink.taken c.args.sink.now) (g.S.Sink.taken c.pieces.sink) (g.S.Sink.taken c.put_all.new.sink)
    c.pieces.invariant.written c.next-count.ensures.count c.next-count.ensures.bytes c.put_all.ensures.front
