use Rattle.std.proofs.Common.{◌≡◌, ◌≤◌, ℕ, ◌+◌, List, ◌++◌, length, take, Option, Result, Err, refl, sym, ap, ◌∙◌, subst, arith, length-append}
use Rattle.std.proofs.lemmas.Result.{err_from_is_err_and}
use Rattle.std.proofs.lemmas.List.{length-take-le}
use Rattle.std.specs.Prelude.{IfErr, IsTrue}
use Rattle.definitions.specs.Disk.{Content, HasRisen}
use Rattle.stream_in.specs.Session.{IsFed}
use Rattle.stream_in.specs.Holding.{AreOfMap}
use Rattle.swsusp_cli.specs.Feeding.{Feeds, IsOfDisk}
use Rattle.command_kit.specs.View.{DiskView}
use Rattle.swsusp_cli.specs.declared.importing.ImportStop.{ImportStop}
use Rattle.swsusp_cli.proofs.Feeding.{bounded, handed_more, holds_more, keeps_more, called_more, stop_for, risen_from}
use Rattle.swsusp_cli.proofs.Crashed.{headers_then, ready_more, takes_more}
use Rattle.swsusp_cli.proofs.importing.feed_input.Goals as goal

pub pieces-preserved : goal.pieces-preserved
pieces-preserved g c =
    let so_far = c.pieces.invariant in
    let read = c.read_piece.new.piece in
    let count = c.in-Ok.count in
    let bs = so_far.bs in
    let part : List ℕ = take count read in
    let size : length part ≡ count = length-take-le count read c.in-Ok.ensures.count in
    let joined : length (bs ++ part) ≡ length bs + length part = length-append bs part in
    let going = so_far.session in
    let fed : IsFed going.0 (bs ++ part) c.feed.new.self = c.in_ok-feed.ensures.answer.taken going.0 bs going.1 in
    let few : length (bs ++ part) ≤ 268963840 = bounded (bs ++ part) fed.taken.read.sound in
    let before : length bs ≡ c.pieces.taken = so_far.size in
    let first : Option Content = g.D.Disk.content c.args.disk.now in
    let mid : Option Content = g.D.Disk.content c.pieces.disk in
    let last : Option Content = g.D.Disk.content c.feed.new.disk in
    let d : DiskView = record { blocks = g.D.Disk.block_count c.args.disk.now; content = first; faults = g.D.Disk.faults c.args.disk.now; calls = g.D.Disk.calls c.args.disk.now; orders = g.D.Disk.orders c.args.disk.now } in
    let e : DiskView = record { blocks = g.D.Disk.block_count c.pieces.disk; content = mid; faults = g.D.Disk.faults c.pieces.disk; calls = g.D.Disk.calls c.pieces.disk; orders = g.D.Disk.orders c.pieces.disk } in
    let f : DiskView = record { blocks = g.D.Disk.block_count c.feed.new.disk; content = last; faults = g.D.Disk.faults c.feed.new.disk; calls = g.D.Disk.calls c.feed.new.disk; orders = g.D.Disk.orders c.feed.new.disk } in
    record {
      some = let kept = c.read_piece.auto.piece in let some = so_far.some in omega arith;
      counted = omega (arith, so_far.counted, c.read_piece.ensures.counted);
      faults = omega (arith, so_far.faults, c.feed.ensures.called.faults);
      blocks = c.feed.ensures.called.blocks ∙ so_far.blocks ∙ sym c.feed.ensures.same.blocks;
      bs = bs ++ part;
      size = omega arith;
      few = omega arith;
      telling = c.feed.ensures.called.telling ∙ so_far.telling;
      headers = λ tells area free into.
          let takes = takes_more area free bs c.args.session.now c.pieces.session (g.I.Source.remaining c.args.input.now) (g.I.Source.remaining c.pieces.input) d e into (so_far.fed free into.fed into.of_map) in
          let now = subst IsTrue (sym so_far.telling) tells in
          headers_then (g.D.Disk.moment c.args.disk.now) (g.D.Disk.moment c.pieces.disk) (g.D.Disk.moment c.feed.new.disk) (g.D.Disk.left_since c.args.disk.now) (g.D.Disk.left_since c.pieces.disk) (g.D.Disk.left_since c.feed.new.disk)
          (so_far.headers tells area free into) ((c.feed.ensures.moments now).time free bs takes.fed).later ((c.feed.ensures.moments now).header area free bs takes);
      ready = λ area free into.
          let takes = takes_more area free bs c.args.session.now c.pieces.session (g.I.Source.remaining c.args.input.now) (g.I.Source.remaining c.pieces.input) d e into (so_far.fed free into.fed into.of_map) in
          ready_more area free bs part first mid last (so_far.ready area free into) (c.in_ok-feed.ensures.fills.ready area free bs takes);
      session = (going.0, fed);
      fed = λ free begun of.
          let was = so_far.fed free begun of in
          let of_map = subst (λ (x : List (ℕ × ℕ × ℕ)). AreOfMap x free) (sym was.map) of in
          record {
            fed = c.in_ok-feed.ensures.answer.taken free bs was.fed;
            handed = handed_more bs part read count (g.I.Source.remaining c.args.input.now) (g.I.Source.remaining c.pieces.input) (g.I.Source.remaining c.read_piece.new.input) refl was.handed c.in-Ok.ensures.bytes;
            content = holds_more c.args.session.now.map c.pieces.session.map free bs part first mid last was.map was.content (c.in_ok-feed.ensures.writes.done free bs was.fed of_map) (c.in_ok-feed.ensures.writes.outside free bs was.fed);
            called = called_more bs part d e f was.called (c.feed.ensures.called.calls free bs was.fed) c.feed.ensures.called.faults c.feed.ensures.called.orders c.feed.ensures.called.blocks;
            map = c.feed.ensures.same.map ∙ was.map;
            blocks = c.feed.ensures.same.blocks ∙ was.blocks;
          };
    }

pub returns-in_err-feed-clause-feeds : goal.returns-in_err-feed-clause-feeds
returns-in_err-feed-clause-feeds g c free begun of =
    let so_far = c.pieces.invariant in
    let read = c.read_piece.new.piece in
    let count = c.in-Ok.count in
    let bs = so_far.bs in
    let part : List ℕ = take count read in
    let size : length part ≡ count = length-take-le count read c.in-Ok.ensures.count in
    let joined : length (bs ++ part) ≡ length bs + length part = length-append bs part in
    let before : length bs ≡ c.pieces.taken = so_far.size in
    let few = so_far.few in
    let room = c.in-Ok.ensures.few in
    let first : Option Content = g.D.Disk.content c.args.disk.now in
    let mid : Option Content = g.D.Disk.content c.pieces.disk in
    let last : Option Content = g.D.Disk.content c.feed.new.disk in
    let d : DiskView = record { blocks = g.D.Disk.block_count c.args.disk.now; content = first; faults = g.D.Disk.faults c.args.disk.now; calls = g.D.Disk.calls c.args.disk.now; orders = g.D.Disk.orders c.args.disk.now } in
    let e : DiskView = record { blocks = g.D.Disk.block_count c.pieces.disk; content = mid; faults = g.D.Disk.faults c.pieces.disk; calls = g.D.Disk.calls c.pieces.disk; orders = g.D.Disk.orders c.pieces.disk } in
    let f : DiskView = record { blocks = g.D.Disk.block_count c.feed.new.disk; content = last; faults = g.D.Disk.faults c.feed.new.disk; calls = g.D.Disk.calls c.feed.new.disk; orders = g.D.Disk.orders c.feed.new.disk } in
    let was = so_far.fed free begun of in
    let going = so_far.session in
    let p = err_from_is_err_and c.from_residual.result c.from_residual.ensures.1 in
    subst (λ (r : Result (Unit {0}) ImportStop). Feeds free c.args.session.now c.feed.new.self (g.I.Source.remaining c.args.input.now) (g.I.Source.remaining c.read_piece.new.input) d f r) (sym (p.1 ∙ ap Err p.2)) (
      bs ++ part,
      record {
        why_is = stop_for free (bs ++ part) c.in_err-feed.field-0.0 c.feed.result c.in_err-feed.was (c.in_err-feed.ensures.stops (going.0, bs, going.1)) (c.feed.ensures.answer.stream free bs was.fed) (c.feed.ensures.answer.suffice free bs was.fed) (c.feed.ensures.answer.too_few free bs was.fed);
        handed = handed_more bs part read count (g.I.Source.remaining c.args.input.now) (g.I.Source.remaining c.pieces.input) (g.I.Source.remaining c.read_piece.new.input) refl was.handed c.in-Ok.ensures.bytes;
        few = omega arith;
        content = keeps_more c.args.session.now.map c.pieces.session.map free bs first mid last was.map was.content (c.in_err-feed.ensures.writes.stopped free bs was.fed);
        called = called_more bs part d e f was.called (c.feed.ensures.called.calls free bs was.fed) c.feed.ensures.called.faults c.feed.ensures.called.orders c.feed.ensures.called.blocks;
        risen = λ fault. risen_from (g.D.Disk.faults c.args.disk.now) (g.D.Disk.faults c.pieces.disk) (g.D.Disk.faults c.feed.new.disk) so_far.faults (c.in_err-feed.ensures.called.cause ((going.0, bs, going.1), fault));
      },
    )

pub returns-in_err-feed-clause-device : goal.returns-in_err-feed-clause-device
returns-in_err-feed-clause-device g c =
    let so_far = c.pieces.invariant in
    let going = so_far.session in
    let p = err_from_is_err_and c.from_residual.result c.from_residual.ensures.1 in
    subst (λ (r : Result (Unit {0}) ImportStop). IfErr r (λ stop. IsOfDisk stop → HasRisen (g.D.Disk.faults c.args.disk.now) (g.D.Disk.faults c.feed.new.disk))) (sym (p.1 ∙ ap Err p.2))
    (λ fault. risen_from (g.D.Disk.faults c.args.disk.now) (g.D.Disk.faults c.pieces.disk) (g.D.Disk.faults c.feed.new.disk) so_far.faults (c.in_err-feed.ensures.called.cause ((going.0, so_far.bs, going.1), fault)))

pub returns-in_err-feed-clause-headers : goal.returns-in_err-feed-clause-headers
returns-in_err-feed-clause-headers g c tells area free into =
    let so_far = c.pieces.invariant in
    let bs = so_far.bs in
    let d : DiskView = record { blocks = g.D.Disk.block_count c.args.disk.now; content = g.D.Disk.content c.args.disk.now; faults = g.D.Disk.faults c.args.disk.now; calls = g.D.Disk.calls c.args.disk.now; orders = g.D.Disk.orders c.args.disk.now } in
    let e : DiskView = record { blocks = g.D.Disk.block_count c.pieces.disk; content = g.D.Disk.content c.pieces.disk; faults = g.D.Disk.faults c.pieces.disk; calls = g.D.Disk.calls c.pieces.disk; orders = g.D.Disk.orders c.pieces.disk } in
    let takes = takes_more area free bs c.args.session.now c.pieces.session (g.I.Source.remaining c.args.input.now) (g.I.Source.remaining c.pieces.input) d e into (so_far.fed free into.fed into.of_map) in
    let now = subst IsTrue (sym so_far.telling) tells in
    headers_then (g.D.Disk.moment c.args.disk.now) (g.D.Disk.moment c.pieces.disk) (g.D.Disk.moment c.feed.new.disk) (g.D.Disk.left_since c.args.disk.now) (g.D.Disk.left_since c.pieces.disk) (g.D.Disk.left_since c.feed.new.disk)
    (so_far.headers tells area free into) ((c.feed.ensures.moments now).time free bs takes.fed).later ((c.feed.ensures.moments now).header area free bs takes)
