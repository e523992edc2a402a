use Rattle.std.proofs.Common.{◌≡◌, ◌<◌, ◌∷◌, ◌++◌, ◌∙◌, ℕ, List, [], length, Option, None, Result, Err, IfErr, inr, ap, subst, sym, arith, length-append}
use Rattle.std.proofs.lemmas.Result.{err_from_is_err_and}
use Rattle.definitions.specs.Disk.{Content}
use Rattle.definitions.specs.Streams.{TakesAll, TakesFront}
use Rattle.image_pages.proofs.SinceSaved.{refused_since}
use Rattle.image_pages.specs.Given.{HasGiven, frame_of}
use Rattle.image_core.specs.Cores.{IsStopped}
use Rattle.image_core.specs.Counted.{HasTallied}
use Rattle.image_core.specs.declared.stop.Stop.{Stop}
use Rattle.image_core.proofs.Outcomes.{on_err_of}
use Rattle.image_core.proofs.Paging.{IsPageFront, Writes, fewer_frames, has_pages, more_frames, writes_cut, writes_front, writes_more}
use Rattle.image_core.proofs.Since.{risen_earlier}
use Rattle.image_core.proofs.pages.write_pages.Goals as goal

pub next-requires : goal.next-requires
next-requires g c =
    let (header, (h, tallied)) = c.requires in
    let s = c.loop.invariant.so_far header h in
    (header, (s.given, s.stands))

pub returns-in_err-put_all-in-Frame-clause-front : goal.returns-in_err-put_all-in-Frame-clause-front
returns-in_err-put_all-in-Frame-clause-front g c = λ header h tallied.
    let i = c.loop.invariant in
    let s = i.so_far header h in
    let first = g.S.Sink.taken c.args.out.now in
    let mid = g.S.Sink.taken c.loop.out in
    let last = g.S.Sink.taken c.put_all.new.sink in
    let next = (c.in-Frame.ensures.says header s.given s.stands).1 in
    on_err_of c.from_residual.result
    (subst (λ (x : Option Content). IsPageFront x header first last) i.content
    (writes_cut (g.D.Disk.content c.loop.disk) (g.D.Disk.block_count c.loop.disk) header c.loop.frames c.next.new.self c.loop.counter c.in-Frame.field-0 c.next.new.page first mid last s next
    (subst (λ (x : List ℕ). TakesFront x mid last) c.as_bytes.ensures.bytes c.in_err-put_all-in-Frame.ensures.front)))

pub returns-in_err-put_all-in-Frame-clause-stopped : goal.returns-in_err-put_all-in-Frame-clause-stopped
returns-in_err-put_all-in-Frame-clause-stopped g c = λ header h tallied.
    let i = c.loop.invariant in
    let s = i.so_far header h in
    let p = err_from_is_err_and c.from_residual.result c.from_residual.ensures.1 in
    let content = g.D.Disk.content c.args.disk.now in
    let blocks = g.D.Disk.block_count c.args.disk.now in
    let before = g.D.Disk.faults c.args.disk.now in
    let now = g.D.Disk.faults c.next.new.disk in
    let told = g.R.Report.told c.args.report.now in
    let end = g.R.Report.told c.next.new.report in
    let first = g.S.Sink.faults c.args.out.now in
    let last = g.S.Sink.faults c.put_all.new.sink in
    subst (λ (r : Result (Unit {0}) Stop). IfErr r (IsStopped content blocks header before now told end first last)) (sym (p.1 ∙ ap Err p.2))
    (risen_earlier first (g.S.Sink.faults c.loop.out) last i.counted c.in_err-put_all-in-Frame.ensures.cause, (c.in-Frame.ensures.says header s.given s.stands).0 ∙ i.told)

pub returns-in-End-clause-front : goal.returns-in-End-clause-front
returns-in-End-clause-front g c = λ header h tallied.
    let i = c.loop.invariant in
    subst (λ (x : Option Content). IsPageFront x header (g.S.Sink.taken c.args.out.now) (g.S.Sink.taken c.loop.out)) i.content
    (writes_front (g.D.Disk.content c.loop.disk) (g.D.Disk.block_count c.loop.disk) header c.loop.frames c.loop.counter (g.S.Sink.taken c.args.out.now) (g.S.Sink.taken c.loop.out) (i.so_far header h))

pub returns-in-End-clause-stopped : goal.returns-in-End-clause-stopped
returns-in-End-clause-stopped g c = λ header h tallied.
    let i = c.loop.invariant in
    let s = i.so_far header h in
    let says = c.in-End.ensures.says header s.given s.stands in
    let here = subst (λ (x : Option Content). HasTallied x header c.args.tally) (sym i.content) tallied in
    let early : length s.given < c.args.tally.frames = omega (arith, s.size, c.loop-test.true) in
    (sym i.content ∙ fewer_frames (g.D.Disk.content c.loop.disk) header c.args.tally s.given here says.1.all early, says.0 ∙ i.told)

pub returns-in-Refused-clause-front : goal.returns-in-Refused-clause-front
returns-in-Refused-clause-front g c = λ header h tallied.
    let i = c.loop.invariant in
    subst (λ (x : Option Content). IsPageFront x header (g.S.Sink.taken c.args.out.now) (g.S.Sink.taken c.loop.out)) i.content
    (writes_front (g.D.Disk.content c.loop.disk) (g.D.Disk.block_count c.loop.disk) header c.loop.frames c.loop.counter (g.S.Sink.taken c.args.out.now) (g.S.Sink.taken c.loop.out) (i.so_far header h))

pub returns-in-Refused-clause-stopped : goal.returns-in-Refused-clause-stopped
returns-in-Refused-clause-stopped g c = λ header h tallied.
    let i = c.loop.invariant in
    let s = i.so_far header h in
    let says = c.in-Refused.ensures.says header s.given s.stands in
    inr (says.0, refused_since (g.D.Disk.content c.loop.disk) (g.D.Disk.content c.args.disk.now) (g.D.Disk.block_count c.loop.disk) (g.D.Disk.block_count c.args.disk.now) header (g.D.Disk.faults c.args.disk.now) (g.D.Disk.faults c.loop.disk) (g.D.Disk.faults c.next.new.disk) (g.R.Report.told c.args.report.now) (g.R.Report.told c.loop.report) (g.R.Report.told c.next.new.report) says.0 i.content i.blocks i.told i.faults says.1)

pub loop-preserved : goal.loop-preserved
loop-preserved g c =
    let i = c.loop.invariant in
    let (begun, (start, counted)) = c.requires in
    let s = i.so_far begun start in
    let mid = g.S.Sink.taken c.loop.out in
    let last = g.S.Sink.taken c.put_all.new.sink in
    record {
      so_far = λ header h.
          let t = i.so_far header h in
          writes_more (g.D.Disk.content c.loop.disk) (g.D.Disk.content c.next.new.disk) (g.D.Disk.block_count c.loop.disk) (g.D.Disk.block_count c.next.new.disk) header c.loop.frames c.next.new.self c.loop.counter c.in-Frame.field-0 c.next.new.page (g.S.Sink.taken c.args.out.now) mid last (sym c.next.ensures.content) (sym c.next.ensures.blocks) t (c.in-Frame.ensures.says header t.given t.stands).1
          (subst (λ (x : List ℕ). TakesAll x mid last) c.as_bytes.ensures.bytes c.in_ok-put_all-in-Frame.ensures.whole);
      told = (c.in-Frame.ensures.says begun s.given s.stands).0 ∙ i.told;
      counted = omega (arith, i.counted, c.put_all.ensures.counted);
      content = c.next.ensures.content ∙ i.content;
      faults = omega (arith, i.faults, c.next.ensures.faults);
      orders = c.next.ensures.orders ∙ i.orders;
      blocks = c.next.ensures.blocks ∙ i.blocks;
    }

pub next-requires-2 : goal.next-requires-2
next-requires-2 g c =
    let (header, (h, tallied)) = c.requires in
    let s = c.loop.invariant.so_far header h in
    (header, (s.given, s.stands))

pub returns-in-Frame-next-clause-front : goal.returns-in-Frame-next-clause-front
returns-in-Frame-next-clause-front g c = λ header h tallied.
    let i = c.loop.invariant in
    subst (λ (x : Option Content). IsPageFront x header (g.S.Sink.taken c.args.out.now) (g.S.Sink.taken c.loop.out)) i.content
    (writes_front (g.D.Disk.content c.loop.disk) (g.D.Disk.block_count c.loop.disk) header c.loop.frames c.loop.counter (g.S.Sink.taken c.args.out.now) (g.S.Sink.taken c.loop.out) (i.so_far header h))

pub returns-in-Frame-next-clause-stopped : goal.returns-in-Frame-next-clause-stopped
returns-in-Frame-next-clause-stopped g c = λ header h tallied.
    let i = c.loop.invariant in
    let s = i.so_far header h in
    let says = c.in-Frame-next.ensures.says header s.given s.stands in
    let here = subst (λ (x : Option Content). HasTallied x header c.args.tally) (sym i.content) tallied in
    let one = frame_of c.in-Frame-next.field-0 c.next-2.new.page in
    let many : c.args.tally.frames < length (s.given ++ one ∷ []) = omega (arith, s.size, c.loop-test.false, length-append s.given (one ∷ [])) in
    (sym i.content ∙ more_frames (g.D.Disk.content c.loop.disk) (g.D.Disk.block_count c.loop.disk) header c.args.tally c.next-2.new.self (s.given ++ one ∷ []) here says.1.stands many, says.0 ∙ i.told)

pub returns-in-End-next-clause-written : goal.returns-in-End-next-clause-written
returns-in-End-next-clause-written g c = λ header h tallied.
    let i = c.loop.invariant in
    let all : c.loop.counter ≡ c.args.tally.frames = omega (arith, c.loop-test.false, c.loop.auto.counter-end) in
    let content = g.D.Disk.content c.loop.disk in
    let blocks = g.D.Disk.block_count c.loop.disk in
    let first = g.S.Sink.taken c.args.out.now in
    let last = g.S.Sink.taken c.loop.out in
    let s = subst (λ (k : ℕ). Writes content blocks header c.loop.frames k first last) all (i.so_far header h) in
    let says = c.in-End-next.ensures.says header s.given s.stands in
    has_pages content (g.D.Disk.content c.args.disk.now) blocks (g.D.Disk.block_count c.args.disk.now) header (g.D.Disk.faults c.args.disk.now) (g.D.Disk.faults c.loop.disk) (g.D.Disk.faults c.next-2.new.disk) c.args.tally c.loop.frames c.next-2.new.self.numbers.info first last i.content i.blocks i.faults s says.1

pub returns-in-End-next-clause-told : goal.returns-in-End-next-clause-told
returns-in-End-next-clause-told g c =
    let (header, (h, tallied)) = c.requires in
    let s = c.loop.invariant.so_far header h in
    (c.in-End-next.ensures.says header s.given s.stands).0 ∙ c.loop.invariant.told

pub returns-in-Refused-next-clause-front : goal.returns-in-Refused-next-clause-front
returns-in-Refused-next-clause-front g c = λ header h tallied.
    let i = c.loop.invariant in
    subst (λ (x : Option Content). IsPageFront x header (g.S.Sink.taken c.args.out.now) (g.S.Sink.taken c.loop.out)) i.content
    (writes_front (g.D.Disk.content c.loop.disk) (g.D.Disk.block_count c.loop.disk) header c.loop.frames c.loop.counter (g.S.Sink.taken c.args.out.now) (g.S.Sink.taken c.loop.out) (i.so_far header h))

pub returns-in-Refused-next-clause-stopped : goal.returns-in-Refused-next-clause-stopped
returns-in-Refused-next-clause-stopped g c = λ header h tallied.
    let i = c.loop.invariant in
    let s = i.so_far header h in
    let says = c.in-Refused-next.ensures.says header s.given s.stands in
    inr (says.0, refused_since (g.D.Disk.content c.loop.disk) (g.D.Disk.content c.args.disk.now) (g.D.Disk.block_count c.loop.disk) (g.D.Disk.block_count c.args.disk.now) header (g.D.Disk.faults c.args.disk.now) (g.D.Disk.faults c.loop.disk) (g.D.Disk.faults c.next-2.new.disk) (g.R.Report.told c.args.report.now) (g.R.Report.told c.loop.report) (g.R.Report.told c.next-2.new.report) says.0 i.content i.blocks i.told i.faults says.1)
