use Rattle.std.proofs.Common.{◌≡◌, ◌≤◌, ℕ, List, [], ◌∷◌, ◌++◌, Option, Result, Ok, Err, OnErr, inr, sym, subst, ◌∙◌, arith}
use Rattle.definitions.specs.Disk.{Content}
use Rattle.definitions.specs.Streams.{TakesAll, TakesFront}
use Rattle.image_check.specs.Told.{Told}
use Rattle.image_pages.specs.Ends.{IsRefused, Says}
use Rattle.image_pages.specs.Stands.{Stands}
use Rattle.image_stream.specs.Streamed.{IsCutShort, IsFront, IsWritten}
use Rattle.image_stream.proofs.Writing.{SoFar, so_far_more, so_far_front, so_far_whole, so_far_cut}
use Rattle.image_stream.proofs.streaming.write_pages.Goals as goal

on_err_any : {A E : Type 0} (r : Result A E) (P : Type 0) → P → OnErr r P
on_err_any (Ok x) P p = tt
on_err_any (Err e) P p = p

pub loop-out-smaller : goal.loop-out-smaller
loop-out-smaller g c =
    let (header, (given, s)) = c.loop-out.invariant.stands in
    (c.in-Page.ensures.says header given s).3

pub loop-out-preserved : goal.loop-out-preserved
loop-out-preserved g c =
    let i = c.loop-out.invariant in
    let (header, (given, s)) = i.stands in
    let more = c.in-Page.ensures.says header given s in
    let page = c.next.new.page in
    let held = g.D.Disk.content c.loop-out.disk in
    let blocks = g.D.Disk.block_count c.loop-out.disk in
    let first = g.S.Sink.taken c.args.out.now in
    let then = g.S.Sink.taken c.loop-out.out in
    let last = g.S.Sink.taken c.put_all.new.sink in
    let q = c.next.new.self in
    record {
      so_far = λ h start.
          let so_far = i.so_far h start in
          let now = c.in-Page.ensures.says h so_far.given so_far.stands in
          subst (λ (x : Option Content). SoFar x (g.D.Disk.block_count c.next.new.disk) h q first last) (sym c.next.ensures.content)
          (subst (λ (n : ℕ). SoFar held n h q first last) (sym c.next.ensures.blocks)
          (so_far_more held blocks h c.loop-out.pages q page first then last so_far now.1 (subst (λ (x : List ℕ). TakesAll x then last) c.as_bytes.ensures.bytes c.in_ok-put_all-in-Page.ensures.whole)));
      stands = (
        header,
        (
          given ++ page ∷ [],
          subst (λ (x : Option Content). Stands x (g.D.Disk.block_count c.next.new.disk) header q (given ++ page ∷ [])) (sym c.next.ensures.content)
              (subst (λ (n : ℕ). Stands held n header q (given ++ page ∷ [])) (sym c.next.ensures.blocks) more.1),
        ),
      );
      told = more.0 ∙ i.told;
      plain = c.next.ensures.format ∙ i.plain;
      counted = omega (arith, i.counted, c.put_all.ensures.counted);
      content = c.next.ensures.content ∙ i.content;
      faults = omega (arith, i.faults, c.next.ensures.faults);
      orders = c.next.ensures.orders ∙ i.orders;
      blocks = c.next.ensures.blocks ∙ i.blocks;
    }

pub returns-in_err-put_all-in-Page-clause-stopped : goal.returns-in_err-put_all-in-Page-clause-stopped
returns-in_err-put_all-in-Page-clause-stopped g c = λ h start.
    let i = c.loop-out.invariant in
    let content = g.D.Disk.content c.args.disk.now in
    let blocks = g.D.Disk.block_count c.args.disk.now in
    let first = g.S.Sink.taken c.args.out.now in
    let last = g.S.Sink.taken c.put_all.new.sink in
    let so_far = i.so_far h start in
    let now = c.in-Page.ensures.says h so_far.given so_far.stands in
    on_err_any c.from_residual.result (IsFront content blocks h first last)
    (subst (λ (x : Option Content). IsFront x blocks h first last) i.content
    (subst (λ (n : ℕ). IsFront (g.D.Disk.content c.loop-out.disk) n h first last) i.blocks
    (so_far_front (g.D.Disk.content c.loop-out.disk) (g.D.Disk.block_count c.loop-out.disk) h c.loop-out.pages c.next.new.self c.next.new.page first (g.S.Sink.taken c.loop-out.out) last so_far now.1 (c.next.ensures.format ∙ i.plain) (subst (λ (x : List ℕ). TakesFront x (g.S.Sink.taken c.loop-out.out) last) c.as_bytes.ensures.bytes c.in_err-put_all-in-Page.ensures.front))))

pub returns-in_err-put_all-in-Page-clause-untold : goal.returns-in_err-put_all-in-Page-clause-untold
returns-in_err-put_all-in-Page-clause-untold g c =
    let i = c.loop-out.invariant in
    let (header, (given, s)) = i.stands in
    on_err_any c.from_residual.result (g.R.Report.told c.next.new.report ≡ g.R.Report.told c.args.report.now) ((c.in-Page.ensures.says header given s).0 ∙ i.told)

pub returns-in-End-clause-streamed : goal.returns-in-End-clause-streamed
returns-in-End-clause-streamed g c = λ h start.
    let i = c.loop-out.invariant in
    let content = g.D.Disk.content c.args.disk.now in
    let blocks = g.D.Disk.block_count c.args.disk.now in
    let before = g.D.Disk.faults c.args.disk.now in
    let then = g.D.Disk.faults c.loop-out.disk in
    let now = g.D.Disk.faults c.next.new.disk in
    let first = g.S.Sink.taken c.args.out.now in
    let last = g.S.Sink.taken c.loop-out.out in
    let so_far = i.so_far h start in
    let says = c.in-End.ensures.says h so_far.given so_far.stands in (
      subst (λ (x : Option Content). IsWritten x blocks h before now first last) i.content
          (subst (λ (n : ℕ). IsWritten (g.D.Disk.content c.loop-out.disk) n h before now first last) i.blocks
          (so_far_whole (g.D.Disk.content c.loop-out.disk) (g.D.Disk.block_count c.loop-out.disk) h before then now c.loop-out.pages first last so_far i.faults says.1 says.2 i.plain)),
      says.0 ∙ i.told,
    )

pub returns-in-Refused-clause-streamed : goal.returns-in-Refused-clause-streamed
returns-in-Refused-clause-streamed g c = λ h start.
    let i = c.loop-out.invariant in
    let blocks = g.D.Disk.block_count c.args.disk.now in
    let before = g.D.Disk.faults c.args.disk.now in
    let then = g.D.Disk.faults c.loop-out.disk in
    let now = g.D.Disk.faults c.next.new.disk in
    let first = g.S.Sink.taken c.args.out.now in
    let last = g.S.Sink.taken c.loop-out.out in
    let told = g.R.Report.told c.args.report.now in
    let end = g.R.Report.told c.next.new.report in
    let so_far = i.so_far h start in
    let says = c.in-Refused.ensures.says h so_far.given so_far.stands in
    let held = g.D.Disk.content c.loop-out.disk in
    let n = g.D.Disk.block_count c.loop-out.disk in
    inr (subst (λ (x : Option Content). IsCutShort x blocks h before now told end first last) i.content
    (subst (λ (m : ℕ). IsCutShort held m h before now told end first last) i.blocks
    (so_far_cut held n h before then now c.loop-out.pages told end first last so_far i.faults
    (subst (λ (t : Told). IsRefused held n h then now t end so_far.given) i.told says) i.plain)))
