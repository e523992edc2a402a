use Rattle.std.proofs.Common.{◌≡◌, ◌<◌, ◌∷◌, ◌++◌, ◌∙◌, ℕ, List, [], length, inr, subst, sym, arith}
use Rattle.image_check.specs.Info.{counts_in}
use Rattle.image_pages.proofs.SinceSaved.{refused_since}
use Rattle.image_pages.specs.Numbered.{HasNumbered}
use Rattle.image_core.proofs.Numbering.{Counts, counts_all, counts_more, ends_early}
use Rattle.image_core.proofs.counting.count_runs.Goals as goal

pub next-requires : goal.next-requires
next-requires g c =
    let (header, (begin, will)) = c.requires.numbered in
    let s = c.loop.invariant.so_far header begin in
    (header, (s.given, s.stands))

pub add-requires : goal.add-requires
add-requires g c =
    let (header, (begin, will)) = c.requires.numbered in
    let s = c.loop.invariant.so_far header begin in
    let few : length s.given < 4294967295 = omega (arith, s.size, c.loop-test.true, c.requires.few) in
    (s.given, (s.ended, (s.has, few)))

pub returns-in-End-clause-stopped : goal.returns-in-End-clause-stopped
returns-in-End-clause-stopped g c = λ header begin will.
    let i = c.loop.invariant in
    let s = i.so_far header begin in
    let says = c.in-End.ensures.says header s.given s.stands in
    let still = subst (λ (info : List ℕ). (counts_in info).image_pages ≡ c.args.frames) (sym i.info) will in
    let early : length s.given < c.args.frames = omega (arith, s.size, c.loop-test.true) in
    (sym i.content ∙ ends_early (g.D.Disk.content c.loop.disk) (g.D.Disk.block_count c.loop.disk) header c.loop.numbers s.given c.args.frames s.stands still says.1.all early, says.0 ∙ i.told)

pub returns-in-Refused-clause-stopped : goal.returns-in-Refused-clause-stopped
returns-in-Refused-clause-stopped g c = λ header begin will.
    let i = c.loop.invariant in
    let s = i.so_far header begin in
    let says = c.in-Refused.ensures.says header s.given s.stands in
    inr (says.0, refused_since (g.D.Disk.content c.loop.disk) (g.D.Disk.content c.args.disk.now) (g.D.Disk.block_count c.loop.disk) (g.D.Disk.block_count c.args.disk.now) header (g.D.Disk.faults c.args.disk.now) (g.D.Disk.faults c.loop.disk) (g.D.Disk.faults c.next.new.disk) (g.R.Report.told c.args.report.now) (g.R.Report.told c.loop.report) (g.R.Report.told c.next.new.report) says.0 i.content i.blocks i.told i.faults says.1)

pub loop-preserved : goal.loop-preserved
loop-preserved g c =
    let i = c.loop.invariant in
    let held = g.D.Disk.content c.loop.disk in
    let blocks = g.D.Disk.block_count c.loop.disk in
    let (h, (start, will)) = c.requires.numbered in
    let s = i.so_far h start in
    record {
      so_far = λ header begin.
          let t = i.so_far header begin in
          let next = (c.in-Frame.ensures.says header t.given t.stands).1 in
          counts_more held (g.D.Disk.content c.next.new.disk) blocks (g.D.Disk.block_count c.next.new.disk) header c.loop.numbers c.next.new.self c.loop.runs c.add.new.self c.loop.counter c.in-Frame.number c.add.result (sym c.next.ensures.content) (sym c.next.ensures.blocks) t next (c.add.ensures t.given t.ended t.has);
      info = c.next.ensures.info ∙ i.info;
      told = (c.in-Frame.ensures.says h s.given s.stands).0 ∙ i.told;
      content = c.next.ensures.content ∙ i.content;
      faults = omega (arith, i.faults, c.next.ensures.faults);
      orders = c.next.ensures.orders ∙ i.orders;
      blocks = c.next.ensures.blocks ∙ i.blocks;
    }

pub count-requires : goal.count-requires
count-requires g c =
    let (header, (begin, will)) = c.requires.numbered in
    let s = c.loop.invariant.so_far header begin in
    let few : length s.given < 4294967295 = omega (arith, s.size, c.loop-test.false, c.loop.auto.counter-end, c.requires.few) in
    (s.given, (s.ended, (s.has, few)))

pub returns-clause-counted : goal.returns-clause-counted
returns-clause-counted g c = λ header begin will.
    let i = c.loop.invariant in
    let s = i.so_far header begin in
    let all : c.loop.counter ≡ c.args.frames = omega (arith, c.loop-test.false, c.loop.auto.counter-end) in
    let t = subst (Counts (g.D.Disk.content c.loop.disk) (g.D.Disk.block_count c.loop.disk) header c.loop.numbers c.loop.runs) all s in
    let still = subst (λ (info : List ℕ). (counts_in info).image_pages ≡ c.args.frames) (sym i.info) will in
    counts_all (g.D.Disk.content c.loop.disk) (g.D.Disk.content c.args.disk.now) (g.D.Disk.block_count c.loop.disk) (g.D.Disk.block_count c.args.disk.now) header c.loop.numbers c.loop.runs c.args.frames c.count.result i.content i.blocks still t (c.count.ensures t.given t.ended t.has)
