use Rattle.std.proofs.Common.{◌≡◌, ◌≢◌, ◌≤◌, ◌<◌, ◌^◌, ◌∷◌, ◌++◌, ◌∙◌, ℕ, List, [], length, Option, Result, Err, IfErr, IfSome, inr, refl, sym, ap, subst, arith}
use Rattle.std.proofs.lemmas.Result.{err_from_is_err_and}
use Rattle.definitions.specs.Disk.{Content, as_it_reads}
use Rattle.definitions.specs.FreeRuns.{runs_of}
use Rattle.definitions.specs.Streams.{TakesFront}
use Rattle.elf_core.specs.Elf.{page_offset}
use Rattle.image_pages.specs.Chain.{chain_page}
use Rattle.image_pages.specs.Formats.{chain_format}
use Rattle.image_pages.proofs.SinceSaved.{refused_since}
use Rattle.image_core.specs.Cores.{IsStopped}
use Rattle.image_core.specs.Counted.{HasTallied}
use Rattle.image_core.specs.Listed.{AreListed}
use Rattle.image_core.specs.Parts.{HasLoads, loads_of}
use Rattle.image_core.specs.declared.stop.Stop.{Stop}
use Rattle.image_core.proofs.Outcomes.{on_err_of}
use Rattle.image_core.proofs.RunCounts.{listed_front}
use Rattle.image_core.proofs.Since.{risen_earlier}
use Rattle.image_core.proofs.Tallied.{Lists, all_by_tally, can_list, can_list_all, early_by_tally, front_of_chain, has_loads, lists_more, lists_none, other_by_tally, whole_of_chain}
use Rattle.image_core.proofs.heads.write_loads.Goals as goal

abbrev Front : Option Content → ℕ → (old new : Option (List ℕ)) → Type 0
Front content header old new = IfSome content (λ held. TakesFront (loads_of (chain_format (as_it_reads held) header) (chain_page (as_it_reads held) header)) old new)

pub loop-init : goal.loop-init
loop-init g c = record {
  so_far = λ header h.
      let taken = g.S.Sink.taken c.args.out.now in
      lists_none (g.D.Disk.content c.args.disk.now) (g.D.Disk.block_count c.args.disk.now) header c.args.numbers.now (page_offset c.args.tally.runs) c.new-loads.result taken h
      (subst (λ (k : ℕ). AreListed k [] c.new-loads.result taken taken) c.page_offset.ensures.place (c.new-loads.ensures taken));
  told = refl;
  counted = omega arith;
  content = refl;
  faults = omega arith;
  orders = refl;
  blocks = refl;
}

pub next-requires : goal.next-requires
next-requires g c =
    let (header, (h, tallied)) = c.requires in
    let s = c.loop.invariant.so_far header h in
    (header, (s.given, s.stands))

pub add-requires : goal.add-requires
add-requires g c =
    let (header, (h, tallied)) = c.requires in
    let s = c.loop.invariant.so_far header h in
    let next = (c.in-Frame.ensures.says header s.given s.stands).1 in
    let start = page_offset c.args.tally.runs in
    let place : start < 2 ^ 40 = omega (arith, c.page_offset.ensures.place, c.page_offset.ensures.far) in
    let lt : length s.given < c.args.tally.frames = omega (arith, s.size, c.loop-test.true) in
    (start, (s.given, (g.S.Sink.taken c.args.out.now, (s.listed, can_list start s.given c.in-Frame.number c.args.tally.frames place lt tallied.few s.small next.small))))

pub returns-in_err-add-in-Frame-clause-front : goal.returns-in_err-add-in-Frame-clause-front
returns-in_err-add-in-Frame-clause-front g c = λ header h tallied.
    let i = c.loop.invariant in
    let s = i.so_far header h in
    let next = (c.in-Frame.ensures.says header s.given s.stands).1 in
    let start = page_offset c.args.tally.runs in
    let old = g.S.Sink.taken c.args.out.now in
    let new = g.S.Sink.taken c.add.new.out in
    let here = subst (λ (x : Option Content). HasTallied x header c.args.tally) (sym i.content) tallied in
    on_err_of c.from_residual.result
    (subst (λ (x : Option Content). Front x header old new) i.content
    (front_of_chain (g.D.Disk.content c.loop.disk) (g.D.Disk.block_count c.loop.disk) header c.next.new.self (s.given ++ c.in-Frame.number ∷ []) c.args.tally start old new here refl next.stands next.first (c.in_err-add-in-Frame.ensures.front start s.given old s.listed)))

pub returns-in_err-add-in-Frame-clause-stopped : goal.returns-in_err-add-in-Frame-clause-stopped
returns-in_err-add-in-Frame-clause-stopped g c = λ header h tallied.
    let i = c.loop.invariant in
    let s = i.so_far header h in
    let p = err_from_is_err_and c.from_residual.result c.from_residual.ensures.1 in
    let first = g.S.Sink.faults c.args.out.now in
    let last = g.S.Sink.faults c.add.new.out in
    subst (λ (r : Result (Unit {0}) Stop). IfErr r (IsStopped (g.D.Disk.content c.args.disk.now) (g.D.Disk.block_count c.args.disk.now) header (g.D.Disk.faults c.args.disk.now) (g.D.Disk.faults c.next.new.disk) (g.R.Report.told c.args.report.now) (g.R.Report.told c.next.new.report) first last)) (sym (p.1 ∙ ap Err p.2))
    (risen_earlier first (g.S.Sink.faults c.loop.out) last i.counted c.in_err-add-in-Frame.ensures.cause, (c.in-Frame.ensures.says header s.given s.stands).0 ∙ i.told)

pub returns-in-End-clause-front : goal.returns-in-End-clause-front
returns-in-End-clause-front g c = λ header h tallied.
    let i = c.loop.invariant in
    let s = i.so_far header h in
    let start = page_offset c.args.tally.runs in
    let old = g.S.Sink.taken c.args.out.now in
    let new = g.S.Sink.taken c.loop.out in
    let here = subst (λ (x : Option Content). HasTallied x header c.args.tally) (sym i.content) tallied in
    subst (λ (x : Option Content). Front x header old new) i.content
    (front_of_chain (g.D.Disk.content c.loop.disk) (g.D.Disk.block_count c.loop.disk) header c.loop.numbers s.given c.args.tally start old new here refl s.stands s.first (listed_front start s.given c.loop.loads old new s.listed))

pub returns-in-End-clause-stopped : goal.returns-in-End-clause-stopped
returns-in-End-clause-stopped g c = λ header h tallied.
    let i = c.loop.invariant in
    let s = i.so_far header h in
    let says = c.in-End.ensures.says header s.given s.stands in
    let here = subst (λ (x : Option Content). HasTallied x header c.args.tally) (sym i.content) tallied in
    let early : length s.given < c.args.tally.frames = omega (arith, s.size, c.loop-test.true) in
    (sym i.content ∙ early_by_tally (g.D.Disk.content c.loop.disk) header c.args.tally s.given here says.1.all early, says.0 ∙ i.told)

pub returns-in-Refused-clause-front : goal.returns-in-Refused-clause-front
returns-in-Refused-clause-front g c = λ header h tallied.
    let i = c.loop.invariant in
    let s = i.so_far header h in
    let start = page_offset c.args.tally.runs in
    let old = g.S.Sink.taken c.args.out.now in
    let new = g.S.Sink.taken c.loop.out in
    let here = subst (λ (x : Option Content). HasTallied x header c.args.tally) (sym i.content) tallied in
    subst (λ (x : Option Content). Front x header old new) i.content
    (front_of_chain (g.D.Disk.content c.loop.disk) (g.D.Disk.block_count c.loop.disk) header c.loop.numbers s.given c.args.tally start old new here refl s.stands s.first (listed_front start s.given c.loop.loads old new s.listed))

pub returns-in-Refused-clause-stopped : goal.returns-in-Refused-clause-stopped
returns-in-Refused-clause-stopped g c = λ header h tallied.
    let i = c.loop.invariant in
    let s = i.so_far header h in
    let says = c.in-Refused.ensures.says header s.given s.stands in
    inr (says.0, refused_since (g.D.Disk.content c.loop.disk) (g.D.Disk.content c.args.disk.now) (g.D.Disk.block_count c.loop.disk) (g.D.Disk.block_count c.args.disk.now) header (g.D.Disk.faults c.args.disk.now) (g.D.Disk.faults c.loop.disk) (g.D.Disk.faults c.next.new.disk) (g.R.Report.told c.args.report.now) (g.R.Report.told c.loop.report) (g.R.Report.told c.next.new.report) says.0 i.content i.blocks i.told i.faults says.1)

pub loop-preserved : goal.loop-preserved
loop-preserved g c =
    let i = c.loop.invariant in
    let (begun, (begins, counted)) = c.requires in
    let s = i.so_far begun begins in
    record {
      so_far = λ header h.
          let t = i.so_far header h in
          let start = page_offset c.args.tally.runs in
          let old = g.S.Sink.taken c.args.out.now in
          lists_more (g.D.Disk.content c.loop.disk) (g.D.Disk.content c.next.new.disk) (g.D.Disk.block_count c.loop.disk) (g.D.Disk.block_count c.next.new.disk) header c.loop.numbers c.next.new.self start c.loop.loads c.add.new.self c.loop.counter c.in-Frame.number old (g.S.Sink.taken c.loop.out) (g.S.Sink.taken c.add.new.out) (sym c.next.ensures.content) (sym c.next.ensures.blocks) t (c.in-Frame.ensures.says header t.given t.stands).1 (c.in_ok-add-in-Frame.ensures.listed start t.given old t.listed);
      told = (c.in-Frame.ensures.says begun s.given s.stands).0 ∙ i.told;
      counted = omega (arith, i.counted, c.add.ensures.counted);
      content = c.next.ensures.content ∙ i.content;
      faults = omega (arith, i.faults, c.next.ensures.faults);
      orders = c.next.ensures.orders ∙ i.orders;
      blocks = c.next.ensures.blocks ∙ i.blocks;
    }

pub count-count-requires : goal.count-count-requires
count-count-requires g c =
    let (header, (h, tallied)) = c.requires in
    let s = c.loop.invariant.so_far header h in
    let start = page_offset c.args.tally.runs in
    let place : start < 2 ^ 40 = omega (arith, c.page_offset.ensures.place, c.page_offset.ensures.far) in
    let le : length s.given ≤ c.args.tally.frames = omega (arith, s.size, c.loop.auto.counter-end) in
    (start, (s.given, (g.S.Sink.taken c.args.out.now, (g.S.Sink.taken c.loop.out, (s.listed, can_list_all start s.given c.args.tally.frames place le tallied.few s.small)))))

pub end-requires : goal.end-requires
end-requires g c =
    let (header, (h, tallied)) = c.requires in
    let s = c.loop.invariant.so_far header h in
    let start = page_offset c.args.tally.runs in
    let place : start < 2 ^ 40 = omega (arith, c.page_offset.ensures.place, c.page_offset.ensures.far) in
    let le : length s.given ≤ c.args.tally.frames = omega (arith, s.size, c.loop.auto.counter-end) in
    (start, (s.given, (g.S.Sink.taken c.args.out.now, (s.listed, can_list_all start s.given c.args.tally.frames place le tallied.few s.small))))

pub returns-in_err-end-clause-front : goal.returns-in_err-end-clause-front
returns-in_err-end-clause-front g c = λ header h tallied.
    let i = c.loop.invariant in
    let s = i.so_far header h in
    let start = page_offset c.args.tally.runs in
    let old = g.S.Sink.taken c.args.out.now in
    let new = g.S.Sink.taken c.end.new.out in
    let held = g.D.Disk.content c.loop.disk in
    let here = subst (λ (x : Option Content). HasTallied x header c.args.tally) (sym i.content) tallied in
    let size : length s.given ≡ c.args.tally.frames = omega (arith, s.size, c.loop-test.false, c.loop.auto.counter-end) in
    on_err_of c.from_residual-in_err-end.result
    (subst (λ (x : Option Content). Front x header old new) i.content
    (whole_of_chain held header s.given c.args.tally start old new here refl (all_by_tally held header c.args.tally s.given here s.first size) (c.end.ensures.front start s.given old s.listed)))

pub returns-in_err-end-clause-stopped : goal.returns-in_err-end-clause-stopped
returns-in_err-end-clause-stopped g c = λ header h tallied.
    let i = c.loop.invariant in
    let p = err_from_is_err_and c.from_residual-in_err-end.result c.from_residual-in_err-end.ensures.1 in
    let first = g.S.Sink.faults c.args.out.now in
    let last = g.S.Sink.faults c.end.new.out in
    subst (λ (r : Result (Unit {0}) Stop). IfErr r (IsStopped (g.D.Disk.content c.args.disk.now) (g.D.Disk.block_count c.args.disk.now) header (g.D.Disk.faults c.args.disk.now) (g.D.Disk.faults c.loop.disk) (g.R.Report.told c.args.report.now) (g.R.Report.told c.loop.report) first last)) (sym (p.1 ∙ ap Err p.2))
    (risen_earlier first (g.S.Sink.faults c.loop.out) last i.counted c.in_err-end.ensures.cause, i.told)

pub returns-then-count-tally-clause-listed : goal.returns-then-count-tally-clause-listed
returns-then-count-tally-clause-listed g c = λ header h tallied.
    let i = c.loop.invariant in
    let s = i.so_far header h in
    let start = page_offset c.args.tally.runs in
    let old = g.S.Sink.taken c.args.out.now in
    let new = g.S.Sink.taken c.end.new.out in
    let held = g.D.Disk.content c.loop.disk in
    let here = subst (λ (x : Option Content). HasTallied x header c.args.tally) (sym i.content) tallied in
    let size : length s.given ≡ c.args.tally.frames = omega (arith, s.size, c.loop-test.false, c.loop.auto.counter-end) in
    let runs : length (runs_of s.given) ≡ c.args.tally.runs = sym (c.count-count.ensures start s.given old (g.S.Sink.taken c.loop.out) s.listed) ∙ c.if-count-tally.true in
    subst (λ (x : Option Content). HasLoads x header c.args.tally old new) i.content
    (has_loads held header s.given c.args.tally start old new refl runs size (all_by_tally held header c.args.tally s.given here s.first size) (c.in_ok-end.ensures.listed start s.given old s.listed))

pub returns-else-count-tally-clause-front : goal.returns-else-count-tally-clause-front
returns-else-count-tally-clause-front g c = λ header h tallied.
    let i = c.loop.invariant in
    let s = i.so_far header h in
    let start = page_offset c.args.tally.runs in
    let old = g.S.Sink.taken c.args.out.now in
    let new = g.S.Sink.taken c.end.new.out in
    let held = g.D.Disk.content c.loop.disk in
    let here = subst (λ (x : Option Content). HasTallied x header c.args.tally) (sym i.content) tallied in
    let size : length s.given ≡ c.args.tally.frames = omega (arith, s.size, c.loop-test.false, c.loop.auto.counter-end) in
    subst (λ (x : Option Content). Front x header old new) i.content
    (whole_of_chain held header s.given c.args.tally start old new here refl (all_by_tally held header c.args.tally s.given here s.first size) (c.end.ensures.front start s.given old s.listed))

pub returns-else-count-tally-clause-stopped : goal.returns-else-count-tally-clause-stopped
returns-else-count-tally-clause-stopped g c = λ header h tallied.
    let i = c.loop.invariant in
    let s = i.so_far header h in
    let start = page_offset c.args.tally.runs in
    let old = g.S.Sink.taken c.args.out.now in
    let held = g.D.Disk.content c.loop.disk in
    let here = subst (λ (x : Option Content). HasTallied x header c.args.tally) (sym i.content) tallied in
    let size : length s.given ≡ c.args.tally.frames = omega (arith, s.size, c.loop-test.false, c.loop.auto.counter-end) in
    let count = c.count-count.ensures start s.given old (g.S.Sink.taken c.loop.out) s.listed in
    let other : length (runs_of s.given) ≢ c.args.tally.runs = λ e. c.if-count-tally.false (count ∙ e) in
    (sym i.content ∙ other_by_tally held header c.args.tally s.given here (all_by_tally held header c.args.tally s.given here s.first size) other, i.told)
