use Rattle.std.proofs.Common.{ℕ, ◌+◌, ◌<◌, [], ◌∷◌, ◌++◌, map, false, Option, refl, subst, sym, ap, ◌∙◌, rules, arith}
use Rattle.definitions.specs.Disk.{Content}
use Rattle.image_walk.specs.declared.limits.Limits.{Limits}
use Rattle.image_show.specs.Reads.{block_of_part, ReadsOn}
use Rattle.image_show.specs.Runs.{list_of}
use Rattle.image_show.specs.Told.{block_run, IsEnd}
use Rattle.image_show.specs.declared.facts.fact.Fact.TheVariants.{Maps}
use Rattle.image_show.specs.Forms.{Puts, PutsFront}
use Rattle.image_show.proofs.BlockSteps.{Adds, BlocksSoFar, blocks_cut, blocks_end_cut, blocks_more, blocks_start, blocks_whole}
use Rattle.image_show.proofs.Putting.{on_any_err, on_ok_then}
use Rattle.image_show.proofs.blocks.print_blocks.Goals as goal

pub loop-part-init : goal.loop-part-init
loop-part-init g c = record {
  so_far =
      let few : c.args.reading.now.walker.limits.blocks < 4294967296 = search rules in
      blocks_start g.F.Form.style c.args.reading.now.walker.walk.next (g.D.Disk.content c.args.disk.now) (g.D.Disk.faults c.args.disk.now) (g.F.Form.written c.args.form.now) c.args.reading.now c.new-runs.result.last few
      c.requires.start c.new-runs.ensures.start;
  blocks = c.requires.blocks;
  content = refl;
  orders = refl;
  same_blocks = refl;
  counted = omega arith;
}

pub loop-part-preserved : goal.loop-part-preserved
loop-part-preserved g c =
    let i = c.loop-part.invariant in
    let b = i.so_far in
    let first = c.args.reading.now.walker.walk.next in
    let content = g.D.Disk.content c.args.disk.now in
    let then = g.D.Disk.faults c.loop-part.disk in
    let now = g.D.Disk.faults c.next.new.disk in
    let r = c.loop-part.reading in
    let s = c.next.new.self in
    let on : ReadsOn first content then now b.names r s c.in-Some.part c.next.new.page =
    subst (λ (x : Option Content). ReadsOn first x then now b.names r s c.in-Some.part c.next.new.page) i.content (c.in-Some.ensures.next first b.names b.reads) in
    let adds : Adds c.loop-part.runs.last (block_of_part c.in-Some.part) c.add-ended.new.self.last c.add-ended.result =
    subst (λ n. Adds c.loop-part.runs.last n c.add-ended.new.self.last c.add-ended.result) c.block.ensures c.add-ended.ensures.runs in
    record {
      so_far = subst (λ maps. BlocksSoFar g.F.Form.style c.args.reading.now.walker.limits first content (g.D.Disk.faults c.args.disk.now) now (g.F.Form.written c.args.form.now) (g.F.Form.written c.print_part.new.form) s c.add-ended.new.self.last maps) (sym c.maps_after-maps.ensures)
          (blocks_more g.F.Form.style c.args.reading.now.walker.limits first content (g.D.Disk.faults c.args.disk.now) then now (g.F.Form.written c.args.form.now) (g.F.Form.written c.loop-part.form) (g.F.Form.written c.print_part.new.form)
          r s c.loop-part.runs.last c.add-ended.new.self.last c.add-ended.result c.loop-part.maps c.in-Some.part c.next.new.page
          b c.next.ensures.faults c.next.ensures.limits on adds (c.add-ended.ensures.end ∙ ap (λ n. n + 1) c.block.ensures) c.in_ok-print_part.ensures.whole);
      blocks = c.next.ensures.blocks ∙ i.blocks ∙ sym (ap (λ (l : Limits). l.blocks) c.next.ensures.limits);
      content = c.next.ensures.content ∙ i.content;
      orders = c.next.ensures.orders ∙ i.orders;
      same_blocks = c.next.ensures.blocks ∙ i.same_blocks;
      counted = omega (arith, i.counted, c.in_ok-print_part.ensures.counted);
    }

pub returns-in_err-print_part-clause-front : goal.returns-in_err-print_part-clause-front
returns-in_err-print_part-clause-front g c =
    let i = c.loop-part.invariant in
    let b = i.so_far in
    let first = c.args.reading.now.walker.walk.next in
    let content = g.D.Disk.content c.args.disk.now in
    let then = g.D.Disk.faults c.loop-part.disk in
    let now = g.D.Disk.faults c.next.new.disk in
    let r = c.loop-part.reading in
    let s = c.next.new.self in
    let on : ReadsOn first content then now b.names r s c.in-Some.part c.next.new.page =
    subst (λ (x : Option Content). ReadsOn first x then now b.names r s c.in-Some.part c.next.new.page) i.content (c.in-Some.ensures.next first b.names b.reads) in
    let adds : Adds c.loop-part.runs.last (block_of_part c.in-Some.part) c.add-ended.new.self.last c.add-ended.result =
    subst (λ n. Adds c.loop-part.runs.last n c.add-ended.new.self.last c.add-ended.result) c.block.ensures c.add-ended.ensures.runs in
    on_any_err c.from_residual.result (
      false,
      blocks_cut g.F.Form.style c.args.reading.now.walker.limits first content (g.D.Disk.faults c.args.disk.now) then now (g.F.Form.written c.args.form.now) (g.F.Form.written c.loop-part.form) (g.F.Form.written c.print_part.new.form)
          r s c.loop-part.runs.last c.add-ended.new.self.last c.add-ended.result c.loop-part.maps c.in-Some.part c.next.new.page
          b c.next.ensures.limits on adds c.print_part.ensures.front,
    )

pub returns-clause-whole : goal.returns-clause-whole
returns-clause-whole g c =
    let i = c.loop-part.invariant in
    let b = i.so_far in
    let first = c.args.reading.now.walker.walk.next in
    let content = g.D.Disk.content c.args.disk.now in
    let then = g.D.Disk.faults c.loop-part.disk in
    let now = g.D.Disk.faults c.next.new.disk in
    let limits = c.loop-part.reading.walker.limits in
    let end : IsEnd limits first content then now b.names =
    subst (λ (x : Option Content). IsEnd limits first x then now b.names) i.content (c.in_default.ensures.end first b.names b.reads) in
    on_ok_then c.print_end.result
    (λ takes. blocks_whole g.F.Form.style c.args.reading.now.walker.limits first content (g.D.Disk.faults c.args.disk.now) then now (g.F.Form.written c.args.form.now) (g.F.Form.written c.loop-part.form) c.loop-part.reading
    c.loop-part.runs.last c.loop-part.maps (g.F.Form.written c.print_end.new.form) b end
    (subst (λ (last : Option (ℕ × ℕ)). Puts g.F.Form.style (map block_run (list_of last) ++ Maps c.loop-part.maps ∷ []) (g.F.Form.written c.loop-part.form) (g.F.Form.written c.print_end.new.form)) c.last.ensures takes))
    c.print_end.ensures.whole

pub returns-clause-front : goal.returns-clause-front
returns-clause-front g c =
    let i = c.loop-part.invariant in
    let b = i.so_far in
    let first = c.args.reading.now.walker.walk.next in
    let content = g.D.Disk.content c.args.disk.now in
    let then = g.D.Disk.faults c.loop-part.disk in
    let now = g.D.Disk.faults c.next.new.disk in
    let limits = c.loop-part.reading.walker.limits in
    let end : IsEnd limits first content then now b.names =
    subst (λ (x : Option Content). IsEnd limits first x then now b.names) i.content (c.in_default.ensures.end first b.names b.reads) in
    on_any_err c.print_end.result
    (blocks_end_cut g.F.Form.style c.args.reading.now.walker.limits first content (g.D.Disk.faults c.args.disk.now) then now (g.F.Form.written c.args.form.now) (g.F.Form.written c.loop-part.form) c.loop-part.reading
    c.loop-part.runs.last c.loop-part.maps (g.F.Form.written c.print_end.new.form) b end
    (subst (λ (last : Option (ℕ × ℕ)). PutsFront g.F.Form.style (map block_run (list_of last) ++ Maps c.loop-part.maps ∷ []) (g.F.Form.written c.loop-part.form) (g.F.Form.written c.print_end.new.form)) c.last.ensures c.print_end.ensures.front))
