use Rattle.std.proofs.Common.{◌≡◌, ℕ, List, map, false, Option, Some, refl, subst, sym, ap, ◌∙◌, arith}
use Rattle.definitions.specs.Disk.{Content}
use Rattle.image_walk.specs.declared.limits.Limits.{Limits}
use Rattle.image_show.specs.Reads.{ReadsOn}
use Rattle.image_show.specs.Runs.{list_of}
use Rattle.image_show.specs.Told.{frame_run, IsEnd}
use Rattle.image_show.specs.declared.facts.fact.Fact.{Fact}
use Rattle.image_show.specs.Forms.{Puts, PutsFront}
use Rattle.image_show.proofs.FrameSteps.{frames_cut, frames_end_cut, frames_start, frames_step, frames_whole}
use Rattle.image_show.proofs.Putting.{on_any_err, on_ok_then}
use Rattle.image_show.proofs.frames.print_frames.Goals as goal

pub loop-part-init : goal.loop-part-init
loop-part-init g c = record {
  so_far = frames_start g.F.Form.style c.args.reading.now.walker.walk.next (g.D.Disk.content c.args.disk.now) (g.D.Disk.faults c.args.disk.now) c.args.format (g.F.Form.written c.args.form.now) c.args.reading.now c.new-runs.result.last
      c.requires.start c.new-runs.ensures.start c.new-runs.ensures.count;
  blocks = c.requires.blocks;
  content = refl;
  orders = refl;
  same_blocks = refl;
  counted = omega arith;
}

pub loop-part-preserved : goal.loop-part-preserved
loop-part-preserved g c =
    let i = c.loop-part.invariant in
    let b = i.so_far in
    let first = c.args.reading.now.walker.walk.next in
    let content = g.D.Disk.content c.args.disk.now in
    let then = g.D.Disk.faults c.loop-part.disk in
    let now = g.D.Disk.faults c.next_part.new.disk in
    let r = c.loop-part.reading in
    let s = c.next_part.new.reading in
    let part = c.in-Some.part in
    let page = c.next_part.new.page in
    let on : ReadsOn first content then now b.names r s part page =
    subst (λ (x : Option Content). ReadsOn first x then now b.names r s part page) i.content (c.in-Some.ensures.next first b.names b.reads) in
    record {
      so_far = frames_step g.F.Form.style c.args.reading.now.walker.limits first content (g.D.Disk.faults c.args.disk.now) then now c.args.format (g.F.Form.written c.args.form.now) (g.F.Form.written c.loop-part.form) (g.F.Form.written c.print_numbers.new.form)
          r s c.loop-part.runs.last c.print_numbers.new.runs.last c.loop-part.left part page
          b c.left_after-left.result c.numbers_in_part-count.result c.next_part.ensures.faults c.next_part.ensures.limits on
          c.numbers_in_part-count.ensures.count c.numbers_in_part-count.ensures.enough c.numbers_in_part-count.ensures.few
          c.left_after-left.ensures.left c.left_after-left.ensures.fits c.print_numbers.ensures.count c.in_ok-print_numbers.ensures.whole;
      blocks = c.next_part.ensures.blocks ∙ i.blocks ∙ sym (ap (λ (l : Limits). l.blocks) c.next_part.ensures.limits);
      content = c.next_part.ensures.content ∙ i.content;
      orders = c.next_part.ensures.orders ∙ i.orders;
      same_blocks = c.next_part.ensures.blocks ∙ i.same_blocks;
      counted = omega (arith, i.counted, c.in_ok-print_numbers.ensures.counted);
    }

pub print_numbers-requires-clause-room : goal.print_numbers-requires-clause-room
print_numbers-requires-clause-room g c =
    let b = c.loop-part.invariant.so_far in
    omega (arith, b.room, c.numbers_in_part-count.ensures.enough)

pub returns-in_err-print_numbers-clause-front : goal.returns-in_err-print_numbers-clause-front
returns-in_err-print_numbers-clause-front g c =
    let i = c.loop-part.invariant in
    let b = i.so_far in
    let first = c.args.reading.now.walker.walk.next in
    let content = g.D.Disk.content c.args.disk.now in
    let then = g.D.Disk.faults c.loop-part.disk in
    let now = g.D.Disk.faults c.next_part.new.disk in
    let r = c.loop-part.reading in
    let s = c.next_part.new.reading in
    let part = c.in-Some.part in
    let page = c.next_part.new.page in
    let on : ReadsOn first content then now b.names r s part page =
    subst (λ (x : Option Content). ReadsOn first x then now b.names r s part page) i.content (c.in-Some.ensures.next first b.names b.reads) in
    on_any_err c.from_residual.result (
      false,
      frames_cut g.F.Form.style c.args.reading.now.walker.limits first content (g.D.Disk.faults c.args.disk.now) then now c.args.format (g.F.Form.written c.args.form.now) (g.F.Form.written c.loop-part.form) (g.F.Form.written c.print_numbers.new.form)
          r s c.loop-part.runs.last c.print_numbers.new.runs.last c.loop-part.left part page
          b c.numbers_in_part-count.result c.next_part.ensures.limits on c.numbers_in_part-count.ensures.count c.print_numbers.ensures.front,
    )

pub returns-clause-whole : goal.returns-clause-whole
returns-clause-whole g c =
    let i = c.loop-part.invariant in
    let b = i.so_far in
    let first = c.args.reading.now.walker.walk.next in
    let content = g.D.Disk.content c.args.disk.now in
    let then = g.D.Disk.faults c.loop-part.disk in
    let now = g.D.Disk.faults c.next_part.new.disk in
    let limits = c.loop-part.reading.walker.limits in
    let end : (c.loop-part.left ≡ Some 0 → ⊥) → IsEnd limits first content then now b.names =
    λ more. subst (λ (x : Option Content). IsEnd limits first x then now b.names) i.content (c.in_default.ensures.end more first b.names b.reads) in
    on_ok_then c.print_any.result
    (λ takes. frames_whole g.F.Form.style c.args.reading.now.walker.limits first content (g.D.Disk.faults c.args.disk.now) then now c.args.format (g.F.Form.written c.args.form.now) (g.F.Form.written c.loop-part.form) c.loop-part.reading
    c.loop-part.runs.last c.loop-part.left (g.F.Form.written c.print_any.new.form) b end
    (subst (λ (fs : List Fact). Puts g.F.Form.style fs (g.F.Form.written c.loop-part.form) (g.F.Form.written c.print_any.new.form)) (c.frame_run.ensures ∙ ap (λ (o : Option (ℕ × ℕ)). map frame_run (list_of o)) c.last.ensures) takes))
    c.print_any.ensures.whole

pub returns-clause-front : goal.returns-clause-front
returns-clause-front g c =
    let i = c.loop-part.invariant in
    let b = i.so_far in
    let first = c.args.reading.now.walker.walk.next in
    let content = g.D.Disk.content c.args.disk.now in
    let then = g.D.Disk.faults c.loop-part.disk in
    let now = g.D.Disk.faults c.next_part.new.disk in
    let limits = c.loop-part.reading.walker.limits in
    let end : (c.loop-part.left ≡ Some 0 → ⊥) → IsEnd limits first content then now b.names =
    λ more. subst (λ (x : Option Content). IsEnd limits first x then now b.names) i.content (c.in_default.ensures.end more first b.names b.reads) in
    on_any_err c.print_any.result
    (frames_end_cut g.F.Form.style c.args.reading.now.walker.limits first content (g.D.Disk.faults c.args.disk.now) then now c.args.format (g.F.Form.written c.args.form.now) (g.F.Form.written c.loop-part.form) c.loop-part.reading
    c.loop-part.runs.last c.loop-part.left (g.F.Form.written c.print_any.new.form) b end
    (subst (λ (fs : List Fact). PutsFront g.F.Form.style fs (g.F.Form.written c.loop-part.form) (g.F.Form.written c.print_any.new.form)) (c.frame_run.ensures ∙ ap (λ (o : Option (ℕ × ℕ)). map frame_run (list_of o)) c.last.ensures) c.print_any.ensures.front))
