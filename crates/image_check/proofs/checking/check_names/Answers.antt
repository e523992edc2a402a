use Rattle.std.proofs.Common.{subst, sym, ap, ◌∙◌, Option}
use Rattle.definitions.specs.Disk.{Content}
use Rattle.image_walk.specs.Walking.{StepsTo}
use Rattle.image_walk.specs.declared.limits.Limits.{Limits}
use Rattle.image_check.proofs.SoFar.{so_far_more}
use Rattle.image_check.proofs.checking.check_names.Goals as goal

pub loop-visit-preserved : goal.loop-visit-preserved
loop-visit-preserved g c =
    let i = c.loop-visit.invariant in
    let s = i.so_far in
    let first = c.args.walker.now.walk.next in
    let before = g.D.Disk.faults c.args.disk.now in
    let then = g.D.Disk.faults c.loop-visit.disk in
    let now = g.D.Disk.faults c.step.new.disk in
    let step = c.in-Some.ensures.step first s.history s.follows in
    record {
      so_far = so_far_more c.args.walker.now.limits first (g.D.Disk.content c.args.disk.now) before then now c.args.format (g.R.Report.told c.args.report.now)
          (g.R.Report.told c.loop-visit.report) (g.R.Report.told c.check_name.new.report) c.loop-visit.walker c.step.new.self c.loop-visit.progress c.check_name.new.progress c.in-Some.visit
          c.step.new.page s c.step.ensures.faults c.step.ensures.limits
          (subst (λ (x : Option Content). StepsTo first x then now s.history c.loop-visit.walker c.step.new.self c.in-Some.visit c.step.new.page) i.content step)
          (c.check_name.ensures.told s.history step.place s.knows) (c.check_name.ensures.known s.history step.place s.knows);
      blocks = c.step.ensures.blocks ∙ i.blocks ∙ sym (ap (λ (l : Limits). l.blocks) c.step.ensures.limits);
      content = c.step.ensures.content ∙ i.content;
      orders = c.step.ensures.orders ∙ i.orders;
      same_blocks = c.step.ensures.blocks ∙ i.same_blocks;
    }
