use Rattle.std.proofs.Common.{sym, subst, inl, inr, ◌∙◌}
use Rattle.std.proofs.lemmas.Result.{IfOk-weaker}
use Rattle.image_show.specs.Shown.{Shows, ShowsFront}
use Rattle.expanded_disk.specs.Opens.{OpensUnits}
use Rattle.expanded_show.specs.Shown.{ShowsAll, ShowsNoMore}
use Rattle.expanded_show.proofs.Leading.{index_at, shows_lying, shows_whole}
use Rattle.expanded_show.proofs.showing.show.Goals as goal

pub show_below-over-requires-clause-indexed : goal.show_below-over-requires-clause-indexed
show_below-over-requires-clause-indexed g c =
    let content = g.D.Disk.content c.args.disk.now in
    let blocks = g.D.Disk.block_count c.args.disk.now in
    let opens = subst (OpensUnits content blocks c.args.header (g.D.Disk.faults c.args.disk.now) (g.D.Disk.faults c.open.new.disk) _ _) c.in-Ok-Whole.field-0-is c.in-Ok-Whole.ensures.opened in
    index_at content (g.D.Disk.content c.area_facts.new.disk) blocks (g.D.Disk.block_count c.area_facts.new.disk) c.args.header c.in-Ok-Whole.index
    (c.area_facts.ensures.content ∙ c.open.ensures.content) (c.area_facts.ensures.blocks ∙ c.open.ensures.blocks) opens.1

pub returns-in-Ok-Plain-clause-shown : goal.returns-in-Ok-Plain-clause-shown
returns-in-Ok-Plain-clause-shown g c =
    let content = g.D.Disk.content c.args.disk.now in
    let blocks = g.D.Disk.block_count c.args.disk.now in
    let before = g.D.Disk.faults c.args.disk.now in
    let then = g.D.Disk.faults c.open.new.disk in
    let opens = subst (OpensUnits content blocks c.args.header before then _ _) c.in-Ok-Plain.field-0-is c.in-Ok-Plain.ensures.opened in
    IfOk-weaker c.show.result _ _
    (λ shown s. (
      s.0,
      (
        shows_lying (λ c n h b f fs. Shows c n h b f fs shown) content (g.D.Disk.content c.open.new.disk) blocks (g.D.Disk.block_count c.open.new.disk) c.args.header before then (g.D.Disk.faults c.show.new.disk) s.0
            c.open.ensures.content c.open.ensures.blocks c.open.ensures.faults (inl opens.1) s.1.0,
        s.1.1,
      ),
    ))
    c.show.ensures.shown

pub returns-in-Ok-Plain-clause-front : goal.returns-in-Ok-Plain-clause-front
returns-in-Ok-Plain-clause-front g c = λ e.
    let content = g.D.Disk.content c.args.disk.now in
    let blocks = g.D.Disk.block_count c.args.disk.now in
    let before = g.D.Disk.faults c.args.disk.now in
    let then = g.D.Disk.faults c.open.new.disk in
    let opens = subst (OpensUnits content blocks c.args.header before then _ _) c.in-Ok-Plain.field-0-is c.in-Ok-Plain.ensures.opened in
    let s = c.show.ensures.front e in (
      s.0,
      (
        shows_lying ShowsFront content (g.D.Disk.content c.open.new.disk) blocks (g.D.Disk.block_count c.open.new.disk) c.args.header before then (g.D.Disk.faults c.show.new.disk) s.0
            c.open.ensures.content c.open.ensures.blocks c.open.ensures.faults (inl opens.1) s.1.0,
        s.1.1,
      ),
    )

pub returns-in-Ok-Refused-clause-shown : goal.returns-in-Ok-Refused-clause-shown
returns-in-Ok-Refused-clause-shown g c =
    let content = g.D.Disk.content c.args.disk.now in
    let blocks = g.D.Disk.block_count c.args.disk.now in
    let before = g.D.Disk.faults c.args.disk.now in
    let then = g.D.Disk.faults c.open.new.disk in
    let opens = subst (OpensUnits content blocks c.args.header before then _ _) c.in-Ok-Refused.field-0-is c.in-Ok-Refused.ensures.opened in
    IfOk-weaker c.show-in-Ok-Refused.result _ _
    (λ shown s. (
      s.0,
      (
        shows_lying (λ c n h b f fs. Shows c n h b f fs shown) content (g.D.Disk.content c.open.new.disk) blocks (g.D.Disk.block_count c.open.new.disk) c.args.header before then (g.D.Disk.faults c.show-in-Ok-Refused.new.disk) s.0
            c.open.ensures.content c.open.ensures.blocks c.open.ensures.faults (inr (opens.0, opens.1.1)) s.1.0,
        s.1.1,
      ),
    ))
    c.show-in-Ok-Refused.ensures.shown

pub returns-in-Ok-Refused-clause-front : goal.returns-in-Ok-Refused-clause-front
returns-in-Ok-Refused-clause-front g c = λ e.
    let content = g.D.Disk.content c.args.disk.now in
    let blocks = g.D.Disk.block_count c.args.disk.now in
    let before = g.D.Disk.faults c.args.disk.now in
    let then = g.D.Disk.faults c.open.new.disk in
    let opens = subst (OpensUnits content blocks c.args.header before then _ _) c.in-Ok-Refused.field-0-is c.in-Ok-Refused.ensures.opened in
    let s = c.show-in-Ok-Refused.ensures.front e in (
      s.0,
      (
        shows_lying ShowsFront content (g.D.Disk.content c.open.new.disk) blocks (g.D.Disk.block_count c.open.new.disk) c.args.header before then (g.D.Disk.faults c.show-in-Ok-Refused.new.disk) s.0
            c.open.ensures.content c.open.ensures.blocks c.open.ensures.faults (inr (opens.0, opens.1.1)) s.1.0,
        s.1.1,
      ),
    )

pub returns-in-Ok-Whole-clause-shown : goal.returns-in-Ok-Whole-clause-shown
returns-in-Ok-Whole-clause-shown g c =
    let content = g.D.Disk.content c.args.disk.now in
    let blocks = g.D.Disk.block_count c.args.disk.now in
    let before = g.D.Disk.faults c.args.disk.now in
    let then = g.D.Disk.faults c.open.new.disk in
    let opens = subst (OpensUnits content blocks c.args.header before then _ _) c.in-Ok-Whole.field-0-is c.in-Ok-Whole.ensures.opened in
    let given = c.disk-1.given.1 (sym c.show_below-over.ensures.same.which) in
    IfOk-weaker c.show_below-over.result.1 _ _
    (λ shown s. (
      s.0,
      (
        subst (λ d. ShowsAll content blocks c.args.header before (g.D.Disk.faults d) s.0 shown) (sym given)
            (shows_whole (λ c n h b f fs. Shows c n h b f fs shown) content (g.D.Disk.content c.open.new.disk) (g.D.Disk.content c.area_facts.new.disk) blocks (g.D.Disk.block_count c.open.new.disk) (g.D.Disk.block_count c.area_facts.new.disk) c.args.header before then (g.D.Disk.faults c.area_facts.new.disk) (g.D.Disk.faults c.show_below-over.result.0.disk.now) c.in-Ok-Whole.index c.in-Ok.blocks.items s.0
            c.open.ensures.content c.area_facts.ensures.content c.open.ensures.blocks c.area_facts.ensures.blocks c.open.ensures.faults c.area_facts.ensures.faults opens.1 c.in-Ok.ensures.facts s.1.0),
        s.1.1,
      ),
    ))
    c.show_below-over.ensures.shown

pub returns-in-Ok-Whole-clause-front : goal.returns-in-Ok-Whole-clause-front
returns-in-Ok-Whole-clause-front g c = λ e.
    let content = g.D.Disk.content c.args.disk.now in
    let blocks = g.D.Disk.block_count c.args.disk.now in
    let before = g.D.Disk.faults c.args.disk.now in
    let then = g.D.Disk.faults c.open.new.disk in
    let opens = subst (OpensUnits content blocks c.args.header before then _ _) c.in-Ok-Whole.field-0-is c.in-Ok-Whole.ensures.opened in
    let given = c.disk-1.given.1 (sym c.show_below-over.ensures.same.which) in
    let s = c.show_below-over.ensures.front e in (
      s.0,
      (
        subst (λ d. ShowsNoMore content blocks c.args.header before (g.D.Disk.faults d) s.0) (sym given)
            (shows_whole ShowsFront content (g.D.Disk.content c.open.new.disk) (g.D.Disk.content c.area_facts.new.disk) blocks (g.D.Disk.block_count c.open.new.disk) (g.D.Disk.block_count c.area_facts.new.disk) c.args.header before then (g.D.Disk.faults c.area_facts.new.disk) (g.D.Disk.faults c.show_below-over.result.0.disk.now) c.in-Ok-Whole.index c.in-Ok.blocks.items s.0
            c.open.ensures.content c.area_facts.ensures.content c.open.ensures.blocks c.area_facts.ensures.blocks c.open.ensures.faults c.area_facts.ensures.faults opens.1 c.in-Ok.ensures.facts s.1.0),
        s.1.1,
      ),
    )
