use Rattle.std.proofs.Common.{sym, ◌∙◌}
use Rattle.expanded_disk.specs.Laid.{blocks_for, expanded}
use Rattle.expanded_disk.specs.LaidLaws.{IsContent-expanded}
use Rattle.expanded_disk.proofs.Refusals.{refuses_again, refuses_first}
use Rattle.expanded_disk.proofs.disk.ExpandedDiskDisk.write.Goals as goal

pub returns-then-is_some-clause-failed : goal.returns-then-is_some-clause-failed
returns-then-is_some-clause-failed g c =
    let self = c.args.self.now in
    refuses_again c.args.b c.args.from.now self.refused (expanded self.at g.K.Original.state.content)

pub returns-clause-failed : goal.returns-clause-failed
returns-clause-failed g c =
    let state = g.K.Original.state in
    let self = c.args.self.now in
    refuses_first (blocks_for self.index.pages) c.args.b c.args.from.now self.refused (expanded self.at state.content) (sym c.is_some.ensures ∙ c.if-is_some.false) c.requires
    (IsContent-expanded state.blocks state.content self.at self.index self.indexed) c.new.result c.new.ensures.block c.new.ensures.page
