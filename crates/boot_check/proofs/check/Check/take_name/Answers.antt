use Rattle.std.proofs.Common.{◌++◌, ◌∷◌, List, Option, append_assoc, sym, subst}
use Rattle.image_walk.specs.Names.{IsAnswer, seen}
use Rattle.image_walk.specs.declared.visit.BlockFault.{BlockFault}
use Rattle.image_check.specs.Image.{name_findings}
use Rattle.image_check.specs.declared.finding.Finding.{Finding}
use Rattle.image_check.proofs.Telling.{tells_then}
use Rattle.boot_check.specs.Found.{HasFound}
use Rattle.boot_check.proofs.Between.{between_more}
use Rattle.boot_check.proofs.check.Check.take_name.Goals as goal

pub returns-clause-found : goal.returns-clause-found
returns-clause-found g c = λ content before faults blocks header b asked found s o.
    let i = s.between in
    let n = c.args.self.now.names in
    let told = c.args.answer in
    let page = c.args.page.now in
    let start = g.R.Report.told c.args.report.now in
    let mid = g.R.Report.told c.tell.new.report in
    let last = g.R.Report.told c.go_on.new.report in
    let t = c.tell.ensures.told i.mark.first b i.named.history i.named.stands i.named.knows s.block
    (subst (λ (f : Option BlockFault). IsAnswer f b (seen told page)) (sym s.free) o.told) in
    let more = name_findings n.format i.named.history t.name in
    let next = c.go_on.ensures.found content faults blocks header (b ∷ asked) (found ++ more)
    (between_more content before faults blocks header b told page n c.tell.new.self c.args.words.now c.tell.new.words asked found start mid s t
    c.tell.ensures.limits c.tell.ensures.format o) in (
      more ++ next.0,
      (
        tells_then more next.0 start mid last t.tells next.1.0,
        subst (λ (f : List Finding). HasFound content faults blocks header c.go_on.new.self c.go_on.new.words (b ∷ asked) f) (append_assoc found more next.0) next.1.1,
      ),
    )
