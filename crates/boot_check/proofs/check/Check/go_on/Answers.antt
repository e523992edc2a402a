use Rattle.std.proofs.Common.{◌++◌, sym, subst}
use Rattle.boot_check.specs.Found.{FoundAt}
use Rattle.boot_check.specs.declared.stage.Stage.{Stage}
use Rattle.boot_check.proofs.Between.{waits_found}
use Rattle.boot_check.proofs.check.Check.go_on.Goals as goal

pub returns-clause-found : goal.returns-clause-found
returns-clause-found g c = λ content faults blocks header asked found i.
    let went = c.go_on.ensures.went content faults i.mark.first i.blocks_asked i.names_found i.named in (
      went.0,
      (
        went.1.0,
        subst (λ (s : Stage). FoundAt s content faults blocks header c.go_on.new.self c.go_on.new.words asked (found ++ went.0)) (sym c.stage_after-self.ensures)
            (waits_found content faults blocks header c.args.self.now.names c.go_on.new.self c.args.words.now c.go_on.new.words asked found went.0 c.go_on.result i
            c.go_on.ensures.limits c.go_on.ensures.format went.1.1),
      ),
    )
