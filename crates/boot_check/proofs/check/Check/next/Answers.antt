use Rattle.std.proofs.Common.{sym, subst}
use Rattle.boot_check.specs.Found.{IsTurn}
use Rattle.boot_check.specs.declared.stage.Step.{Step}
use Rattle.boot_check.proofs.Between.{turn_of}
use Rattle.boot_check.proofs.check.Check.next.Goals as goal

pub returns-clause-turn : goal.returns-clause-turn
returns-clause-turn c = λ content faults blocks header words asked found h.
    let self = c.args.self.now in
    subst (λ (s : Step). IsTurn content faults blocks header asked found s) (sym c.pending_at.ensures)
    (turn_of content faults blocks header self.stage self.names words asked found h)
