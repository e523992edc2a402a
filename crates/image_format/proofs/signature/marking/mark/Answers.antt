use Rattle.std.proofs.Common.{List, ℕ, subst, sym}
use Rattle.definitions.specs.Bytes.{AgreeBut}
use Rattle.definitions.specs.SwapHeader.{taken_back}
use Rattle.definitions.proofs.Marks.{taken_back-marked}
use Rattle.image_format.proofs.signature.marking.mark.Goals as goal

pub returns-clause-undone : goal.returns-clause-undone
returns-clause-undone c =
    subst (λ (m : List ℕ). AgreeBut 4056 4086 (taken_back m) c.args.page.now) (sym c.mark_over.ensures)
    (taken_back-marked c.args.page.now c.args.first c.args.flags c.args.hw c.signature-original.ensures.page)
