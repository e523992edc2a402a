use Rattle.std.proofs.Common.{◌≡◌, sym, ◌∙◌}
use Rattle.core_machine.proofs.Lying.{lies_bytes, lies_zeros}
use Rattle.core_machine.proofs.laying.lay_page.Goals as goal

pub returns-then-is_zeros-clause-laid : goal.returns-then-is_zeros-clause-laid
returns-then-is_zeros-clause-laid c = λ saved h.
    lies_zeros c.args.filled.now saved c.args.frame c.args.page.now (sym c.is_zeros.ensures ∙ c.if-is_zeros.true) h

pub returns-clause-laid : goal.returns-clause-laid
returns-clause-laid c = λ saved h.
    lies_bytes c.add_page.new.filled saved c.args.frame c.args.page.now (sym c.is_zeros.ensures ∙ c.if-is_zeros.false) (c.add_page.ensures.laid saved h)
