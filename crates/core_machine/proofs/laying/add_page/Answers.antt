use Rattle.std.proofs.Common.{◌≡◌, ◌<◌, ℕ, List, All, ◌++◌, ◌∷◌, [], sym, subst, arith}
use Rattle.std.specs.List.{Contains}
use Rattle.definitions.specs.Zones.{numbers}
use Rattle.image_machine.specs.Machines.{numbers_of}
use Rattle.core_machine.proofs.Lying.{lies_next}
use Rattle.core_machine.proofs.laying.add_page.Goals as goal

pub unreachable-requires : goal.unreachable-requires
unreachable-requires c =
    c.in-Err.ensures.outside.1 (subst (λ (n : ℕ). Contains (numbers c.args.filled.now.plan.zones) n) (sym c.from.ensures) c.requires.valid)

pub returns-clause-laid : goal.returns-clause-laid
returns-clause-laid c = λ saved h.
    lies_next c.add.new.self saved c.args.frame c.from.result c.args.page.now c.from.ensures h.below
    (c.in-Ok.ensures.filled saved h.has (subst (λ (n : ℕ). All (λ (m : ℕ). m < n) (numbers_of saved)) (sym c.from.ensures) h.below))
