use Rattle.std.proofs.Common.{ℕ, List, sym, subst}
use Rattle.std.specs.List.{Contains}
use Rattle.definitions.specs.Zones.{numbers}
use Rattle.machine.proofs.Rows.{valid_is}
use Rattle.machine.proofs.tasks.is_valid.Goals as goal

pub returns-clause-test : goal.returns-clause-test
returns-clause-test c =
    let P : List (ℕ × ℕ) → Type 0 = λ zones. Contains (numbers zones) c.args.p in
    valid_is c.args.hw.now c.args.p c.valid.result
    (λ e. subst P c.zones.ensures.zones (c.valid.ensures.valid.0 e))
    (λ in'. c.valid.ensures.valid.1 (subst P (sym c.zones.ensures.zones) in'))
