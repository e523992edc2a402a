use Rattle.std.proofs.Common.{◌≡◌, ◌-◌, ℕ, List, ◌++◌, replicate, length, ap, ◌∙◌, drop}
use Rattle.std.proofs.lemmas.List.{drop-replicate}
use Rattle.core_machine.proofs.segments.identity.filled.Goals as goal

pub returns : goal.returns
returns c =
    let name = c.args.name.now in
    ap (λ (xs : List ℕ). xs ++ drop (length name) (replicate 65 0)) c.copy_from_slice.ensures.after
    ∙ ap (λ (rest : List ℕ). name ++ rest) (drop-replicate (length name) 65 0)
