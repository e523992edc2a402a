use Rattle.std.proofs.Common.{ℕ, List, take, ◌∙◌, ap, arith}
use Rattle.core_machine.proofs.SixNames.{six_chunks}
use Rattle.core_machine.proofs.segments.identity.names_of.Goals as goal

pub returns : goal.returns
returns c =
    c.copy_from_slice.ensures.after
    ∙ ap (λ (xs : List (List ℕ)). take 6 xs) c.as_chunks.ensures.front
    ∙ six_chunks _ c.args.bytes.now (omega arith)
