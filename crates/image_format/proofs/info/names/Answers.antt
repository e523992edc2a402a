use Rattle.std.proofs.Common.{ℕ, List, take, ◌∙◌, ap, arith}
use Rattle.definitions.specs.InfoPage.{names_of}
use Rattle.image_format.proofs.SixNames.{six_chunks}
use Rattle.image_format.proofs.info.names.Goals as goal

pub returns : goal.returns
returns c =
    c.copy_from_slice.ensures.after
    ∙ ap (λ (xs : List (List ℕ)). take 6 xs) c.as_chunks.ensures.front
    ∙ six_chunks _ c.as_bytes.result.now (omega arith)
    ∙ ap names_of c.as_bytes.ensures.bytes
