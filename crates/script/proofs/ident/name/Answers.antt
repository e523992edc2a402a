use Rattle.std.proofs.Common.{ℕ, ◌++◌, List, length, ap₂}
use Rattle.std.proofs.lemmas.List.{drop-replicate}
use Rattle.script.proofs.ident.name.Goals as goal

pub returns : goal.returns
returns c =
    let join : List ℕ → List ℕ → List ℕ = λ a b. a ++ b in
    ap₂ join c.copy_from_slice.ensures.after (drop-replicate (length c.args.text.now) 65 0)
