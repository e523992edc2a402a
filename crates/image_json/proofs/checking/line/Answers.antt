use Rattle.std.proofs.Common.{List, ℕ, [], ◌∷◌, ◌++◌, ◌∙◌, ap}
use Rattle.serde_json.specs.Written.{compact_text, has_float}
use Rattle.image_json.proofs.Keeping.{no_float}
use Rattle.image_json.proofs.checking.line.Goals as goal

pub returns : goal.returns
returns c =
    let built = c.in_ok-object.ensures in
    let text = c.in_ok-line.ensures.text (ap has_float built ∙ no_float c.args.image c.args.findings.now) ∙ ap compact_text built in
    c.in_ok-push_str.ensures.bytes ∙ ap (λ (t : List ℕ). t ++ 10 ∷ []) text
