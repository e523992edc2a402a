use Rattle.std.proofs.Common.{◌≡◌, ℕ, List, ◌++◌, get_or, encode_utf8, ap, ap₂, sym, ◌∙◌, rules}
use Rattle.image_json.proofs.Texts.{one_character}
use Rattle.image_json.proofs.values.characters.Goals as goal

pub loop-b-preserved : goal.loop-b-preserved
loop-b-preserved c =
    let here : c.from.result ≡ get_or c.args.bytes.now c.loop-b.b-index 0 = search rules in
    c.in_ok-push.ensures.bytes ∙ ap₂ (λ (t u : List ℕ). t ++ u) c.loop-b.invariant (ap encode_utf8 here)
    ∙ sym (one_character c.args.bytes.now c.loop-b.b-index 0 c.loop-b-test.true)
