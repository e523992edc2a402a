use Rattle.std.proofs.Common.{◌≡◌, ap, ◌∙◌, rules}
use Rattle.std.proofs.lemmas.Result.{IfOk-weaker}
use Rattle.serde_json.specs.View.{view}
use Rattle.serde_json.specs.Written.{compact_text, has_float}
use Rattle.serde_json.specs.declared.value.Value.{the_lemmas}
use Rattle.image_json.specs.Values.{run_value}
use Rattle.image_json.proofs.Texts.{no_float_in}
use Rattle.image_json.proofs.values.run_text.Goals as goal

pub returns : goal.returns
returns c =
    let built : view c.in_ok-json.field-0 ≡ run_value c.args.start c.args.count = search (rules, the_lemmas) in
    IfOk-weaker c.to_string.result _ _ (λ text h. h (ap has_float built ∙ no_float_in c.args.start c.args.count) ∙ ap compact_text built) c.to_string.ensures.text
