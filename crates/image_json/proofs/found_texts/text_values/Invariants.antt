use Rattle.std.proofs.Common.{◌≡◌, map, take}
use Rattle.serde_json.specs.View.{view}
use Rattle.image_check.specs.Lines.{finding_text}
use Rattle.image_json.specs.Findings.{text_value}
use Rattle.image_json.proofs.found_texts.text_values.Given as goal

abbrev pub invariant-loop-finding : goal.invariant-loop-finding
invariant-loop-finding l = map view l.values.items ≡ map (λ finding. text_value (finding_text finding)) (take l.finding-index l.findings)
