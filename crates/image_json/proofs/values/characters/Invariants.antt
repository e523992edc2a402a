use Rattle.std.proofs.Common.{◌≡◌, string_bytes, take}
use Rattle.image_json.specs.Values.{characters}
use Rattle.image_json.proofs.values.characters.Given as goal

abbrev pub invariant-loop-b : goal.invariant-loop-b
invariant-loop-b l = string_bytes l.text ≡ characters (take l.b-index l.bytes)
