use Rattle.std.proofs.Common.{◌≡◌, flat_map, string_bytes, take}
use Rattle.image_json.proofs.pieces.joined.Given as goal

abbrev pub invariant-loop-text : goal.invariant-loop-text
invariant-loop-text l = string_bytes l.all ≡ flat_map (λ part. part.now) (take l.text-index l.texts)
