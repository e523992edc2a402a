use Rattle.std.proofs.Common.{◌≡◌, ◌≤◌, ◌+◌, ◌-◌, ap, ◌∙◌, length, take, drop, arith, sym}
use Rattle.std.proofs.lemmas.List.{length-take-le, length-drop}
use Rattle.definitions.specs.Bytes.{with_bytes}
use Rattle.definitions.proofs.PageBytes.{put_mid-with_bytes}
use Rattle.image_format.proofs.signature.signatures.with_signature.Goals as goal

pub returns : goal.returns
returns c =
    let bytes = c.as_bytes.result.now in
    let k = c.args.k in
    let whole : length bytes ≡ 4096 = ap length c.as_bytes.ensures.bytes ∙ c.as_bytes.ensures.page in
    let room : k + 10 - k ≤ length (drop k bytes) = omega (arith, length-drop k bytes) in
    let size : length c.copy_from_slice.new.self ≡ k + 10 - k = c.copy_from_slice.ensures.len ∙ length-take-le (k + 10 - k) (drop k bytes) room in
    c.from_bytes.ensures.bytes ∙ put_mid-with_bytes k (k + 10 - k) bytes c.copy_from_slice.new.self size
    ∙ ap (with_bytes bytes k) c.copy_from_slice.ensures.after ∙ ap (λ page. with_bytes page k c.args.sig) c.as_bytes.ensures.bytes
