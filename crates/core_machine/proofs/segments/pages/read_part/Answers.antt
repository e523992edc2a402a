use Rattle.std.proofs.Common.{◌≡◌, ◌+◌, ◌-◌, ◌≤◌, ℕ, List, length, take, drop, arith, ap, ◌∙◌}
use Rattle.std.proofs.lemmas.List.{length-drop, length-take-le}
use Rattle.definitions.specs.Bytes.{bytes_at, with_bytes, zero_page}
use Rattle.definitions.proofs.PageBytes.{length-zero_page, put_mid-with_bytes}
use Rattle.core_machine.proofs.segments.pages.read_part.Goals as goal

pub returns-clause-page : goal.returns-clause-page
unfolding zero_page
returns-clause-page g c = λ bytes h.
    let from = c.args.part.0 in
    let n = c.args.part.1 - c.args.part.0 in
    let old : length (take n (drop from zero_page)) ≡ n = length-take-le n (drop from zero_page) (omega (arith, length-drop from zero_page, length-zero_page, c.requires.order, c.requires.within)) in
    let size : length c.take_exact.new.piece ≡ n = c.take_exact.ensures.size ∙ old in
    c.copy_from_slice.ensures.bytes
    ∙ put_mid-with_bytes from n zero_page c.take_exact.new.piece size
    ∙ ap (λ (piece : List ℕ). with_bytes zero_page from piece) (c.in_ok-take_exact.ensures.piece bytes h)
    ∙ ap (λ (k : ℕ). with_bytes zero_page from (bytes_at k bytes c.args.offset)) old
