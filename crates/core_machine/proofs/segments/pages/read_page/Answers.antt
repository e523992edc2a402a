use Rattle.std.proofs.Common.{◌≡◌, ◌+◌, ◌-◌, ◌*◌, ◌<◌, ◌≤◌, ℕ, length, refl, arith, ap, ◌∙◌}
use Rattle.definitions.specs.Bytes.{bytes_at, with_bytes, zero_page}
use Rattle.core_machine.proofs.Paging.{no_bytes, some_bytes}
use Rattle.core_machine.proofs.segments.pages.read_page.Goals as goal

pub returns-then-to-from-clause-page : goal.returns-then-to-from-clause-page
returns-then-to-from-clause-page g c = λ bytes h.
    c.zero.ensures
    ∙ no_bytes bytes c.args.segment.now c.args.frame (omega (arith, c.if-to-from.true, c.addresses-from.ensures.from, c.addresses-from.ensures.to))

pub returns-clause-page : goal.returns-clause-page
returns-clause-page g c = λ bytes h.
    let s = c.args.segment.now in
    let from = c.addresses-from.result.0 in
    let to = c.addresses-from.result.1 in
    let start = 4096 * c.from-start.result in
    let offset = s.offset + (from - s.address) in
    let from_is = c.addresses-from.ensures.from in
    let to_is = c.addresses-from.ensures.to in
    let start_is = c.from-start.ensures in
    let some : from < to = c.if-to-from.false in
    let here = c.in_ok-skip.ensures.left bytes h in
    let whole : offset + (to - start - (from - start)) ≤ length bytes = c.in_ok-read_part.ensures.whole bytes here in
    let low : start ≤ from = omega (arith, from_is, start_is) in
    let count : to - start - (from - start) ≡ to - from = omega (arith, low, some) in
    c.in_ok-read_part.ensures.page bytes here
    ∙ ap (λ (n : ℕ). with_bytes zero_page (from - start) (bytes_at n bytes offset)) count
    ∙ some_bytes bytes s c.args.frame start offset from to (omega (arith, start_is)) from_is to_is some refl (omega (arith, whole, count))
