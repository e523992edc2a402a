use Rattle.std.proofs.Common.{◌≡◌, ℕ, ◌+◌, ◌-◌, ◌*◌, List, take, drop, ap, ◌∙◌, arith}
use Rattle.expanded_disk.proofs.units.unit.Unit.page.Goals as goal

pub returns : goal.returns
returns c =
    let i = c.args.i in
    let size : 4096 * i + 4096 - 4096 * i ≡ 4096 = omega arith in
    c.copy_from_slice.ensures.bytes
    ∙ ap (λ (n : ℕ). take n (drop (4096 * i) c.as_slice.result.now)) size
    ∙ ap (λ (s : List ℕ). take 4096 (drop (4096 * i) s)) c.as_slice.ensures.value
