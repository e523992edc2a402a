use Rattle.std.proofs.Common.{◌≡◌, ℕ, ◌≤◌, ◌+◌, List, not, nat_lt, inl, inr, ⊎_elim, sym, ap, ◌∙◌, subst, arith}
use Rattle.std.proofs.lemmas.Bool.{le-leb}
use Rattle.std.proofs.lemmas.Bool.Decides.{same_from_decides}
use Rattle.std.specs.List.{list_any, range_with_len}
use Rattle.definitions.specs.Slots.{block_of}
use Rattle.machine.proofs.Beyond.{SomePasses, decides_beyond}
use Rattle.machine.proofs.area.lies_beyond.Goals as goal

pub returns-then-block-from : goal.returns-then-block-from
returns-then-block-from c =
    let h = c.args.hw.now in
    let last = c.args.last in
    let blocks = c.args.blocks in
    let here : c.block.result ≡ block_of h.extents last = c.block.ensures.block ∙ ap (λ (es : List (ℕ × ℕ × ℕ)). block_of es last) c.extents-map.ensures.extents in
    let limit = c.from.ensures in
    let le = c.if-block-from.true in
    le-leb c.from.result c.block.result le ∙ sym ((decides_beyond h.extents h.slots last blocks c.extents-map.ensures.hardware.map).1 (inl (omega arith)))

pub returns-else-block-from : goal.returns-else-block-from
returns-else-block-from c =
    let h = c.args.hw.now in
    let last = c.args.last in
    let blocks = c.args.blocks in
    let here : c.block.result ≡ block_of h.extents last = c.block.ensures.block ∙ ap (λ (es : List (ℕ × ℕ × ℕ)). block_of es last) c.extents-map.ensures.extents in
    let limit = c.from.ensures in
    let lt = c.if-block-from.false in
    let some = c.some_passes in
    let Passing : List (ℕ × ℕ × ℕ) → Type 0 = λ es. SomePasses es last blocks in
    let same : c.extents.result.now ≡ h.extents = c.extents.ensures.extents ∙ c.extents-map.ensures.extents in
    same_from_decides some.result (list_any (λ s. not (nat_lt (block_of h.extents s) blocks)) (range_with_len 0 (last + 1))) (
      λ e. inr (subst Passing same (some.ensures.0 e)),
      λ either. ⊎_elim (λ (le : blocks ≤ block_of h.extents last). absurd (omega arith)) (λ (passing : SomePasses h.extents last blocks). some.ensures.1 (subst Passing (sym same) passing)) either,
    )
    (decides_beyond h.extents h.slots last blocks c.extents-map.ensures.hardware.map)
