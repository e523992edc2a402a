use Rattle.std.proofs.Common.{sym, ap, ◌∙◌, arith}
use Rattle.std.proofs.lemmas.Bool.{false≢true}
use Rattle.plain_machine.specs.Machine.{Hardware}
use Rattle.dump_tools.proofs.SameHardware.{hardware_same, ident_decides, pairs_told, triples_told}
use Rattle.dump_tools.proofs.difference.hardware.is_same.Goals as goal

pub returns-then-ne : goal.returns-then-ne
returns-then-ne c = (
  λ e. absurd (false≢true e),
  λ same. absurd ((pairs_told c.as_slice.result.now c.as_slice-2.result.now c.ne.result c.ne.ensures).1 c.if-ne.true
      (c.as_slice.ensures.pairs ∙ c.zones.ensures.zones ∙ sym (ap (λ (h : Hardware). h.zones) same) ∙ sym c.zones-2.ensures.zones ∙ sym c.as_slice-2.ensures.pairs)),
)

pub returns-then-ne-2 : goal.returns-then-ne-2
returns-then-ne-2 c = (
  λ e. absurd (false≢true e),
  λ same. absurd ((triples_told c.regions.result.now c.regions-2.result.now c.ne-2.result c.ne-2.ensures).1 c.if-ne-2.true
      (c.regions.ensures.regions ∙ sym (ap (λ (h : Hardware). h.regions) same) ∙ sym c.regions-2.ensures.regions)),
)

pub returns-then-ne-3 : goal.returns-then-ne-3
returns-then-ne-3 c = (
  λ e. absurd (false≢true e),
  λ same. absurd ((triples_told c.extents-2.result.now c.extents-4.result.now c.ne-3.result c.ne-3.ensures).1 c.if-ne-3.true
      (c.extents-2.ensures.extents ∙ c.extents.ensures.extents ∙ sym (ap (λ (h : Hardware). h.extents) same) ∙ sym c.extents-3.ensures.extents ∙ sym c.extents-4.ensures.extents)),
)

pub returns : goal.returns
returns c =
    let a = c.args.first.now in
    let b = c.args.second.now in
    let told = ident_decides c.ident.result.now c.ident-2.result.now c.eq.result c.eq.ensures in
    let zones = (pairs_told c.as_slice.result.now c.as_slice-2.result.now c.ne.result c.ne.ensures).0 c.if-ne.false in
    let regions = (triples_told c.regions.result.now c.regions-2.result.now c.ne-2.result c.ne-2.ensures).0 c.if-ne-2.false in
    let extents = (triples_told c.extents-2.result.now c.extents-4.result.now c.ne-3.result c.ne-3.ensures).0 c.if-ne-3.false in (
      λ is.
          hardware_same a b
          (sym c.zones-2.ensures.zones ∙ sym c.as_slice-2.ensures.pairs ∙ sym zones ∙ c.as_slice.ensures.pairs ∙ c.zones.ensures.zones)
          (omega (arith, c.slots.ensures, c.slots-2.ensures, c.if-slots.false))
          (omega (arith, c.frame_table.ensures.frame, c.frame_table-2.ensures.frame, c.if-frame_table.false))
          (omega (arith, c.slot_table.ensures.frame, c.slot_table-2.ensures.frame, c.if-slot_table.false))
          (sym c.regions-2.ensures.regions ∙ sym regions ∙ c.regions.ensures.regions)
          (sym c.ident-2.ensures.ident ∙ sym (told.0 is) ∙ c.ident.ensures.ident)
          (omega (arith, c.hw_sig.ensures, c.hw_sig-2.ensures, c.if-hw_sig.false))
          (sym c.extents-3.ensures.extents ∙ sym c.extents-4.ensures.extents ∙ sym extents ∙ c.extents-2.ensures.extents ∙ c.extents.ensures.extents),
      λ same. told.1 (c.ident.ensures.ident ∙ sym (ap (λ (h : Hardware). h.ident) same) ∙ sym c.ident-2.ensures.ident),
    )
