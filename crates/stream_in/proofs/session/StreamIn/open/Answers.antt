use Rattle.std.proofs.Common.{◌≡◌, ℕ, None, sym, ap, subst, ◌∙◌}
use Rattle.definitions.specs.Disk.{as_it_reads}
use Rattle.image_format.specs.AreaKind.{area_kind}
use Rattle.image_format.specs.declared.signature.area.AreaKind.TheVariants as kind
use Rattle.stream_in.specs.Area.{first_block, open_fault}
use Rattle.stream_in.specs.Session.{IsOpened}
use Rattle.stream_in.proofs.Contents.{if_map}
use Rattle.stream_in.proofs.Ready.{ready_to_take}
use Rattle.stream_in.proofs.Bounds.{area_bounded}
use Rattle.stream_in.proofs.session.StreamIn.open.Goals as goal

pub with_area-requires-clause-bounds : goal.with_area-requires-clause-bounds
with_area-requires-clause-bounds g c = area_bounded c.in_ok-header.header c.in-Ok.area (sym c.read.ensures ∙ c.in-Ok.ensures.0)

pub returns-in-Ok-clause-opened : goal.returns-in-Ok-clause-opened
returns-in-Ok-clause-opened g c =
    let area = c.in-Ok.area in
    let content = g.D.Disk.content c.args.disk.now in
    let count = g.D.Disk.block_count c.args.disk.now in
    let page = c.in_ok-header.header in
    let opened : IsOpened area count c.over.result = subst (λ (n : ℕ). IsOpened area n c.over.result) c.blocks-blocks.ensures c.over.ensures in
    let kind_is = if_map (λ held. page ≡ first_block count (as_it_reads held)) (λ held. area_kind (first_block count (as_it_reads held)) ≡ kind.Swap area) content
    (λ x e. ap area_kind (sym e) ∙ sym c.read.ensures ∙ c.in-Ok.ensures.0) c.in_ok-header.ensures.header in
    (area, opened, kind_is)

pub returns-in-Ok-clause-ready : goal.returns-in-Ok-clause-ready
returns-in-Ok-clause-ready g c =
    let area = c.in-Ok.area in
    let content = g.D.Disk.content c.args.disk.now in
    let count = g.D.Disk.block_count c.args.disk.now in
    let page = c.in_ok-header.header in
    let opened : IsOpened area count c.over.result = subst (λ (n : ℕ). IsOpened area n c.over.result) c.blocks-blocks.ensures c.over.ensures in
    let none : open_fault count (kind.Swap area) ≡ None = ap (open_fault count) (sym c.in-Ok.ensures.0) ∙ ap (λ (n : ℕ). open_fault n c.read.result) (sym c.blocks-blocks.ensures) ∙ c.in-Ok.ensures.1 in
    let kind_is = if_map (λ held. page ≡ first_block count (as_it_reads held)) (λ held. area_kind (first_block count (as_it_reads held)) ≡ kind.Swap area) content
    (λ x e. ap area_kind (sym e) ∙ sym c.read.ensures ∙ c.in-Ok.ensures.0) c.in_ok-header.ensures.header in
    let all = ready_to_take area count c.over.result content opened none kind_is in
    (area, all.0, all.1, all.2)
