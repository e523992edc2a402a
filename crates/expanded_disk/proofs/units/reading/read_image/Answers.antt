use Rattle.std.proofs.Common.{◌≡◌, ℕ, ◌<◌, Bool, false, true, Some, Result, Ok, Err, OnOk, subst, sym, ap, ◌∙◌}
use Rattle.std.specs.Result.{is_err}
use Rattle.image_format.specs.AreaKind.{area_kind}
use Rattle.image_check.specs.Checked.{mark_in}
use Rattle.image_check.specs.Header.{is_compressed}
use Rattle.image_check.specs.Told.{Told}
use Rattle.expanded_disk.specs.Opens.{OpensUnits}
use Rattle.expanded_disk.specs.Passes.{OpensChain}
use Rattle.expanded_disk.specs.declared.units.reading.Opened.{Opened}
use Rattle.expanded_disk.proofs.Opening.{if_ok, opens_units}
use Rattle.expanded_disk.proofs.units.reading.read_image.Goals as goal

on_ok : {T E P : Type 0} (r : Result T E) (b : Bool) → b ≡ false → b ≡ is_err r → OnOk r P → P
on_ok (Ok v) b f e h = h
on_ok (Err w) b f e h = cc

pub returns-clause-opened : goal.returns-clause-opened
returns-clause-opened g c =
    let content = g.K.Original.state.content in
    let before = g.K.Original.state.faults in
    let now = (g.B.ReadOnly.state c.read_chain.new.source.below).faults in
    let header = c.args.header in
    let blocks = c.blocks-blocks.result in
    let mark = c.in-Some.mark in
    let page = c.read.new.into in
    let chain = c.in_ok-chain.chain in
    let told = g.R.Report.told c.args.report.now in
    let mid = g.R.Report.told c.accept_header.new.report in
    let then = g.R.Report.told c.read_chain.new.report in
    let fine = c.if-not-accept_header.ensures in
    let inside : header < blocks = c.if-header-blocks.false in
    let marked : mark_in (area_kind page) ≡ Some mark = ap mark_in (sym c.read-2.ensures) ∙ sym c.mark_in.ensures ∙ c.in-Some.is in
    let compressed : is_compressed mark.flags ≡ true = sym c.if-not-is_compressed.ensures in
    let read = on_ok c.read.result c.is_err.result c.if-is_err.false c.is_err.ensures.value c.read.ensures.bytes in
    let limits = c.in_ok-chain.ensures.limits ∙ c.limits_of-limits.ensures in
    if_ok c.read_chain.result
    (λ (o : Opened) (says : OpensChain content mark.flags page chain before now mid then o).
    subst (λ (n : ℕ). OpensUnits content n header before now told then o) c.blocks-blocks.ensures
    (opens_units content blocks header before now told then page mark chain o inside read marked compressed fine.0 limits c.in_ok-chain.ensures.first
    (subst (λ (t : Told). OpensChain content mark.flags page chain before now t then o) fine.1 says)))
    c.read_chain.ensures.opened
