use Rattle.std.proofs.Common.{◌≡◌, ◌++◌, ◌∷◌, [], Some, false, ap, sym, subst, ◌∙◌}
use Rattle.definitions.specs.SwapHeader.{taken_back}
use Rattle.image_format.specs.AreaKind.{area_kind}
use Rattle.image_check.specs.Checked.{format_of, mark_in}
use Rattle.image_check.specs.Header.{header_findings, is_compressed, limits_of}
use Rattle.image_check.specs.Told.{Tells}
use Rattle.image_check.proofs.Telling.{tells_then}
use Rattle.boot_check.proofs.Between.{names_begin}
use Rattle.boot_check.proofs.check.Check.take_header.Goals as goal

pub returns-clause-found : goal.returns-clause-found
returns-clause-found g c = λ content faults blocks header lt blocks_is header_is read.
    let own = c.args.self.now.names.limits in
    let mark = c.in-Some.mark in
    let page = c.args.page.now in
    let start = g.R.Report.told c.args.report.now in
    let mid = g.R.Report.told c.check_header.new.report in
    let last = g.R.Report.told c.go_on.new.report in
    let kind = area_kind (taken_back page) in
    let first = header_findings blocks header mark.flags page in
    let n = c.begin-self.result in
    let told : Tells first start mid =
    subst (λ k. Tells (header_findings blocks k mark.flags page) start mid) header_is
    (subst (λ k. Tells (header_findings k own.header mark.flags page) start mid) blocks_is c.check_header.ensures) in
    let marked : mark_in (area_kind page) ≡ Some mark = ap mark_in (sym c.read.ensures) ∙ sym c.mark_in.ensures ∙ c.in-Some.is in
    let plain : is_compressed mark.flags ≡ false = sym c.is_compressed.ensures ∙ c.if-is_compressed.false in
    let limits : n.limits ≡ limits_of blocks header kind =
    c.begin-self.ensures.limits ∙ c.limits_of-limits.ensures ∙ ap (λ k. limits_of k own.header kind) blocks_is ∙ ap (λ k. limits_of blocks k kind) header_is in
    let format : n.format ≡ format_of mark.flags = c.begin-self.ensures.format ∙ c.format_of.ensures in
    let next = c.go_on.ensures.found content faults blocks header (header ∷ []) first
    (names_begin content faults blocks header page mark n c.begin-self.new.words read marked plain limits format (c.begin-self.ensures.named content faults)) in
    (first ++ next.0, (tells_then first next.0 start mid last told next.1.0, next.1.1))
