use Rattle.std.proofs.Common.{◌≡◌, ◌++◌, ℕ, true, false, ap, sym, subst, ◌∙◌}
use Rattle.page_core.specs.declared.format.Format.{Format}
use Rattle.definitions.specs.SwapHeader.{taken_back}
use Rattle.image_format.specs.AreaKind.{area_kind}
use Rattle.image_walk.specs.declared.limits.Limits.{Limits}
use Rattle.image_check.specs.Checked.{FindsImage, FindsNames, format_of}
use Rattle.image_check.specs.Header.{header_findings, is_compressed, limits_of}
use Rattle.image_check.specs.Told.{Tells}
use Rattle.image_check.proofs.Earlier.{header_found, names_found}
use Rattle.image_check.proofs.Telling.{tells_then}
use Rattle.image_check.proofs.checking.check_image.Goals.{then-not-is_compressed, else-not-is_compressed}
use Rattle.image_check.proofs.checking.check_image.Goals as goal

pub returns-clause-told : goal.returns-clause-told
returns-clause-told g c =
    let content = g.D.Disk.content c.args.disk.now in
    let blocks = g.D.Disk.block_count c.args.disk.now in
    let header = c.args.header in
    let before = g.D.Disk.faults c.args.disk.now in
    let mark = c.args.mark in
    let page = c.args.page.now in
    let old = g.R.Report.told c.args.report.now in
    let then = g.R.Report.told c.check_header.new.report in
    let first = header_findings blocks header mark.flags page in
    let limits = limits_of blocks header (area_kind (taken_back page)) in
    let walker = c.in_ok-walker.walker in
    let same : walker.limits ≡ limits =
    c.in_ok-walker.ensures.limits ∙ c.limits_of-limits.ensures ∙ ap (λ (n : ℕ). limits_of n header (area_kind (taken_back page))) c.blocks-blocks.ensures in
    let begun : Tells first old then =
    subst (λ (n : ℕ). Tells (header_findings n header mark.flags page) old then) c.blocks-blocks.ensures c.check_header.ensures in
    let next : walker.walk.next ≡ mark.first = c.in_ok-walker.ensures.start.next in
    elim c.if-not-is_compressed.branch [
      | then-not-is_compressed w ↦
          let told = w.check_names.ensures.told in
          let now = g.D.Disk.faults w.check_names.new.disk in
          let compressed : is_compressed mark.flags ≡ false = sym c.is_compressed.ensures ∙ w.if-not-is_compressed.true in
          let names : FindsNames limits mark.first content before now (format_of mark.flags) told.0 =
          subst (λ (f : Format). FindsNames limits mark.first content before now f told.0) w.format_of.ensures
          (subst (λ (n : ℕ). FindsNames limits n content before now w.format_of.result told.0) next
          (subst (λ (l : Limits). FindsNames l walker.walk.next content before now w.format_of.result told.0) same told.1.0)) in (
            first ++ told.0,
            (
              subst (λ (d : _). FindsImage content blocks header before (g.D.Disk.faults d) mark page (first ++ told.0)) (sym w.disk-is)
                  (names_found content blocks header before now mark page told.0 compressed names),
              subst (λ (r : _). Tells (first ++ told.0) old (g.R.Report.told r)) (sym w.report-is)
                  (tells_then first told.0 old then (g.R.Report.told w.check_names.new.report) begun told.1.1),
            ),
          )
      | else-not-is_compressed w ↦
          let compressed : is_compressed mark.flags ≡ true = sym c.is_compressed.ensures ∙ w.if-not-is_compressed.false in (
            first,
            (
              header_found content blocks header before (g.D.Disk.faults c.if-not-is_compressed.disk) mark page compressed,
              subst (λ (r : _). Tells first old (g.R.Report.told r)) (sym w.report-is) begun,
            ),
          )
    ]
