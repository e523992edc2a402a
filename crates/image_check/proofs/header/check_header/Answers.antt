use Rattle.std.proofs.Common.{Option, ap, subst, ◌∙◌}
use Rattle.definitions.specs.SwapHeader.{taken_back}
use Rattle.image_format.specs.AreaKind.{area_kind}
use Rattle.image_check.specs.Header.{area_fault, compressed_fault}
use Rattle.image_check.specs.Told.{Tells, list_of}
use Rattle.image_check.specs.declared.finding.Finding.{Finding}
use Rattle.image_check.proofs.Telling.{tells_then}
use Rattle.image_check.proofs.header.check_header.Goals as goal

pub returns : goal.returns
returns g c =
    let a = g.R.Report.told c.args.report.now in
    let b = g.R.Report.told c.tell_any.new.report in
    let d = g.R.Report.told c.tell_any-2.new.report in
    let area = area_fault c.args.blocks c.args.header (area_kind (taken_back c.args.page.now)) in
    let first : Tells (list_of area) a b =
    subst (λ (f : Option Finding). Tells (list_of f) a b)
    (c.area_fault.ensures ∙ ap (area_fault c.args.blocks c.args.header) (c.read.ensures ∙ ap area_kind c.take_back.ensures)) c.tell_any.ensures in
    let second : Tells (list_of (compressed_fault c.args.flags)) b d =
    subst (λ (f : Option Finding). Tells (list_of f) b d) c.compressed_fault.ensures c.tell_any-2.ensures in
    tells_then (list_of area) (list_of (compressed_fault c.args.flags)) a b d first second
