use Rattle.std.proofs.Common.{◌++◌, ℕ, Option, ap, subst, ◌∙◌}
use Rattle.definitions.specs.Bytes.{number_at}
use Rattle.image_check.specs.Info.{counts_fault, counts_in, identity_findings, size_fault}
use Rattle.image_check.specs.Told.{Tells, list_of}
use Rattle.image_check.specs.declared.finding.Counts.{Counts}
use Rattle.image_check.specs.declared.finding.Finding.{Finding}
use Rattle.image_check.proofs.Telling.{tells_then}
use Rattle.image_check.proofs.info.check_info.Goals as goal

pub returns : goal.returns
returns g c =
    let page = c.args.page.now in
    let format = c.args.format in
    let counts = c.counts_in-counts in
    let a = g.R.Report.told c.args.report.now in
    let b = g.R.Report.told c.check_identity.new.report in
    let d = g.R.Report.told c.tell_any.new.report in
    let e = g.R.Report.told c.tell_any-2.new.report in
    let size = size_fault (number_at 8 page 432) (number_at 8 page 424) in
    let counted : Tells (list_of (counts_fault format (counts_in page))) b d =
    subst (λ (f : Option Finding). Tells (list_of f) b d) (c.counts_fault.ensures ∙ ap (counts_fault format) counts.ensures) c.tell_any.ensures in
    let sized : Tells (list_of size) d e =
    subst (λ (f : Option Finding). Tells (list_of f) d e)
    (c.size_fault.ensures ∙ ap (λ (w : ℕ). size_fault w counts.result.pages) c.word.ensures
    ∙ ap (λ (k : Counts). size_fault (number_at 8 page 432) k.pages) counts.ensures) c.tell_any-2.ensures in
    tells_then (identity_findings page ++ list_of (counts_fault format (counts_in page))) (list_of size) a d e
    (tells_then (identity_findings page) (list_of (counts_fault format (counts_in page))) a b d c.check_identity.ensures counted) sized
