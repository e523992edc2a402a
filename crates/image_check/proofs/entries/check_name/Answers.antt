use Rattle.std.proofs.Common.{◌≡◌, ◌+◌, ◌-◌, ◌*◌, ap, sym, subst, arith, Bool, true, false, Option, Result, Ok, Err}
use Rattle.std.specs.Result.{is_ok}
use Rattle.image_walk.specs.Names.{seen, maps_in, newest_map, left_in}
use Rattle.image_walk.specs.Walking.{IsPlaced, name_of}
use Rattle.image_walk.specs.declared.visit.BlockFault.{BlockFault}
use Rattle.image_walk.specs.declared.visit.Visit.{Visit}
use Rattle.image_walk.specs.declared.visit.Visit.TheVariants as visit
use Rattle.image_check.specs.Entries.{position_of, entry_fault}
use Rattle.image_check.specs.Image.{name_findings}
use Rattle.image_check.specs.Told.{Tells, list_of}
use Rattle.image_check.specs.declared.finding.Finding.{Finding}
use Rattle.image_check.proofs.EntryFindings.{findings_by, page_by, entry_told, name_told, place_at, same_place}
use Rattle.image_check.proofs.entries.check_name.Goals.{then-is_ok, else-is_ok}
use Rattle.image_check.proofs.entries.check_name.Goals as goal

true_err : (b : Bool) (r : Result (Unit {0}) BlockFault) (why : BlockFault) → b ≡ true → b ≡ is_ok r → r ≡ Err why → ⊥
true_err b r why e f q = let g : is_ok r ≡ false = ap is_ok q in cc

false_ok : (b : Bool) (r : Result (Unit {0}) BlockFault) → b ≡ false → b ≡ is_ok r → r ≡ Ok tt → ⊥
false_ok b r e f q = let g : is_ok r ≡ true = ap is_ok q in cc

pub returns-after-is_ok-clause-told : goal.returns-after-is_ok-clause-told
returns-after-is_ok-clause-told g c = λ h placed knows.
    let e = c.in-Entry in
    let progress = c.args.progress.now in
    let page = c.args.page.now in
    let position = 511 * c.saturating_sub.result + c.from-in-Entry.result in
    let place = place_at e.map e.at e.entry in
    let first = g.R.Report.told c.args.report.now in
    let then = g.R.Report.told c.tell_any-in-Entry.new.report in
    let last = g.R.Report.told c.if-is_ok.report in
    let put : IsPlaced h (visit.Entry e.map e.at e.entry e.block e.answer) = subst (λ (v : Visit). IsPlaced h v) e.is placed in
    let there : position ≡ position_of h = omega (arith, put.0, put.2, c.from.ensures, c.saturating_sub.ensures, c.from-in-Entry.ensures) in
    let fault : Tells (list_of (entry_fault progress.counts position place e.block e.answer)) first then =
    subst (λ (f : Option Finding). Tells (list_of f) first then) c.entry_fault.ensures c.tell_any-in-Entry.ensures in
    let told : Tells (findings_by c.args.format progress.counts progress.previous progress.counted position e.block place (seen e.answer page)) first last = elim c.if-is_ok.branch [
      | then-is_ok w ↦ entry_told c.args.format progress.counts progress.previous progress.counted position e.block place e.answer page first then last fault
          (λ q. subst (λ (r : _). Tells (page_by c.args.format progress.counts progress.previous progress.counted position e.block (Ok page)) then (g.R.Report.told r)) (sym w.report-is) w.check_page.ensures)
          (λ why q. absurd (true_err c.is_ok.result e.answer why w.if-is_ok.true c.is_ok.ensures.value q))
      | else-is_ok w ↦ entry_told c.args.format progress.counts progress.previous progress.counted position e.block place e.answer page first then last fault
          (λ q. absurd (false_ok c.is_ok.result e.answer w.if-is_ok.false c.is_ok.ensures.value q))
          (λ why q. ap g.R.Report.told w.report-is)
    ] in
    subst (λ (v : Visit). Tells (name_findings c.args.format h (name_of v page)) first last) (sym e.is)
    (name_told c.args.format h progress.counts progress.previous progress.counted position e.block place (seen e.answer page) first last knows.counts knows.previous knows.counted there
    (same_place e.map (maps_in h) e.at (newest_map h) e.entry (511 - left_in h) put.0 put.1 put.2) told)
