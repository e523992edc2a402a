use Rattle.std.proofs.Common.{rules, ◌≡◌, ◌<◌, length, set, arith, refl, ap}
use Rattle.swsusp_c.specs.declared.findings.SwsuspFindings.{SwsuspFindings}
use Rattle.swsusp_c.proofs.Numbers.{none_told, one_told}
use Rattle.swsusp_c.proofs.findings.SwsuspFindingsReport.tell.Goals as goal

pub returns-then-place : goal.returns-then-place
returns-then-place c =
    let old : SwsuspFindings = c.args.self.now in
    let long : length c.args.self.now.found ≡ 1100 = search rules in
    let new : SwsuspFindings = record { count = c.saturating_add-self.result; found = set old.found old.count c.finding_code.result } in
    one_told c.args.finding old new c.if-place.true long (ap (set old.found old.count) c.finding_code.ensures) c.saturating_add-self.ensures

pub returns-else-place : goal.returns-else-place
returns-else-place c =
    let old : SwsuspFindings = c.args.self.now in
    let long : length c.args.self.now.found ≡ 1100 = search rules in
    let few : c.args.self.now.count < 18446744073709551616 = search rules in
    let new : SwsuspFindings = record { count = c.saturating_add-self.result; found = old.found } in
    none_told c.args.finding old new c.if-place.false (omega (arith, few)) long refl c.saturating_add-self.ensures
