use Rattle.std.proofs.Common.{refl, subst}
use Rattle.boot_check.specs.declared.check.Check.{Check}
use Rattle.swsusp_c.specs.Checks.{ChecksPast}
use Rattle.swsusp_c.specs.declared.findings.SwsuspFindings.{SwsuspFindings}
use Rattle.swsusp_c.proofs.Checks.{same_check}
use Rattle.swsusp_c.proofs.Numbers.{kept_alone}
use Rattle.swsusp_c.proofs.check.swsusp_check_fail.Goals as goal

pub returns-clause-failed : goal.returns-clause-failed
returns-clause-failed c = λ old e zero.
    let start : SwsuspFindings = record { count = 0; found = c.args.findings.now.found } in
    subst (λ (x : Check). ChecksPast x c.args.words.now c.fail.new.words c.check_code.result c.fail.new.report)
    (same_check c.args.state.now old c.in-Some.check e c.in-Some.ensures)
    (record {
      check = c.fail.new.self;
      is = c.check_code.ensures;
      blocks_are = c.fail.ensures.blocks;
      found = λ content faults blocks header b asked so_far stood next.
          let told = c.fail.ensures.found content faults blocks header b asked so_far stood next in
          (told.0, (kept_alone told.0 start c.fail.new.report refl told.1.0, told.1.1));
    })
