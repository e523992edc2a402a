use Rattle.std.proofs.Common.{ℕ, List, Ok, refl, sym, subst}
use Rattle.image_walk.specs.Names.{IsReadFrom}
use Rattle.boot_check.specs.declared.check.Check.{Check}
use Rattle.swsusp_c.specs.Checks.{ChecksOn}
use Rattle.swsusp_c.specs.declared.findings.SwsuspFindings.{SwsuspFindings}
use Rattle.swsusp_c.proofs.Checks.{same_check}
use Rattle.swsusp_c.proofs.Numbers.{kept_alone}
use Rattle.swsusp_c.proofs.check.swsusp_check_answer.Goals as goal

pub returns-clause-answered : goal.returns-clause-answered
returns-clause-answered c = λ old e zero.
    let start : SwsuspFindings = record { count = 0; found = c.args.findings.now.found } in
    subst (λ (x : Check). ChecksOn x c.args.words.now c.answer.new.words c.args.page.now c.check_code.result c.answer.new.report)
    (same_check c.args.state.now old c.in-Some.check e c.in-Some.ensures)
    (record {
      check = c.answer.new.self;
      is = c.check_code.ensures;
      blocks_are = c.answer.ensures.blocks;
      found = λ content faults blocks header b asked so_far stood next read.
          let told = c.answer.ensures.found content faults blocks header b asked so_far stood next (subst (λ (page : List ℕ). IsReadFrom content b (Ok page)) (sym c.copy_from_slice.ensures.bytes) read) in
          (told.0, (kept_alone told.0 start c.answer.new.report refl told.1.0, told.1.1));
    })
