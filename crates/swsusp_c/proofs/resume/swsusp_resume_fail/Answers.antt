use Rattle.std.proofs.Common.{◌≡◌, refl, subst}
use Rattle.boot_resume.specs.Ends.{IsEnd}
use Rattle.boot_resume.specs.declared.resume.Resume.{Resume}
use Rattle.swsusp_c.specs.Turns.{Ends}
use Rattle.swsusp_c.proofs.Same.{some_is}
use Rattle.swsusp_c.proofs.resume.swsusp_resume_fail.Goals as goal

pub returns-clause-failed : goal.returns-clause-failed
returns-clause-failed c = λ r e live.
    let is : c.in-Some.resume ≡ r = some_is c.in-Some.resume r (c.in-Some.ensures.resume r live e) in
    let goes_on : IsEnd c.in-Some.resume.pending.call → ⊥ = λ over. live (subst (λ (x : Resume). IsEnd x.pending.call) is over) in (
      refl,
      subst (λ (x : Resume). Ends x c.state_of.result) is
          (record {
            resume = c.fail.new.self;
            is = c.state_of.ensures;
            failed = λ m made asked. c.fail.ensures.failed m made asked goes_on;
            asked = c.fail.ensures.asked;
          }),
    )
