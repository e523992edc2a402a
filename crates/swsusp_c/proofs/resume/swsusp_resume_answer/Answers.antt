use Rattle.std.proofs.Common.{◌≡◌, List, ℕ, sym, ◌∙◌, ◌+◌, subst}
use Rattle.boot_resume.specs.Ends.{IsEnd}
use Rattle.boot_resume.specs.Standing.{IsAnswer, IsAt}
use Rattle.boot_resume.specs.declared.resume.Resume.{Resume}
use Rattle.boot_resume.specs.declared.machine.Machine.{Machine}
use Rattle.swsusp_c.specs.Told.{machine_in}
use Rattle.swsusp_c.specs.Turns.{Goes}
use Rattle.swsusp_c.proofs.Same.{some_is}
use Rattle.swsusp_c.proofs.resume.swsusp_resume_answer.Goals as goal

pub returns-in-Err-clause-answered : goal.returns-in-Err-clause-answered
returns-in-Err-clause-answered c = λ r e live zero. absurd (c.in-Err.ensures.refused zero)

pub returns-clause-answered : goal.returns-clause-answered
returns-clause-answered c = λ r e live zero.
    let is : c.in-Some.resume ≡ r = some_is c.in-Some.resume r (c.in-Some.ensures.resume r live e) in
    let goes_on : IsEnd c.in-Some.resume.pending.call → ⊥ = λ over. live (subst (λ (x : Resume). IsEnd x.pending.call) is over) in
    let after : c.copy_from_slice-2.new.self ≡ c.answer.new.page = c.copy_from_slice-2.ensures.after ∙ c.as_bytes.ensures.bytes in
    subst (λ (x : Resume). Goes (machine_in c.args.machine.now c.args.memory.now) x c.args.page.now c.state_of.result c.copy_from_slice-2.new.self) is
    (subst (λ (m : Machine). Goes m c.in-Some.resume c.args.page.now c.state_of.result c.copy_from_slice-2.new.self) c.in-Ok.ensures.machine
    (record {
      resume = c.answer.new.self;
      is = c.state_of.ensures;
      at = λ v asked k at given.
          subst (λ (page : List ℕ). IsAt c.in-Ok.machine v c.answer.new.self page (k + 1)) (sym after)
          (c.answer.ensures.at v asked k at (subst (IsAnswer v c.in-Some.resume.pending.call) (sym c.copy_from_slice.ensures.bytes) given) goes_on);
      asked = λ made asked. c.answer.ensures.asked made asked goes_on;
    }))
