use Rattle.std.proofs.Common.{◌≡◌, ◌+◌, ◌<◌, List, None, inl, refl, ◌∙◌, subst, arith}
use Rattle.image_format.specs.declared.signature.area.Mark.{Mark}
use Rattle.boot_resume.specs.OnDisk.{content_cause, hardware_cause, mark_in}
use Rattle.boot_resume.specs.Calls.{Turn, listed_from, page_then, unless}
use Rattle.boot_resume.proofs.Counting.{listed_more, unless_none}
use Rattle.boot_resume.proofs.Going.{leads_over, listing_leads}
use Rattle.boot_resume.proofs.reading.Reading.open.Goals as goal

pub returns-clause-leads : goal.returns-clause-leads
returns-clause-leads c = λ v page is.
    let sound : hardware_cause c.args.machine.now (mark_in c.args.machine.now v) ≡ None = subst (λ (x : Mark). hardware_cause c.args.machine.now x ≡ None) is c.in_ok-check_hardware.ensures in
    let rest : List Turn = unless (content_cause c.args.machine.now v 0) (listed_from c.args.machine.now v (0 + 1)) in
    let none : 0 < 0 → ⊥ = λ lt. absurd (omega (arith, lt)) in
    leads_over c.args.machine.now v _ page (page_then c.args.machine.now v 0 rest) (unless (hardware_cause c.args.machine.now (mark_in c.args.machine.now v)) (listed_from c.args.machine.now v 0)) c.want.result
    (unless_none (hardware_cause c.args.machine.now (mark_in c.args.machine.now v)) (listed_from c.args.machine.now v 0) sound ∙ listed_more c.args.machine.now v 0 (omega arith))
    (listing_leads c.args.machine.now v _ page (page_then c.args.machine.now v 0 rest) c.want.result (record { mark = is; numbers = inl refl }) (c.want.ensures.wants v rest is (λ lt. absurd (none lt))))
