use Rattle.std.proofs.Common.{refl, ap}
use Rattle.boot_resume.proofs.Handed.{begins_pages}
use Rattle.boot_resume.proofs.reading.Reading.begin_pages.Goals as goal

pub returns-clause-leads : goal.returns-clause-leads
returns-clause-leads c = λ v page h.
    let handing = begins_pages c.args.machine.now v c.args.self.now _ h refl refl refl refl refl refl in
    c.want_numbers.ensures.leads v page handing h.map h.counted.some refl (ap (λ x. x.first) h.mark)
