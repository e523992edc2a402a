use Rattle.image_pages.proofs.frames.numbers.Numbers.next.Goals as goal

pub returns-in-Frame-clause-says : goal.returns-in-Frame-clause-says
returns-in-Frame-clause-says g c = λ header given h. let says = c.in-Frame.ensures.says header given h in (says.0, says.1.next)
