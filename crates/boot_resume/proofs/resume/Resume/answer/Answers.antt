use Rattle.std.proofs.Common.{◌∷◌, refl}
use Rattle.boot_resume.specs.Calls.{calls}
use Rattle.boot_resume.proofs.Asking.{safe_asked}
use Rattle.boot_resume.proofs.Going.{goes_next, refused_next}
use Rattle.boot_resume.proofs.resume.Resume.answer.Goals as goal

pub returns-in-Ok-clause-at : goal.returns-in-Ok-clause-at
returns-in-Ok-clause-at c = λ v asked k at answer live.
    goes_next c.args.machine.now v c.args.self.now.reading c.take.new.self asked c.take.new.page k (calls c.args.machine.now v) c.args.self.now.pending.stage c.in-Ok.next.stage c.args.self.now.pending.call c.in-Ok.next.call at
    (c.in-Ok.ensures.leads v at.knows answer live)

pub returns-in-Ok-clause-asked : goal.returns-in-Ok-clause-asked
returns-in-Ok-clause-asked c = λ made asked live.
    let next = c.in-Ok.ensures.asks made asked.0 live in
    (next, safe_asked c.args.machine.now c.take.new.self c.in-Ok.next.stage c.in-Ok.next.call (c.args.self.now.pending.call ∷ made) next asked.1)

pub returns-in-Err-clause-at : goal.returns-in-Err-clause-at
returns-in-Err-clause-at c = λ v asked k at answer live.
    refused_next c.args.machine.now v c.args.self.now.reading c.take.new.self asked c.take.new.page k (calls c.args.machine.now v) c.args.self.now.pending.stage c.args.self.now.pending.call c.in-Err.cause at
    (c.in-Err.ensures.leads v at.knows answer live)

pub returns-in-Err-clause-asked : goal.returns-in-Err-clause-asked
returns-in-Err-clause-asked c = λ made asked live. (refl, asked.1)
