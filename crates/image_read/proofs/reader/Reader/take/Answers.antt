use Rattle.std.proofs.Common.{◌<◌, ℕ, Option, Result, Err, sym, ap, ◌∙◌, subst, arith}
use Rattle.std.proofs.lemmas.Result.{err_from_is_err_and}
use Rattle.image_read.specs.Answers.{Gives}
use Rattle.image_read.specs.declared.cause.Cause.{Cause}
use Rattle.image_read.proofs.Ready.{taken, ready_after, step_counted}
use Rattle.image_read.proofs.Gives.{Over, was_taken, gives_refused, gives_next_refused, gives_on}
use Rattle.image_read.proofs.reader.Reader.take.Goals as goal

pub returns-clause-ready : goal.returns-clause-ready
returns-clause-ready c =
    let r = c.args.self.now in
    let new = c.accept.new.self in
    let took = taken _ c.args.expected.now.zones.now c.args.page.now r c.args.origs.now.members c.args.zeros.now.members c.in_ok-pfn.pfn new c.accept.new.origs.members c.accept.new.zeros.members c.requires.ready c.requires.more c.in_ok-pfn.ensures.takes in
    let block = took.block in
    let blocks = took.blocks in
    let old = c.requires.ready.block in
    let below : new.block < new.blocks = omega arith in
    ready_after new r c.advance.new.self c.accept.new.origs.members c.accept.new.zeros.members _ took c.in_ok-pfn.ensures.saved c.in_ok-advance.ensures.advances (c.in_ok-advance.ensures.block below)

pub returns-clause-counted : goal.returns-clause-counted
returns-clause-counted c =
    let r = c.args.self.now in
    let took = taken _ c.args.expected.now.zones.now c.args.page.now r c.args.origs.now.members c.args.zeros.now.members c.in_ok-pfn.pfn c.accept.new.self c.accept.new.origs.members c.accept.new.zeros.members c.requires.ready c.requires.more c.in_ok-pfn.ensures.takes in
    step_counted c.accept.new.self r c.advance.new.self _ took.steps c.in_ok-advance.ensures.advances

pub returns-in_err-pfn-clause-gives : goal.returns-in_err-pfn-clause-gives
returns-in_err-pfn-clause-gives c = λ h v check t reading page_is zones_is compares.
    let p = err_from_is_err_and c.from_residual.result c.from_residual.ensures.1 in
    let over : Over h v check _ c.args.expected.now.zones.now c.args.self.now t c.args.page.now c.args.origs.now.members c.args.zeros.now.members =
    record { reading = reading; ready = c.requires.ready; more = c.requires.more; page_is = page_is; zones_is = zones_is; compares = compares } in
    let gives = gives_refused h v check _ c.args.expected.now.zones.now c.args.self.now t c.args.page.now c.args.origs.now.members c.args.zeros.now.members c.in_err-pfn.field-0.0 c.accept.new.self c.accept.new.origs.members c.accept.new.zeros.members over c.in_err-pfn.ensures.takes in
    subst (λ (result : Result (Option ℕ) Cause). Gives h v check t result c.accept.new.self c.accept.new.origs.members c.accept.new.zeros.members) (sym (p.1 ∙ ap Err p.2)) gives

pub returns-in_err-advance-clause-gives : goal.returns-in_err-advance-clause-gives
returns-in_err-advance-clause-gives c = λ h v check t reading page_is zones_is compares.
    let p = err_from_is_err_and c.from_residual-in_err-advance.result c.from_residual-in_err-advance.ensures.1 in
    let over : Over h v check _ c.args.expected.now.zones.now c.args.self.now t c.args.page.now c.args.origs.now.members c.args.zeros.now.members =
    record { reading = reading; ready = c.requires.ready; more = c.requires.more; page_is = page_is; zones_is = zones_is; compares = compares } in
    let took = was_taken h v check _ c.args.expected.now.zones.now c.args.self.now t c.args.page.now c.args.origs.now.members c.args.zeros.now.members c.in_ok-pfn.pfn c.accept.new.self c.accept.new.origs.members c.accept.new.zeros.members over c.in_ok-pfn.ensures.takes in
    let gives = gives_next_refused h v check t c.in_ok-pfn.pfn c.accept.new.self c.advance.new.self c.accept.new.origs.members c.accept.new.zeros.members c.in_err-advance.field-0.0 took c.in_err-advance.ensures.advances in
    subst (λ (result : Result (Option ℕ) Cause). Gives h v check t result c.advance.new.self c.accept.new.origs.members c.accept.new.zeros.members) (sym (p.1 ∙ ap Err p.2)) gives

pub returns-clause-gives : goal.returns-clause-gives
returns-clause-gives c = λ h v check t reading page_is zones_is compares.
    let over : Over h v check _ c.args.expected.now.zones.now c.args.self.now t c.args.page.now c.args.origs.now.members c.args.zeros.now.members =
    record { reading = reading; ready = c.requires.ready; more = c.requires.more; page_is = page_is; zones_is = zones_is; compares = compares } in
    let took = was_taken h v check _ c.args.expected.now.zones.now c.args.self.now t c.args.page.now c.args.origs.now.members c.args.zeros.now.members c.in_ok-pfn.pfn c.accept.new.self c.accept.new.origs.members c.accept.new.zeros.members over c.in_ok-pfn.ensures.takes in
    gives_on h v check t c.in_ok-pfn.pfn c.accept.new.self c.advance.new.self c.accept.new.origs.members c.accept.new.zeros.members _ took c.in_ok-advance.ensures.advances
