use Rattle.std.proofs.Common.{ℕ, not, eqb, bit_and, ap}
use Rattle.resume_core.proofs.Headers.{no_fault, no_mark, compressed, is_set_by}
use Rattle.resume_core.proofs.find.found.Goals as goal

pub returns-then-mark-eq0-clause-none : goal.returns-then-mark-eq0-clause-none
returns-then-mark-eq0-clause-none c = compressed c.args.header.now c.mark_in.result c.in-Some.mark c.mark_in.ensures c.in-Some.is (ap (λ (n : ℕ). not (eqb n 0)) c.if-mark-eq0.true)

pub returns-else-mark-eq0-clause-found : goal.returns-else-mark-eq0-clause-found
returns-else-mark-eq0-clause-found c = no_fault c.args.header.now c.mark_in.result c.in-Some.mark c.mark_in.ensures c.in-Some.is (is_set_by (bit_and c.in-Some.mark.flags 2) c.if-mark-eq0.false)

pub returns-in-None-clause-none : goal.returns-in-None-clause-none
returns-in-None-clause-none c = no_mark c.args.header.now c.mark_in.result c.mark_in.ensures c.in-None.is
