use Rattle.std.proofs.Common.{◌≡◌, ◌+◌, ◌<◌, ◌≤◌, refl, sym, ap, ◌∙◌, subst, arith}
use Rattle.boot_resume.specs.OnDisk.{saved_in}
use Rattle.boot_resume.specs.Calls.{asks, handed_from}
use Rattle.boot_resume.specs.Standing.{from_number}
use Rattle.boot_resume.specs.declared.call.Call.TheVariants.{Done}
use Rattle.boot_resume.proofs.Counting.{again_other, handed_end, handed_more}
use Rattle.boot_resume.proofs.Going.{leads_over}
use Rattle.boot_resume.proofs.Handed.{again_further, further, numbers_further}
use Rattle.boot_resume.proofs.reading.Reading.take_placed.Goals as goal

pub returns-then-self-clause-leads : goal.returns-then-self-clause-leads
returns-then-self-clause-leads c = λ v p.
    let step : c.one_more-self.result ≡ c.args.self.now.given + 1 = c.one_more-self.ensures.next p.more in
    record {
      turn = asks (Done (saved_in c.args.machine.now v));
      left = handed_end c.args.machine.now v (c.args.self.now.given + 1) (sym step ∙ c.if-self.true ∙ p.counted.saved);
      call = ap Done (sym p.counted.saved);
      fits = tt;
      knows = refl;
    }

pub returns-then-self-clause-asks : goal.returns-then-self-clause-asks
returns-then-self-clause-asks c = λ made begun new. refl

pub returns-then-self-eq0-clause-leads : goal.returns-then-self-eq0-clause-leads
returns-then-self-eq0-clause-leads c = λ v p.
    let step : c.one_more-self.result ≡ c.args.self.now.given + 1 = c.one_more-self.ensures.next p.more in
    let handing = further c.args.machine.now v c.args.self.now _ p refl refl refl refl step refl in
    let within : c.one_more-self.result ≤ c.args.self.now.saved = c.one_more-self.ensures.within c.args.self.now.within in
    let more : c.one_more-self.result < c.args.self.now.saved = omega (arith, within, c.if-self.false) in
    leads_over c.args.machine.now v _ c.args.page.now (handed_from c.args.machine.now v c.one_more-self.result) (handed_from c.args.machine.now v (c.args.self.now.given + 1)) c.want_numbers.result (ap (handed_from c.args.machine.now v) (sym step))
    (c.want_numbers.ensures.leads v c.args.page.now handing p.map more c.if-self-eq0.true (again_further c.args.machine.now v c.args.self.now.again c.args.self.now.given c.one_more-self.result p.numbers.again step c.if-self-eq0.true))

pub returns-then-self-eq0-clause-asks : goal.returns-then-self-eq0-clause-asks
returns-then-self-eq0-clause-asks c = λ made begun new. c.want_numbers.ensures.asks made begun new

pub returns-clause-leads : goal.returns-clause-leads
returns-clause-leads c = λ v p.
    let step : c.one_more-self.result ≡ c.args.self.now.given + 1 = c.one_more-self.ensures.next p.more in
    let handing = further c.args.machine.now v c.args.self.now _ p refl refl refl refl step refl in
    let within : c.one_more-self.result ≤ c.args.self.now.saved = c.one_more-self.ensures.within c.args.self.now.within in
    let more : c.one_more-self.result < c.args.self.now.saved = omega (arith, within, c.if-self.false) in
    let less : c.one_more-self.result < saved_in c.args.machine.now v = subst (λ x. c.one_more-self.result < x) p.counted.saved more in
    leads_over c.args.machine.now v _ c.take_number.new.page (from_number c.args.machine.now v c.one_more-self.result) (handed_from c.args.machine.now v (c.args.self.now.given + 1)) c.take_number.result
    (ap (handed_from c.args.machine.now v) (sym step) ∙ handed_more c.args.machine.now v c.one_more-self.result less ∙ again_other c.args.machine.now v c.one_more-self.result (from_number c.args.machine.now v c.one_more-self.result) c.if-self-eq0.false)
    (c.take_number.ensures.leads v handing p.map more (numbers_further c.args.machine.now v c.args.self.now _ p.numbers refl refl step c.if-self-eq0.false))

pub returns-clause-asks : goal.returns-clause-asks
returns-clause-asks c = λ made begun new. c.take_number.ensures.asks made begun new
