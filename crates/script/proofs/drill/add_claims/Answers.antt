use Rattle.std.proofs.Common.{ap, ◌∙◌}
use Rattle.script.specs.Drill.{claims, stores, value}
use Rattle.script.proofs.DrillLaws.{two_pushed}
use Rattle.script.proofs.drill.add_claims.Goals as goal

pub loop-i-preserved : goal.loop-i-preserved
loop-i-preserved c =
    two_pushed claims (λ i. stores (value c.args.number i) i) c.loop-i.i c.args.events.now.items c.loop-i.events.items c.push.new.self.items c.push-in-loop-i.new.self.items _ _
    c.loop-i.invariant c.in_ok-push.ensures.items c.claim.ensures c.in_ok-push-2.ensures.items (c.store.ensures ∙ ap (λ v. stores v c.loop-i.i) c.value.ensures.value)
