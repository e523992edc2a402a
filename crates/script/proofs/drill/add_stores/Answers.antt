use Rattle.std.proofs.Common.{◌+◌, ap, ◌∙◌}
use Rattle.script.specs.Drill.{stores, value}
use Rattle.script.proofs.DrillLaws.{one_pushed}
use Rattle.script.proofs.drill.add_stores.Goals as goal

pub loop-i-preserved : goal.loop-i-preserved
loop-i-preserved c = one_pushed (λ i. stores (value c.args.number i + 1) i) c.loop-i.i c.args.events.now.items c.loop-i.events.items c.push.new.self.items _ c.loop-i.invariant c.in_ok-push.ensures.items (c.store.ensures ∙ ap (λ v. stores (v + 1) c.loop-i.i) c.value.ensures.value)
