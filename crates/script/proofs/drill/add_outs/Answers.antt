use Rattle.script.specs.Drill.{goes_out}
use Rattle.script.proofs.DrillLaws.{one_pushed}
use Rattle.script.proofs.drill.add_outs.Goals as goal

pub loop-i-preserved : goal.loop-i-preserved
loop-i-preserved c = one_pushed goes_out c.loop-i.i c.args.events.now.items c.loop-i.events.items c.push.new.self.items _ c.loop-i.invariant c.in_ok-push.ensures.items c.out.ensures
