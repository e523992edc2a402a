use Rattle.std.proofs.Common.{arith}
use Rattle.script.specs.Drill.{steps}
use Rattle.script.proofs.DrillLaws.{last_pushed}
use Rattle.script.proofs.drill.add_last_steps_first.Goals as goal

pub loop-i-preserved : goal.loop-i-preserved
loop-i-preserved c = last_pushed steps c.loop-i.i c.args.count c.args.events.now.items c.loop-i.events.items c.push.new.self.items _ c.loop-i.invariant c.in_ok-push.ensures.items c.step.ensures (omega arith) (omega arith)
