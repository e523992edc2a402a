use Rattle.script.specs.Drill.{takes_in}
use Rattle.script.proofs.DrillLaws.{one_pushed}
use Rattle.script.proofs.drill.add_ins.Goals as goal

pub loop-i-preserved : goal.loop-i-preserved
loop-i-preserved c = one_pushed takes_in c.loop-i.i c.args.events.now.items c.loop-i.events.items c.push.new.self.items _ c.loop-i.invariant c.in_ok-push.ensures.items c.take_in.ensures
