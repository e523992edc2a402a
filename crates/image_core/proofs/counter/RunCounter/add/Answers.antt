use Rattle.std.proofs.Common.{arith}
use Rattle.image_core.proofs.RunCounts.{ended_few, last_few}
use Rattle.image_core.proofs.counter.RunCounter.add.Goals as goal

pub add-run-requires : goal.add-run-requires
add-run-requires c =
    let (numbers, (ended, (has, few))) = c.requires in
    omega (arith, last_few numbers c.args.self.now.runs.last ended has.runs)

pub overflow_add-self : goal.overflow_add-self
overflow_add-self c =
    let (numbers, (ended, (has, few))) = c.requires in
    omega (arith, ended_few numbers c.args.self.now.runs.last ended has.runs, has.count)
