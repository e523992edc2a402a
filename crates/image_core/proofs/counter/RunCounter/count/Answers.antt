use Rattle.std.proofs.Common.{arith}
use Rattle.image_core.proofs.RunCounts.{ended_few}
use Rattle.image_core.proofs.counter.RunCounter.count.Goals as goal

pub overflow_add-result : goal.overflow_add-result
overflow_add-result c =
    let (numbers, (ended, (has, few))) = c.requires in
    omega (arith, ended_few numbers c.args.self.now.runs.last ended has.runs, has.count)
