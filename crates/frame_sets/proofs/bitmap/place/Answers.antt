use Rattle.std.proofs.Common.{arith}
use Rattle.definitions.proofs.ZoneNumbers.{zone_of}
use Rattle.frame_sets.proofs.bitmap.place.Goals as goal

pub returns : goal.returns
returns c in' =
    let at = zone_of c.args.runs.now c.args.p in' in
    c.loop-b.invariant at.0 (let within = at.1.within in omega arith) at.1
