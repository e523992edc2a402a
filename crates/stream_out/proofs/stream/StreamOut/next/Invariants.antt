use Rattle.std.proofs.Common.{◌≡◌, ◌≤◌, ◌-◌, ◌++◌, length, take, drop}
use Rattle.stream_out.proofs.stream.StreamOut.next.Given as goal

abbrev pub invariant-loop-filled : goal.invariant-loop-filled
invariant-loop-filled l = record {
  fits : l.filled ≤ length l.fn.into;
  were_left : l.filled ≤ length l.fn.self;
  left : l.self ≡ drop l.filled l.fn.self;
  bytes : l.into ≡ take l.filled l.fn.self ++ drop l.filled l.fn.into;
}

abbrev pub decreases-loop-filled : goal.decreases-loop-filled
decreases-loop-filled l = length l.into - l.filled
