use Rattle.std.proofs.Common.{◌≡◌, ℕ, All, take}
use Rattle.std.specs.List.{fold}
use Rattle.definitions.specs.Disk.{Content, IsContent}
use Rattle.sector_disk.specs.Recorded.{AreKept, after, page_size}
use Rattle.sector_disk.proofs.recorded.redo_all.Given as goal

-- the calls so far are done again
abbrev pub invariant-loop-call : goal.invariant-loop-call
invariant-loop-call l = (blocks : ℕ) (c : Content) → IsContent blocks c → All (λ r. page_size r ≡ 4096) l.log → AreKept c l.fn.durable l.fn.live → AreKept (fold after c (take l.call-index l.log)) l.durable l.live
