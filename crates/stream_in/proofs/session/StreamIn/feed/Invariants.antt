use Rattle.std.proofs.Common.{◌≡◌, ℕ, ◌+◌, ◌-◌, ◌*◌, ◌/◌, ◌≤◌, List, ◌++◌, IsTrue, length, take}
use Rattle.definitions.specs.Disk.{Changes}
use Rattle.stream_in.specs.Holding.{AreOfMap, WritesOn}
use Rattle.stream_in.specs.Outside.{WritesAtRest}
use Rattle.stream_in.specs.Moments.{ElapsesOutside}
use Rattle.stream_in.specs.Session.{IsFed, IsGoing}
use Rattle.stream_in.proofs.session.StreamIn.feed.Given as goal

abbrev pub decreases-loop-at : goal.decreases-loop-at
decreases-loop-at g l = length l.piece - l.at

abbrev pub invariant-loop-at : goal.invariant-loop-at
invariant-loop-at g l = record {
  within : l.at ≤ length l.piece;
  fed : (free bs : List ℕ) → IsFed free bs l.initial.self → IsFed free (bs ++ take l.at l.piece) l.self;
  going : IsGoing l.self;
  was_going : IsGoing l.initial.self;
  count : g.D.Disk.block_count l.disk ≡ l.self.blocks;
  done : (free bs : List ℕ) → IsFed free bs l.initial.self → AreOfMap l.initial.self.map free → Changes (WritesOn l.initial.self.map free bs (take l.at l.piece)) (g.D.Disk.content l.initial.disk) (g.D.Disk.content l.disk);
  outside : (free bs : List ℕ) → IsFed free bs l.initial.self → Changes (WritesAtRest l.initial.self.map free (length bs) (length (bs ++ take l.at l.piece))) (g.D.Disk.content l.initial.disk) (g.D.Disk.content l.disk);
  time : IsTrue (g.D.Disk.tells_moments l.initial.disk) → (free bs : List ℕ) → IsFed free bs l.initial.self → ElapsesOutside l.initial.self.map free (g.D.Disk.moment l.initial.disk) (g.D.Disk.moment l.disk) (g.D.Disk.left_since l.initial.disk) (g.D.Disk.left_since l.disk);
  map_same : l.self.map ≡ l.initial.self.map;
  same : l.self.blocks ≡ l.initial.self.blocks;
  faults : g.D.Disk.faults l.initial.disk ≤ g.D.Disk.faults l.disk;
  calls : (free bs : List ℕ) → IsFed free bs l.initial.self → g.D.Disk.calls l.disk ≤ g.D.Disk.calls l.initial.disk + 3 * ((length bs + l.at) / 4096 - length bs / 4096);
  orders : g.D.Disk.orders l.disk ≡ g.D.Disk.orders l.initial.disk;
  blocks : g.D.Disk.block_count l.disk ≡ g.D.Disk.block_count l.initial.disk;
  telling : g.D.Disk.tells_moments l.disk ≡ g.D.Disk.tells_moments l.initial.disk;
}
