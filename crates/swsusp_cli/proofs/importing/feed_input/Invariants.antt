use Rattle.std.proofs.Common.{◌≡◌, ◌<◌, ◌≤◌, ◌-◌, ℕ, List, [], length, IsTrue}
use Rattle.definitions.specs.Disk.{Changes}
use Rattle.image_format.specs.declared.signature.area.Area.{Area}
use Rattle.stream_in.specs.Holding.{StaysReady}
use Rattle.stream_in.specs.Session.{IsFed, TakesInto}
use Rattle.stream_in.specs.Holding.{AreOfMap}
use Rattle.swsusp_cli.specs.Feeding.{HasFed, KeepsHeaders}
use Rattle.swsusp_cli.proofs.importing.feed_input.Given as goal

abbrev pub invariant-pieces : goal.invariant-pieces
invariant-pieces g l = record {
  some : 0 < length l.piece;
  counted : g.I.Source.faults l.fn.input ≤ g.I.Source.faults l.input;
  faults : g.D.Disk.faults l.fn.disk ≤ g.D.Disk.faults l.disk;
  blocks : g.D.Disk.block_count l.disk ≡ l.session.blocks;
  bs : List ℕ;
  size : length bs ≡ l.taken;
  few : l.taken ≤ 268963840;
  telling : g.D.Disk.tells_moments l.disk ≡ g.D.Disk.tells_moments l.fn.disk;
  headers : IsTrue (g.D.Disk.tells_moments l.fn.disk) → (area : Area) (free : List ℕ) → TakesInto area free [] l.fn.session →
      KeepsHeaders (g.D.Disk.moment l.fn.disk) (g.D.Disk.moment l.disk) (g.D.Disk.left_since l.fn.disk) (g.D.Disk.left_since l.disk);
  ready : (area : Area) (free : List ℕ) → TakesInto area free [] l.fn.session →
      Changes (StaysReady area free [] bs) (g.D.Disk.content l.fn.disk) (g.D.Disk.content l.disk);
  session : (free : List ℕ) × IsFed free bs l.session;
  fed : (free : List ℕ) → IsFed free [] l.fn.session → AreOfMap l.fn.session.map free →
      HasFed free bs l.fn.session l.session (g.I.Source.remaining l.fn.input) (g.I.Source.remaining l.input)
      (record { blocks = g.D.Disk.block_count l.fn.disk; content = g.D.Disk.content l.fn.disk; faults = g.D.Disk.faults l.fn.disk; calls = g.D.Disk.calls l.fn.disk; orders = g.D.Disk.orders l.fn.disk })
      (record { blocks = g.D.Disk.block_count l.disk; content = g.D.Disk.content l.disk; faults = g.D.Disk.faults l.disk; calls = g.D.Disk.calls l.disk; orders = g.D.Disk.orders l.disk });
}

abbrev pub decreases-pieces : goal.decreases-pieces
decreases-pieces g l = 268963841 - l.taken
