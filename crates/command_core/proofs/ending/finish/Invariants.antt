use Rattle.std.proofs.Common.{◌≡◌, ◌⊎◌, ◌≤◌, ◌+◌, IsTrue, false}
use Rattle.definitions.specs.Disk.{HasRisen}
use Rattle.world_core.specs.StandsFor.{IsOff, blocks_of, hardware_of}
use Rattle.world_core.specs.StepsLeft.{steps_left}
use Rattle.command_core.specs.Parts.{GoesOn}
use Rattle.command_core.specs.Runs.{goes_on}
use Rattle.command_core.proofs.Closer.{work_left}
use Rattle.command_core.proofs.ending.finish.Given as goal

abbrev pub invariant-loop-reply : goal.invariant-loop-reply
invariant-loop-reply g l = record {
  hardware : hardware_of l.world ≡ hardware_of l.fn.world;
  blocks : IsOff l.world ⊎ (g.D.Disk.block_count l.disk ≡ blocks_of l.world);
  cause : IsTrue l.failed → HasRisen (g.D.Disk.faults l.fn.disk) (g.D.Disk.faults l.disk);
  faults : g.D.Disk.faults l.fn.disk ≤ g.D.Disk.faults l.disk;
  ran : GoesOn g.D.Disk l.fn.world l.world l.fn.begun l.reply l.failed l.fn.disk l.disk;
  orders : g.D.Disk.orders l.disk ≡ g.D.Disk.orders l.fn.disk;
  cost : g.D.Disk.calls l.disk + steps_left l.world ≤ g.D.Disk.calls l.fn.disk + steps_left l.fn.world;
  none : goes_on l.fn.begun ≡ false → (l.reply ≡ l.fn.begun) × (g.D.Disk.calls l.disk ≡ g.D.Disk.calls l.fn.disk);
}

abbrev pub decreases-loop-reply : goal.decreases-loop-reply
decreases-loop-reply g l = work_left l.world l.reply
