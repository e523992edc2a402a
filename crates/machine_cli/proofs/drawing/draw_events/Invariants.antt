use Rattle.std.proofs.Common.{◌≡◌, ◌⊎◌, ◌≤◌, List, take}
use Rattle.definitions.specs.Streams.{TakesAll}
use Rattle.plain_machine.specs.declared.reply.Reply.{Reply}
use Rattle.run_picture.specs.Lanes.{first, lanes_after}
use Rattle.run_picture.specs.Picture.{columns}
use Rattle.world_core.specs.StandsFor.{IsOff, blocks_of, hardware_of}
use Rattle.swsusp_cli.specs.Playing.{HasPlayed}
use Rattle.command_kit.specs.View.{DiskView}
use Rattle.machine_cli.proofs.drawing.draw_events.Given as goal

abbrev pub invariant-loop-event : goal.invariant-loop-event
invariant-loop-event g l =
    let before : DiskView = record { blocks = g.D.Disk.block_count l.fn.disk; content = g.D.Disk.content l.fn.disk; faults = g.D.Disk.faults l.fn.disk; calls = g.D.Disk.calls l.fn.disk; orders = g.D.Disk.orders l.fn.disk } in
    let now : DiskView = record { blocks = g.D.Disk.block_count l.disk; content = g.D.Disk.content l.disk; faults = g.D.Disk.faults l.disk; calls = g.D.Disk.calls l.disk; orders = g.D.Disk.orders l.disk } in
    record {
      played : (replies : List Reply) × HasPlayed l.fn.world l.world (take l.event-index l.events) replies before now
          × TakesAll (columns first (take l.event-index l.events) replies) (g.O.Sink.taken l.fn.out) (g.O.Sink.taken l.out)
          × (l.lanes ≡ lanes_after first (take l.event-index l.events) replies);
      column : l.lanes.column ≡ l.event-index;
      blocks : IsOff l.world ⊎ (g.D.Disk.block_count l.disk ≡ blocks_of l.world);
      hardware : hardware_of l.world ≡ hardware_of l.fn.world;
      stream : g.O.Sink.faults l.fn.out ≤ g.O.Sink.faults l.out;
    }
