use Rattle.overlay_disk.specs.OverlaidLaws.{Writes-over}
use Rattle.overlay_disk.proofs.overlay.OverlayDisk.write.Goals as goal

pub returns-then-has_room-clause-written : goal.returns-then-has_room-clause-written
returns-then-has_room-clause-written g c =
    let below = g.B.ReadOnly.state c.args.self.now.below in
    Writes-over below.blocks c.args.b c.args.from.now c.args.self.now.kept c.new.result below.content (c.has_room.ensures.0 c.if-has_room.true) c.new.ensures.block c.new.ensures.page
    c.requires (g.met.B.ReadOnly.well_formed c.args.self.now.below)
