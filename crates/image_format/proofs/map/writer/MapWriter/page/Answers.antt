use Rattle.std.proofs.Common.{length, ap, arith}
use Rattle.image_format.specs.MapPages.{MapEntries}
use Rattle.image_format.proofs.Entries.{length-entries_of}
use Rattle.image_format.proofs.map.writer.MapWriter.page.Goals as goal

pub returns-clause-room : goal.returns-clause-room
returns-clause-room c =
    let a = c.self.inside in
    omega (arith, ap (λ (m : MapEntries). length m.entries) c.self.view_is, length-entries_of a.page a.count, c.self.invariant.room)
