use Rattle.std.proofs.Common.{◌≡◌, sym, ◌∙◌, arith}
use Rattle.std.proofs.lemmas.Bool.{leb-true, le-leb}
use Rattle.definitions.specs.Slots.{slots_of}
use Rattle.definitions.proofs.FileMaps.{block_of-injective}
use Rattle.image_read.proofs.area.Area.is_below_end.Goals as goal

pub returns-in-Some-clause-below : goal.returns-in-Some-clause-below
returns-in-Some-clause-below c =
    let map = c.args.self.now.map in
    let at = c.in-Some.ensures.slot in (
      λ yes. (c.in-Some.s, at.0, leb-true c.in-Some.s c.args.self.now.last yes, at.1),
      λ found.
          let same : c.in-Some.s ≡ found.0 = block_of-injective map (slots_of map) c.in-Some.s found.0 c.in-Some.ensures.map at.0 found.1 (at.1 ∙ sym found.3) in
          let le = found.2 in
          le-leb c.in-Some.s c.args.self.now.last (omega arith),
    )
