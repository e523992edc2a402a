use Rattle.std.proofs.Common.{◌∙◌, arith}
use Rattle.placement.proofs.Moving.{same_assigned}
use Rattle.placement.proofs.waiting.move_pages.Goals as goal

pub returns-clause-moves : goal.returns-clause-moves
returns-clause-moves g c = λ q apart other.
    let p = c.args.placement.now in
    let is = c.requires.placement in
    let size = c.sequence.ensures.size ∙ c.begin-list.ensures.size in
    let fits = c.requires.frames in
    c.execute.ensures.relocates p is (omega arith) c.sequence.ensures.listed q other
    ∙ c.sequence.ensures.moves q apart
    ∙ same_assigned p is c.args.frames.now c.begin-list.new.frames c.begin-list.ensures.size c.begin-list.ensures.others q apart
