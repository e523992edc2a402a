use Rattle.std.proofs.Common.{refl}
use Rattle.swsusp_c.proofs.Same.{reading_back}
use Rattle.swsusp_c.proofs.state.reading_of.Goals as goal

pub returns-clause-reading : goal.returns-clause-reading
returns-clause-reading c = λ r e.
    reading_back c.args.state.now r e _ c.mark_by.ensures refl refl refl c.from_bytes.ensures.bytes refl c.last_by.ensures refl refl c.from_bytes-2.ensures.bytes refl
