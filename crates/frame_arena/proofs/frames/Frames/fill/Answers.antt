use Rattle.std.proofs.Common.{sym, ap, ◌∙◌}
use Rattle.definitions.specs.Bytes.{filled_page}
use Rattle.definitions.specs.Tables.{with_frame}
use Rattle.frame_arena.proofs.Places.{shared_filled}
use Rattle.frame_arena.proofs.frames.Frames.fill.Goals as goal

pub returns-then-byte-eq-FILLER : goal.returns-then-byte-eq-FILLER
returns-then-byte-eq-FILLER c = c.share.ensures ∙ ap (with_frame c.args.self.now c.args.p) shared_filled ∙ ap (λ byte. with_frame c.args.self.now c.args.p (filled_page byte)) (sym c.if-byte-eq-FILLER.true)
