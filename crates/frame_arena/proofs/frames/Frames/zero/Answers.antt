use Rattle.std.proofs.Common.{ap, ◌∙◌}
use Rattle.definitions.specs.Tables.{with_frame}
use Rattle.frame_arena.proofs.Places.{shared_zeros}
use Rattle.frame_arena.proofs.frames.Frames.zero.Goals as goal

pub returns : goal.returns
returns c = c.share.ensures ∙ ap (with_frame c.args.self.now c.args.p) shared_zeros
