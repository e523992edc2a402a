use Rattle.image_pages.proofs.Giving.{info_in_chain}
use Rattle.image_pages.proofs.frames.frames.Frames.info.Goals as goal

pub returns-clause-chain : goal.returns-clause-chain
returns-clause-chain c = λ content blocks header given h. info_in_chain content blocks header c.args.self.now given h
