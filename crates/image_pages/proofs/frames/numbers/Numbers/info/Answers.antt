use Rattle.image_pages.proofs.Numbering.{info_numbered}
use Rattle.image_pages.proofs.frames.numbers.Numbers.info.Goals as goal

pub returns-clause-chain : goal.returns-clause-chain
returns-clause-chain c = λ content blocks header given h. info_numbered content blocks header c.args.self.now given h
