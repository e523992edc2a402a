use Rattle.image_show.proofs.RunLaws.{up_to_none}
use Rattle.image_show.proofs.facts.runs.Runs.new.Goals as goal

pub returns-clause-start : goal.returns-clause-start
returns-clause-start c = up_to_none
