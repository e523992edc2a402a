use Rattle.std.proofs.Common.{ap, ◌∙◌, rules}
use Rattle.definitions.specs.InfoPage.{info_page, info_of, IsInfo}
use Rattle.definitions.proofs.InfoPages.{info_of-info_page}
use Rattle.image_format.proofs.info.encode.Goals as goal

pub returns-clause-bytes : goal.returns-clause-bytes
unfolding info_page
returns-clause-bytes c = search rules

pub returns-clause-again : goal.returns-clause-again
returns-clause-again c =
    let fits : IsInfo c.args.info.now = search rules in
    ap info_of (returns-clause-bytes c) ∙ info_of-info_page c.args.info.now fits
