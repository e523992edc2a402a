use Rattle.std.proofs.Common.{sym, ap, ◌∙◌, length}
use Rattle.page_core.proofs.page.Page.as_bytes.Goals as goal

pub returns-clause-page : goal.returns-clause-page
returns-clause-page c = ap length (sym c.self.view_is) ∙ c.self.told
