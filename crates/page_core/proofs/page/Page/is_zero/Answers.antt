use Rattle.std.proofs.Common.{ℕ, get_or, ap, sym, ◌∙◌, arith, List}
use Rattle.definitions.proofs.PageBytes.{zero_page-from_bytes, get_or-zero_page}
use Rattle.page_core.proofs.page.Page.is_zero.Goals as goal

pub returns : goal.returns
returns c =
    let bytes = c.self.inside.bytes in (
      λ yes. sym c.self.view_is ∙ zero_page-from_bytes bytes c.self.told (λ i lt. c.are_zeros.ensures.0 yes i (omega arith)),
      λ zero. c.are_zeros.ensures.1 (λ k lt. ap (λ (page : List ℕ). get_or page k 0) (c.self.view_is ∙ zero) ∙ get_or-zero_page k (omega arith)),
    )
