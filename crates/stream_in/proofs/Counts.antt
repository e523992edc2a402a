-- The counts of an info page.
use Rattle.std.proofs.Common.{◌≡◌, ℕ, ◌+◌, ◌≤◌, List, refl, ap, ◌∙◌, arith}
use Rattle.definitions.specs.InfoPage.{info_of}
use Rattle.definitions.specs.declared.info.Info.{Info}
use Rattle.image_write.specs.Writing.{writes_of}
use Rattle.stream_in.specs.Grammar.{image_pages, all_pages}
use Rattle.stream_in.proofs.Steps.{counts_from}
use Rattle.stream_in.specs.Putting.{HasCounts}

pub info_pages : (page : List ℕ) → (info_of page).pages ≡ all_pages page
unfolding info_of
info_pages page = refl

-- the counts are small, and the maps are fewer than the spare slots
pub record AreFew (page : List ℕ) (info : Info) : Type 0 where
  pub pages : info.pages ≡ all_pages page
  pub some : 3 ≤ info.pages
  pub few : info.pages ≤ 65665
  pub writes : writes_of info ≤ info.pages + 1026

pub are_few : (page : List ℕ) (info : Info) → info ≡ info_of page → HasCounts page → AreFew page info
are_few page info is counts =
    let are = counts_from (image_pages page) (all_pages page) counts in
    let all = are.all in
    let some = are.some in
    let few = are.few in
    let pages : info.pages ≡ all_pages page = ap (λ (i : Info). i.pages) is ∙ info_pages page in
    record { pages = pages; some = omega arith; few = omega arith; writes = omega arith }
