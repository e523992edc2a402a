-- Number pages that are left, one of them wrong.
use Rattle.std.proofs.Common.{◌≡◌, ℕ, ◌+◌, ◌<◌, ◌≤◌, List, ◌∷◌, ◌++◌, length, Option, sym, ap, subst, ◌∙◌, arith, length-append}
use Rattle.page_core.specs.declared.format.Format.{Format}
use Rattle.definitions.specs.Disk.{Content}
use Rattle.definitions.specs.NumberPages.{meta_of, word_at}
use Rattle.image_check.specs.Info.{counts_in}
use Rattle.image_pages.specs.Stands.{Stands}
use Rattle.image_pages.specs.declared.pages.Pages.{Pages}
use Rattle.image_pages.specs.Ahead.{listed_data}
use Rattle.image_pages.specs.Saved.{has_page}
use Rattle.image_pages.proofs.Data.{counted_up, data_kept}
use Rattle.image_pages.proofs.Following.{data_follows}
use Rattle.image_pages.specs.Numbered.{HasNumbered, HasTooMany}
use Rattle.image_pages.specs.declared.frames.numbers.Numbers.{Numbers}

-- the image has the number pages that are left
pub enough_left : (content : Option Content) (blocks header : ℕ) (n : Numbers) (given : List ℕ) (h : HasNumbered content blocks header n given) (left : ℕ) → meta_of n.given + left ≡ meta_of n.count → length (n.info ∷ h.listed) + left ≤ (counts_in n.info).pages
enough_left content blocks header n given h left rest = omega (arith, h.listed_size, h.room, rest)

-- the number pages that are left can't all be read
pub not_all : (content : Option Content) (blocks header : ℕ) (n : Numbers) (given : List ℕ) (h : HasNumbered content blocks header n given) (q : Pages) (more : List (List ℕ)) (left : ℕ) → HasTooMany content blocks header n given h → meta_of n.given + left ≡ meta_of n.count → length more ≡ left → q.format ≡ n.pages.format → Stands content blocks header q (n.info ∷ (h.listed ++ more)) → ⊥
not_all content blocks header n given h q more left too_many rest size same s =
    let count = h.count in
    let all = length-append h.listed more in
    let follows = data_follows content blocks header q n.info (h.listed ++ more) s (omega (arith, count, h.small)) (omega (arith, all, h.listed_size, rest, size, count)) in
    let up = counted_up (λ j. has_page q.format (word_at (h.listed ++ more) j)) n.given (counts_in n.info).image_pages (omega (arith, h.few, count)) in
    let kept : listed_data q.format (h.listed ++ more) n.given ≡ listed_data q.format h.listed n.given = data_kept q.format h.listed more n.given (omega (arith, h.listed_size)) in
    let format : listed_data q.format h.listed n.given ≡ listed_data n.pages.format h.listed n.given = ap (λ (f : Format). listed_data f h.listed n.given) same in
    omega (arith, follows, up, kept, format, too_many, count)
