-- What is found of a page frame in an image.
use Rattle.std.specs.Prelude.{◌≡◌, ℕ, ◌+◌, ◌≤◌, ◌<◌, ◌⊎◌, List, [], length, slice_index_or, Option, IfSome}
use Rattle.page_core.specs.declared.format.Format.{Format}
use Rattle.definitions.specs.Disk.{Content, as_it_reads}
use Rattle.definitions.specs.NumberPages.{meta_of}
use Rattle.image_check.specs.Told.{Told}
use Rattle.image_pages.specs.AreRead.{AreRead}
use Rattle.image_pages.specs.Chain.{chain_page}
use Rattle.image_pages.specs.Ends.{IsRefused}
use Rattle.image_pages.specs.Opens.{IsBadHeader, IsNoImage}
use Rattle.image_pages.specs.Formats.{SavesThere, chain_format}
use Rattle.image_pages.specs.Saved.{IsSaved, IsUnsaved, count_in, told_at}
use Rattle.image_pages.specs.declared.saved.finding.Found.{Found}
use Rattle.image_pages.specs.declared.saved.finding.Found.TheVariants.{NoImage, Refused, NoPage, Page}

-- page k of those that were read
abbrev pub page_at : List (List ℕ) → ℕ → List ℕ
page_at pages k = slice_index_or pages k []

-- By the pages that were read, up to the one that decides it, and also by the chain, this is the page of the page
-- frame.
pub record IsPageThere (content : Option Content) (blocks header frame : ℕ) (page : List ℕ) : Type 0 where
  pub format : Format
  pub saves : SavesThere format content blocks header
  pub pages : List (List ℕ)
  pub read : AreRead content blocks header pages
  pub saved : IsSaved format (page_at pages) frame page
  pub far : length pages ≡ told_at format (page_at pages) saved.index + 1
  pub chain : IfSome content (λ held.
      IsSaved (chain_format (as_it_reads held) header) (chain_page (as_it_reads held) header) frame page)

-- The image was read up to its last number page, and no number is that of the page frame, nor is any in the chain.
pub record IsNoneThere (content : Option Content) (blocks header frame : ℕ) : Type 0 where
  pub format : Format
  pub saves : SavesThere format content blocks header
  pub pages : List (List ℕ)
  pub read : AreRead content blocks header pages
  pub unsaved : IsUnsaved format (page_at pages) frame
  pub far : length pages ≡ 1 + meta_of (count_in (page_at pages))
  pub chain : IfSome content (λ held.
      IsUnsaved (chain_format (as_it_reads held) header) (chain_page (as_it_reads held) header) frame)

abbrev pub Finds : Option Content → (blocks header before now : ℕ) → (told then : Told) → ℕ → List ℕ → Found → Type 0
Finds content blocks header before now told then frame page NoImage = IsNoImage content blocks header told then
Finds content blocks header before now told then frame page Refused =
    IsBadHeader content blocks header before now told then
    ⊎ ((pages : List (List ℕ)) × IsRefused content blocks header before now told then pages)
Finds content blocks header before now told then frame page NoPage =
    IsNoneThere content blocks header frame × (then ≡ told)
Finds content blocks header before now told then frame page Page =
    IsPageThere content blocks header frame page × (then ≡ told)
