-- The pages that were given of an image.
use Rattle.std.proofs.Common.{◌≡◌, ℕ, ◌<◌, List, [], Option, Some, length, get_or, ap, ◌∙◌, zero-add}
use Rattle.std.proofs.lemmas.List.FromFn.{get_or-map-range_with_len}
use Rattle.definitions.specs.Disk.{Content, as_it_reads}
use Rattle.image_check.specs.Told.{Told}
use Rattle.image_pages.specs.AreRead.{AreRead}
use Rattle.image_pages.specs.Chain.{chain_page, AreFirst}
use Rattle.image_pages.specs.Ends.{IsRefused}
use Rattle.image_pages.specs.Stands.{Stands}
use Rattle.image_pages.specs.declared.pages.Pages.{Pages}
use Rattle.image_pages.proofs.Ending.{first_in_chain}

pub read_given : (content : Option Content) (blocks header : ℕ) (p : Pages) (given : List (List ℕ)) → Stands content blocks header p given → AreRead content blocks header given
read_given content blocks header p given s = record {
  start = s.start;
  history = s.history;
  begins = s.begins;
  clean = s.clean;
  read = s.pages;
  first = first_in_chain content blocks header s.start s.history given s.begins s.clean s.pages;
}

pub read_refused : (content : Option Content) (blocks header before now : ℕ) (old new : Told) (given : List (List ℕ)) → IsRefused content blocks header before now old new given → AreRead content blocks header given
read_refused content blocks header before now old new given s = record {
  start = s.start;
  history = s.history;
  begins = s.begins;
  clean = s.clean;
  read = s.pages;
  first = first_in_chain content blocks header s.start s.history given s.begins s.clean s.pages;
}

-- page k of the given pages is page k of the chain
pub page_of_first : (held : Content) (header : ℕ) (given : List (List ℕ)) (k : ℕ) → AreFirst (Some held) header given → k < length given → get_or given k [] ≡ chain_page (as_it_reads held) header k
page_of_first held header given k first lt =
    ap (λ (x : List (List ℕ)). get_or x k []) first
    ∙ get_or-map-range_with_len (chain_page (as_it_reads held) header) 0 (length given) k k [] lt (zero-add k)
