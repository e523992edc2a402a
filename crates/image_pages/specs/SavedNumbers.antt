-- The numbers of the saved page frames of an image, by the pages of its stream.
use Rattle.std.specs.Prelude.{◌≡◌, ℕ, List, length, map, Option, IfSome}
use Rattle.std.specs.List.{range_with_len}
use Rattle.page_core.specs.declared.format.Format.{Format}
use Rattle.definitions.specs.Disk.{Content, as_it_reads}
use Rattle.image_pages.specs.Chain.{chain_page}
use Rattle.image_pages.specs.Formats.{chain_format}
use Rattle.image_pages.specs.Saved.{count_in, number_in}

-- the first n numbers, and all of them, in ascending order
abbrev pub first_numbers : Format → (ℕ → List ℕ) → ℕ → List ℕ
first_numbers format at n = map (number_in format at) (range_with_len 0 n)

abbrev pub saved_numbers : Format → (ℕ → List ℕ) → List ℕ
saved_numbers format at = first_numbers format at (count_in at)

-- these are the first ones that the chain names, if the disk tells what it holds
abbrev pub AreFirstNumbers : Option Content → ℕ → List ℕ → Type 0
AreFirstNumbers content header given =
    IfSome content (λ held.
    given
    ≡ first_numbers (chain_format (as_it_reads held) header) (chain_page (as_it_reads held) header) (length given))

-- these are all that the chain names
abbrev pub AreAllNumbers : Option Content → ℕ → List ℕ → Type 0
AreAllNumbers content header given =
    IfSome content (λ held.
    given ≡ saved_numbers (chain_format (as_it_reads held) header) (chain_page (as_it_reads held) header))
