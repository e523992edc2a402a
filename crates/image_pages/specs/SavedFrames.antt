-- The saved page frames of an image, by the pages of its stream.
use Rattle.std.specs.Prelude.{◌≡◌, ℕ, List, length, map, Option, IfSome}
use Rattle.std.specs.List.{range_with_len}
use Rattle.page_core.specs.declared.format.Format.{Format}
use Rattle.definitions.specs.Disk.{Content, as_it_reads}
use Rattle.image_pages.specs.Chain.{chain_page}
use Rattle.image_pages.specs.Formats.{chain_format}
use Rattle.image_pages.specs.Saved.{count_in, number_in, page_in}

-- a page frame that was saved: its number and its page
pub record SavedFrame : Type 0 where
  pub number : ℕ
  pub page : List ℕ

-- saved page frame i of a stream, from 0
abbrev pub saved_at : Format → (ℕ → List ℕ) → ℕ → SavedFrame
saved_at format at i = record { number = number_in format at i; page = page_in format at i }

-- the first n of them
abbrev pub first_saved : Format → (ℕ → List ℕ) → ℕ → List SavedFrame
first_saved format at n = map (saved_at format at) (range_with_len 0 n)

-- all of them, in ascending order
abbrev pub saved_frames : Format → (ℕ → List ℕ) → List SavedFrame
saved_frames format at = first_saved format at (count_in at)

-- these are the first ones that the chain names, if the disk tells what it holds
abbrev pub AreFirstSaved : Option Content → ℕ → List SavedFrame → Type 0
AreFirstSaved content header given =
    IfSome content (λ held.
    given ≡ first_saved (chain_format (as_it_reads held) header) (chain_page (as_it_reads held) header) (length given))

-- these are all that the chain names
abbrev pub AreAllSaved : Option Content → ℕ → List SavedFrame → Type 0
AreAllSaved content header given =
    IfSome content (λ held.
    given ≡ saved_frames (chain_format (as_it_reads held) header) (chain_page (as_it_reads held) header))
