-- The pages of an image's stream, as the chain of a disk names them (swap_read_page, kernel/power/swap.c).
use Rattle.std.specs.Prelude.{◌≡◌, ℕ, List, [], ◌∷◌, length, map, Option, IfSome}
use Rattle.std.specs.List.{range_with_len}
use Rattle.definitions.specs.Disk.{Content, DiskImage, as_it_reads, block}
use Rattle.definitions.specs.SwapHeader.{image_of}
use Rattle.plain_machine.specs.Chain.{entry_block}
use Rattle.image_check.specs.Info.{counts_in}

-- page k of the stream, from 0, of the area with the given header block: entry k of the chain names it
abbrev pub chain_page : DiskImage → (header k : ℕ) → List ℕ
chain_page v header k = block v (entry_block v (image_of (block v header)) k)

-- all pages of the stream: as many as its first page, the info page, says
abbrev pub chain_pages : DiskImage → ℕ → List (List ℕ)
chain_pages v header = map (chain_page v header) (range_with_len 0 (counts_in (chain_page v header 0)).pages)

-- a page is page k of the stream, if the disk tells what it holds
abbrev pub IsChainPage : Option Content → (header k : ℕ) → List ℕ → Type 0
IsChainPage content header k page = IfSome content (λ held. page ≡ chain_page (as_it_reads held) header k)

-- these are the first pages of the stream, if the disk tells what it holds
abbrev pub AreFirst : Option Content → ℕ → List (List ℕ) → Type 0
AreFirst content header pages =
    IfSome content (λ held. pages ≡ map (chain_page (as_it_reads held) header) (range_with_len 0 (length pages)))

-- the first of the pages is an info page, which says how many pages there are
abbrev pub IsSized : List (List ℕ) → Type 0
IsSized [] = ⊥
IsSized (info ∷ pages) = length (info ∷ pages) ≡ (counts_in info).pages

-- these are the pages of the whole stream
pub record IsWholeStream (content : Option Content) (header : ℕ) (pages : List (List ℕ)) : Type 0 where
  pub sized : IsSized pages
  pub chain : IfSome content (λ held. pages ≡ chain_pages (as_it_reads held) header)
