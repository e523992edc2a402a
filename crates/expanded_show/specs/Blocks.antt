-- The blocks that a compressed image takes in its area, in the order of its chain (save_image_lzo, swap_write_page,
-- kernel/power/swap.c).
use Rattle.std.specs.Prelude.{◌≡◌, ℕ, zero, suc, ◌+◌, ◌-◌, ◌*◌, ◌/◌, ◌<◌, ◌≤◌, List, [], ◌∷◌, ◌++◌, map, min}
use Rattle.std.specs.Prelude.{Option, IfSome, IsSome, slice_index}
use Rattle.std.specs.List.{range_with_len}
use Rattle.definitions.specs.Disk.{Content, DiskImage, HasRisen, as_it_reads, block}
use Rattle.definitions.specs.FreeRuns.{runs_of}
use Rattle.definitions.specs.SwapMap.{map_entry}
use Rattle.plain_machine.specs.Chain.{map_block}
use Rattle.image_show.specs.Runs.{IsUpTo}
use Rattle.image_show.specs.Told.{block_run}
use Rattle.image_show.specs.declared.facts.fact.Fact.{Fact}
use Rattle.image_show.specs.declared.facts.fact.Fact.TheVariants as fact
use Rattle.expanded_disk.specs.Names.{chain_of}
use Rattle.expanded_disk.specs.Units.{start_of, units_of}
use Rattle.expanded_disk.specs.declared.units.index.Index.{Index}
use Rattle.expanded_show.specs.declared.gathered.Gathered.{Gathered}
use Rattle.definitions.specs.declared.counts.TheConstants.{MAP_PAGE_ENTRIES}

-- the block of a map that reads as `page`, and the blocks that its first entries name
abbrev pub named_by : (at : ℕ) → (page : List ℕ) → (entries : ℕ) → List ℕ
named_by at page entries = at ∷ map (map_entry page) (range_with_len 0 entries)

-- the blocks of the first maps of a chain with the given number of pages: each map, and then the pages that it names
unfoldable pub chain_blocks : DiskImage → (first count maps : ℕ) → List ℕ
chain_blocks v first count zero = []
chain_blocks v first count (suc m) =
    chain_blocks v first count m
    ++ named_by (map_block v first m) (block v (map_block v first m))
    (min MAP_PAGE_ENTRIES (count - MAP_PAGE_ENTRIES * m))

-- how many pages the chain of a whole image has: the info page, and those that its units take
abbrev pub chain_length : DiskImage → Index → ℕ
chain_length v index = start_of (chain_of v index.first) (units_of index.pages)

-- if the disk tells what it holds, one of its calls has failed; if it doesn't, it may also no longer hold what it held
abbrev pub FailsToRead : Option Content → (before now : ℕ) → Type 0
FailsToRead content before now = IsSome content → HasRisen before now

-- The blocks are shown in runs, and then the number of maps: all maps that the pages of the chain need, or those before
-- the first that can no longer be read.
pub record AreBlockFacts (content : Option Content) (before now : ℕ) (index : Index) (facts : List Fact) : Type 0 where
  pub maps : ℕ
  pub blocks : List ℕ
  pub unread : IfSome content (λ held. MAP_PAGE_ENTRIES * maps < chain_length (as_it_reads held) index →
      HasRisen before now)
  pub are : IfSome content (λ held.
      (maps ≤ (chain_length (as_it_reads held) index + 510) / MAP_PAGE_ENTRIES)
      × (blocks ≡ chain_blocks (as_it_reads held) index.first (chain_length (as_it_reads held) index) maps))
  pub says : facts ≡ map block_run (runs_of blocks) ++ fact.Maps maps ∷ []

-- The number of units of an image, the number of bytes of the pages of the chain that these take, and of those that
-- they expand to: all but the info page.
abbrev pub unit_facts : Index → List Fact
unit_facts index =
    fact.Units (units_of index.pages)
    ∷ fact.CompressedBytes (4096 * (slice_index index.starts.items (units_of index.pages) - 1))
    ∷ fact.ExpandedBytes (4096 * (index.pages - 1))
    ∷ []

-- where a whole image lies, and then what its units take
pub record AreAreaFacts (content : Option Content) (before now : ℕ) (index : Index) (facts : List Fact) : Type 0 where
  pub blocks : List Fact
  pub lies : AreBlockFacts content before now index blocks
  pub says : facts ≡ blocks ++ unit_facts index

-- what was collected from these blocks
pub record HasGathered (numbers : List ℕ) (g : Gathered) : Type 0 where
  pub ended : List (ℕ × ℕ)
  pub runs : IsUpTo numbers g.runs.last ended
  pub facts : g.facts.items ≡ map block_run ended
