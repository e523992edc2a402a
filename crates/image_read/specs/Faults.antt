-- What is wrong with a page of the stream, or with the block that it leads to.
use Rattle.std.specs.Prelude.{ℕ, ◌+◌, ◌-◌, ◌%◌, ◌==◌, List, Option, Some, None, Result, Ok, Err, if◌then◌else◌}
use Rattle.page_core.specs.declared.format.Format.{Format}
use Rattle.definitions.specs.InfoPage.{mismatch}
use Rattle.definitions.specs.NumberPages.{meta_of}
use Rattle.definitions.specs.SwapMap.{map_entry, map_link}
use Rattle.definitions.specs.declared.info.Ident.{Ident}
use Rattle.definitions.specs.declared.info.Info.{Info}
use Rattle.definitions.specs.declared.info.Field.{Field}
use Rattle.image_format.specs.Counts.{are_bad_counts}
use Rattle.image_format.specs.declared.map.reader.ChainFault.{ChainFault}
use Rattle.image_format.specs.declared.map.reader.ChainFault.TheVariants as chain
use Rattle.plain_machine.specs.Chain.{is_fault_of, or_else}
use Rattle.image_read.specs.Reading.{Reading}
use Rattle.image_read.specs.declared.cause.Cause.{Cause}
use Rattle.image_read.specs.declared.cause.Cause.TheVariants.{NoChain, BadBlock, ChainEnds, Mismatch, MemorySize}
use Rattle.image_read.specs.declared.cause.Cause.TheVariants.{BadCounts}
use Rattle.definitions.specs.declared.counts.TheConstants.{BLOCKS_PER_MAP}

-- what is wrong with a block of a chain
abbrev pub block_fault : Reading → ℕ → Option Cause
block_fault r x = if is_fault_of r.extents r.blocks r.last x then Some (BadBlock x) else None

-- what is wrong with the block of the first map
abbrev pub first_fault : List (ℕ × ℕ × ℕ) → ℕ → ℕ → ℕ → Option Cause
first_fault extents blocks last first =
    if first == 0 then Some NoChain else (if is_fault_of extents blocks last first then Some (BadBlock first) else None)

-- the block that the map names for place number t
abbrev pub named_block : Reading → ℕ → ℕ
named_block r t = if t % BLOCKS_PER_MAP == 0 then map_link r.map.page else map_entry r.map.page (t % BLOCKS_PER_MAP - 1)

abbrev pub named_fault : Reading → ℕ → Option Cause
named_fault r t =
    if t % BLOCKS_PER_MAP == 0
    then (if map_link r.map.page == 0 then Some (ChainEnds r.map.map) else block_fault r (map_link r.map.page))
    else block_fault r (map_entry r.map.page (t % BLOCKS_PER_MAP - 1))

-- what is wrong with what a map page says: a block, or that there is none
abbrev pub chain_fault : Reading → Result ℕ ChainFault → Option Cause
chain_fault r (Ok block) = block_fault r block
chain_fault r (Err (chain.BadBlock block)) = block_fault r block
chain_fault r (Err (chain.ChainEnds map)) = Some (ChainEnds map)

abbrev pub block_named : Result ℕ ChainFault → ℕ
block_named (Ok block) = block
block_named (Err (chain.BadBlock block)) = block
block_named (Err (chain.ChainEnds map)) = 0

-- what is wrong with an info page, given the machine's identity, if it is compared, and its number of page frames
abbrev pub field_fault : Option Field → Option Cause
field_fault None = None
field_fault (Some field) = Some (Mismatch field)

abbrev pub identity_fault : Option Ident → Info → Option Cause
identity_fault None info = None
identity_fault (Some own) info = field_fault (mismatch info.ident own)

abbrev pub size_fault : ℕ → Info → Option Cause
size_fault valid info = if info.physpages == valid then None else Some (MemorySize info.physpages valid)

abbrev pub counts_fault : ℕ → Format → Info → Option Cause
counts_fault valid format info =
    if are_bad_counts format valid info.image_pages info.pages then Some (BadCounts info.image_pages info.pages)
    else None

unfoldable pub info_fault : Option Ident → ℕ → Format → Info → Option Cause
info_fault own valid format info =
    or_else (identity_fault own info) (or_else (size_fault valid info) (counts_fault valid format info))

-- what is wrong with the count of pages after the last number, given how many numbers have no data page
abbrev pub pages_fault : ℕ → ℕ → ℕ → Option Cause
pages_fault saved pages zeros =
    if pages == saved - zeros + meta_of saved + 1 then None else Some (BadCounts saved pages)
