-- What a block of the expanded image is.
use Rattle.std.specs.Prelude.{◌≡◌, ℕ, ◌+◌, ◌-◌, ◌*◌, ◌/◌, ◌%◌, ◌<◌}
use Rattle.expanded_disk.specs.declared.laying.Part.{Part}
use Rattle.expanded_disk.specs.declared.laying.Part.TheVariants.{Header, Map, Page}
use Rattle.definitions.specs.declared.counts.TheConstants.{BLOCKS_PER_MAP, MAP_PAGE_ENTRIES}

-- the header, a map or a page: after the header, each map comes with its 511 pages
abbrev pub IsPart : ℕ → Part → Type 0
IsPart b Header = b ≡ 0
IsPart b (Map m) = (0 < b) × ((b - 1) % BLOCKS_PER_MAP ≡ 0) × (m ≡ (b - 1) / BLOCKS_PER_MAP)
IsPart b (Page k) =
    (0 < b) × (0 < (b - 1) % BLOCKS_PER_MAP)
    × (k ≡ MAP_PAGE_ENTRIES * ((b - 1) / BLOCKS_PER_MAP) + (b - 1) % BLOCKS_PER_MAP - 1)
