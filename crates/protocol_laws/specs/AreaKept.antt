-- Which calls of the disk leave its swap area as it is.
use Rattle.std.specs.Prelude.{◌≢◌, ◌<◌, ℕ, List}
use Rattle.definitions.specs.Bytes.{IsPage}
use Rattle.definitions.specs.Disk.{Content, IsContent, Syncs, as_it_reads}
use Rattle.definitions.specs.SwapHeader.{IsMarked, marked, taken_back}
use Rattle.plain_machine.specs.Machine.{Hardware, block_of_slot}
use Rattle.plain_machine.specs.Chain.{header_of, Marked}
use Rattle.plain_machine.specs.Stands.{AgreeOnArea, IsHeader}
use Rattle.plain_machine.specs.UsableArea.{area_block}
use Rattle.image_laws.specs.ImageBlocks.{Tries}
use Rattle.protocol_laws.specs.Rows.{IsSameArea}

-- a write of another block, failed or not, and a sync
abbrev pub KeptByOtherWrite : Type 0
KeptByOtherWrite =
    (h : Hardware) (blocks b : ℕ) (page : List ℕ) (c c' : Content) → IsContent blocks c → b ≢ block_of_slot h 0 →
    Tries b page c c' → IsSameArea h (as_it_reads c) (as_it_reads c')

abbrev pub KeptBySync : Type 0
KeptBySync = (h : Hardware) (c c' : Content) → Syncs c c' → IsSameArea h (as_it_reads c) (as_it_reads c')

-- a write of block(0), failed or not: of an unmarked page that describes the same area as the block,
abbrev pub KeptByHeader : Type 0
KeptByHeader =
    (h : Hardware) (blocks : ℕ) (page : List ℕ) (c c' : Content) → IsContent blocks c → block_of_slot h 0 < blocks →
    IsPage page → (IsMarked page → ⊥) → AgreeOnArea page (area_block h (as_it_reads c)) →
    Tries (block_of_slot h 0) page c c' → IsSameArea h (as_it_reads c) (as_it_reads c')

-- of the block taken back,
abbrev pub KeptByTakingBack : Type 0
KeptByTakingBack =
    (h : Hardware) (blocks : ℕ) (c c' : Content) → IsContent blocks c → IsHeader h c → Marked h (as_it_reads c) →
    Tries (block_of_slot h 0) (taken_back (header_of h (as_it_reads c))) c c' →
    IsSameArea h (as_it_reads c) (as_it_reads c')

-- and of the block marked
abbrev pub KeptByMark : Type 0
KeptByMark =
    (h : Hardware) (blocks first flags hw : ℕ) (c c' : Content) → IsContent blocks c → block_of_slot h 0 < blocks →
    (Marked h (as_it_reads c) → ⊥) →
    Tries (block_of_slot h 0) (marked (header_of h (as_it_reads c)) first flags hw) c c' →
    IsSameArea h (as_it_reads c) (as_it_reads c')
