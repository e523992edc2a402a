-- What a discard makes of a disk.
use Rattle.std.specs.Prelude.{◌≡◌, ℕ, ◌≤◌, ◌⊎◌, List, Option, Some, None}
use Rattle.std.specs.Option.{IfSome}
use Rattle.definitions.specs.Disk.{Content, DiskImage, IsImage, as_it_reads, block, Writes, FailsToWrite, Syncs}
use Rattle.definitions.specs.Disk.{Changes}
use Rattle.definitions.specs.SwapHeader.{IsMarked, taken_back}
use Rattle.image_cli.specs.declared.unmarking.discarding.Discarded.{Discarded}
use Rattle.image_cli.specs.declared.unmarking.discarding.Discarded.TheVariants.{Done, NoImage, NoOriginal}
use Rattle.image_cli.specs.declared.unmarking.discarding.Fault.{Fault}
use Rattle.image_cli.specs.declared.unmarking.discarding.Fault.TheVariants.{Read, Write, Sync}

-- the page is what a block of the disk reads as, if the disk tells its content
abbrev pub Reads : ℕ → Option Content → List ℕ → Type 0
Reads b content page = IfSome content (λ held. page ≡ block (as_it_reads held) b)

-- the block is written with its mark taken back, and synced
abbrev pub TakesBack : ℕ → List ℕ → Content → Content → Type 0
TakesBack b page old new = (written : Content) × (Writes b (taken_back page) old written × Syncs written new)

-- what each end leaves
abbrev pub Ends : (header blocks : ℕ) → (old new : Option Content) → Discarded → Type 0
Ends header blocks old new Done =
    (page : List ℕ) × (Reads header old page × IsMarked page × Changes (TakesBack header page) old new)
Ends header blocks old new NoImage =
    (new ≡ old) × ((blocks ≤ header) ⊎ ((page : List ℕ) × (Reads header old page × (IsMarked page → ⊥))))
Ends header blocks old new NoOriginal =
    (new ≡ old) × ((page : List ℕ) × (Reads header old page × IsMarked page × IsMarked (taken_back page)))

-- what each failure leaves
abbrev pub Fails : ℕ → (old new : Option Content) → Fault → Type 0
Fails header old new Read = new ≡ old
Fails header old new Write =
    (page : List ℕ) × (Reads header old page × IsMarked page × Changes (FailsToWrite header (taken_back page)) old new)
Fails header old new Sync =
    (page : List ℕ) × (Reads header old page × IsMarked page × Changes (Writes header (taken_back page)) old new)

-- whatever a power cut leaves of the disk, the header block has no mark
abbrev pub LeavesNoImage : ℕ → Content → Type 0
LeavesNoImage header held = (v : DiskImage) → IsImage held v → IsMarked (block v header) → ⊥
