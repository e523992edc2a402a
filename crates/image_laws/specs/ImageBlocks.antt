-- What a block may be after a power cut, in each image that the disk may be left as.
use Rattle.std.specs.Prelude.{◌≡◌, ◌≢◌, ℕ, ◌+◌, ◌*◌, ◌<◌, ◌⊎◌, List, [], Contains, slice_index_or}
use Rattle.definitions.specs.Disk.{Content, DiskImage, IsImage, IsContent, IsMixture, Writes, FailsToWrite, Syncs}
use Rattle.definitions.specs.Disk.{Restarts, as_it_reads, block, sector, sector_bytes}

-- in every image, block b is this page
abbrev pub AllHave : Content → ℕ → List ℕ → Type 0
AllHave c b page = (v : DiskImage) → IsImage c v → block v b ≡ page

-- in every image, block b is one of these two pages
abbrev pub AllHaveEither : Content → ℕ → List ℕ → List ℕ → Type 0
AllHaveEither c b p q = (v : DiskImage) → IsImage c v → (block v b ≡ p) ⊎ (block v b ≡ q)

-- in every image, each sector of block b has bytes that it might have had before, or those of the page
abbrev pub HaveEarlierOr : Content → Content → ℕ → List ℕ → Type 0
HaveEarlierOr old new b page =
    (v : DiskImage) → IsImage new v → (j : ℕ) → j < 8 →
    Contains (sector old (8 * b + j)).candidates (slice_index_or v (8 * b + j) [])
    ⊎ (slice_index_or v (8 * b + j) [] ≡ sector_bytes page j)

-- [written]: a block that was written reads as the page, and a cut may leave in each of its sectors earlier bytes or
-- those of the page
pub record IsWritten (b : ℕ) (page : List ℕ) (old new : Content) : Type 0 where
  pub reads : block (as_it_reads new) b ≡ page
  pub images : HaveEarlierOr old new b page

abbrev pub WrittenBlock : ℕ → List ℕ → Type 0
WrittenBlock b page =
    (blocks : ℕ) (old new : Content) → IsContent blocks old → b < blocks → Writes b page old new →
    IsWritten b page old new

-- a write of block b, failed or not
abbrev pub Tries : ℕ → List ℕ → Content → Content → Type 0
Tries b page old new = Writes b page old new ⊎ FailsToWrite b page old new

-- [torn]: if every image has the page p in block b, a write of q there, failed or not, leaves each image with p or q,
abbrev pub TornIsEither : List ℕ → List ℕ → Type 0
TornIsEither p q =
    (blocks b : ℕ) (old new : Content) → IsContent blocks old → b < blocks → AllHave old b p → Tries b q old new →
    AllHaveEither new b p q

-- [cut]: and so does a power cut in the middle of that write.
abbrev pub CutIsEither : List ℕ → List ℕ → Type 0
CutIsEither p q =
    (blocks b : ℕ) (old new : Content) → IsContent blocks old → b < blocks → AllHave old b p → Tries b q old new →
    (v : DiskImage) → IsMixture old new v → (block v b ≡ p) ⊎ (block v b ≡ q)

-- [tried again]: if every image has p or q in block b, every image still does after a write of either of them there,
-- failed or not.
abbrev pub StaysEither : List ℕ → List ℕ → Type 0
StaysEither p q =
    (blocks b : ℕ) (old new : Content) → IsContent blocks old → b < blocks → AllHaveEither old b p q →
    Tries b p old new ⊎ Tries b q old new → AllHaveEither new b p q

-- [kept]: a block that is the same page in every image stays so: after writes elsewhere and in cuts of them, after a
-- sync, and after a restart
abbrev pub KeptByWrites : ℕ → List ℕ → Type 0
KeptByWrites b page =
    (blocks other : ℕ) (written : List ℕ) (old new : Content) → IsContent blocks old → b < blocks → other ≢ b →
    AllHave old b page →
    Tries other written old new → AllHave new b page

abbrev pub KeptInCuts : ℕ → List ℕ → Type 0
KeptInCuts b page =
    (blocks other : ℕ) (written : List ℕ) (old new : Content) → IsContent blocks old → b < blocks → other ≢ b →
    AllHave old b page →
    Tries other written old new → (v : DiskImage) → IsMixture old new v → block v b ≡ page

abbrev pub KeptBySync : ℕ → List ℕ → Type 0
KeptBySync b page =
    (blocks : ℕ) (old new : Content) → IsContent blocks old → AllHave old b page → Syncs old new → AllHave new b page

abbrev pub KeptByRestart : ℕ → List ℕ → Type 0
KeptByRestart b page = (old new : Content) → AllHave old b page → Restarts old new → AllHave new b page

-- [durable]: after a write and a sync, every image has the page
abbrev pub DurableAfterSync : ℕ → List ℕ → Type 0
DurableAfterSync b page =
    (blocks : ℕ) (old written synced : Content) → IsContent blocks old → b < blocks → Writes b page old written →
    Syncs written synced → AllHave synced b page
