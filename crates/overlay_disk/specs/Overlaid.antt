-- What an overlay holds: the disk below as it reads, except for the block that was written over it.
use Rattle.std.specs.Prelude.{◌≡◌, ◌≢◌, ⊤, ℕ, List, Option, Some, None}
use Rattle.definitions.specs.Disk.{Content, DiskImage, as_it_reads, settled}
use Rattle.sector_disk.specs.Recorded.{after}
use Rattle.sector_disk.specs.declared.recorded.Recorded.TheVariants.{Write}
use Rattle.overlay_disk.specs.declared.kept.Kept.{Kept}

-- an image in which block b is replaced by a page
abbrev pub with_block : ℕ → List ℕ → DiskImage → DiskImage
with_block b page v = as_it_reads (after (settled v) (Write b page))

-- an image with the kept block, if any, in its place
abbrev pub overlaid : Option Kept → DiskImage → DiskImage
overlaid None v = v
overlaid (Some kept) v = with_block kept.block kept.page v

-- the overlay's content, if the disk below tells its own: it has one image
abbrev pub content_over : Option Kept → Option Content → Option Content
content_over kept None = None
content_over kept (Some held) = Some (settled (overlaid kept (as_it_reads held)))

-- block b may be written: either no block is kept, or it is block b
abbrev pub HasRoom : Option Kept → ℕ → Type 0
HasRoom None b = ⊤
HasRoom (Some kept) b = kept.block ≡ b

-- this page is kept of block b
abbrev pub Keeps : Option Kept → ℕ → List ℕ → Type 0
Keeps None b page = ⊥
Keeps (Some kept) b page = (kept.block ≡ b) × (kept.page ≡ page)

-- no page is kept of block b
abbrev pub KeepsNone : Option Kept → ℕ → Type 0
KeepsNone None b = ⊤
KeepsNone (Some kept) b = kept.block ≢ b
